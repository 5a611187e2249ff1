use Rattle.std.proofs.Common.{◌≡◌, ℕ, ◌+◌, List, map, ℤ, sym, ap, subst, arith}
use Rattle.std.proofs.lemmas.Grind.{common_steps}
use Rattle.control.specs.Ramps.{Course, course_of, pace_in, ticked_by, position, total, Ramped}
use Rattle.control.proofs.Courses.{ramped}
use Rattle.control.proofs.ramp.Ramp.run.Goals as goal

pub returns-clause-run : goal.returns-clause-run
returns-clause-run c =
    let k : Course = course_of c.args.self.now in
    let ps : List ℕ = map pace_in c.args.rates.now in
    let after : course_of c.loop-rate.self ≡ ticked_by k ps = grind (arith, common_steps, c.loop-rate.invariant) in
    let P : ℤ → Type 0 = λ v. Ramped k.start k.target (k.sum + total ps) v in
    subst P (sym (ap position after)) (ramped k ps c.args.self.now.bounded)
