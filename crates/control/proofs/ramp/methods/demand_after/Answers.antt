use Rattle.std.proofs.Common.{ℕ, ◌+◌, map, subst, zero-add}
use Rattle.control.specs.Ramps.{Course, pace_in, total, Ramped}
use Rattle.control.proofs.ramp.methods.demand_after.Goals as goal

pub returns : goal.returns
returns c =
    let n : ℕ = total (map pace_in c.args.rates.now) in
    let At : Course → Type 0 = λ k. Ramped k.start k.target (k.sum + n) c.position.result.millionths in
    record { run = rw (← zero-add n) (subst At c.new-ramp.ensures.value (rw c.position.ensures.value c.run.ensures.run)) }
