use Rattle.std.proofs.Common.{◌≡◌, ℕ, ◌+◌, ◌-◌, ◌*◌, ◌^◌, ◌<◌, sym, subst, arith}
use Rattle.grammar.proofs.Reading.{more-digits}
use Rattle.grammar.proofs.numbers.digits.Digits.more.Goals as goal

pub invariant_of-result : goal.invariant_of-result
invariant_of-result g c =
    let d = c.args.self in
    let e : g.row.BEFORE + d.count + 1 ≡ g.row.BEFORE + (d.count + 1) = omega arith in
    record {
      few = omega arith;
      small = subst (λ (p : ℕ × ℕ). d.n * 10 + p.0 < 10 ^ p.1) (λ i. (sym c.from.ensures i, e i)) (more-digits (g.row.BEFORE + d.count) d.n (c.args.c - 48) d.small (omega arith));
    }
