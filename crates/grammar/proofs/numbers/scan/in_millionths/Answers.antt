use Rattle.std.proofs.Common.{◌≡◌, ℕ, ◌+◌, ◌-◌, ◌*◌, ◌^◌, ◌<◌, ◌≤◌, ap, arith}
use Rattle.grammar.proofs.Reading.{scaled}
use Rattle.grammar.proofs.numbers.scan.in_millionths.Goals as goal

small : (n k p : ℕ) → (k ≤ 6) × (n < 10 ^ (4 + k)) → p ≡ 10 ^ (6 - k) → n * p < 10 ^ 10
small n k p h e = omega (arith, scaled k n h.0 h.1, ap (λ x. n * x) e)

pub overflow_mul-result : goal.overflow_mul-result
overflow_mul-result c = omega (arith, small c.args.n c.args.count c.pow.result c.requires c.pow.ensures)

pub returns-clause-bound : goal.returns-clause-bound
returns-clause-bound c = small c.args.n c.args.count c.pow.result c.requires c.pow.ensures
