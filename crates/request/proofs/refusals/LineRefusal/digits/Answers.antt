use Rattle.std.proofs.Common.{◌≡◌, ℕ, ◌+◌, ◌<◌, ◌/◌, ◌%◌, Some, ap, ◌∙◌, arith}
use Rattle.std.specs.Char.{digit_value}
use Rattle.grammar.proofs.Places.{digit-of}
use Rattle.grammar.specs.Numerals.{numeral_of}
use Rattle.request.specs.Refusals.{two_digits}
use Rattle.request.proofs.refusals.LineRefusal.digits.Goals as goal

-- what two decimal digits read back as
read-back : (n : ℕ) → n < 100 → numeral_of 10 2 (two_digits n) ≡ Some n
unfolding numeral_of
read-back n h =
    let q : digit_value (48 + n / 10) ≡ n / 10 = digit-of (n / 10) (omega arith) in
    let r : digit_value (48 + n % 10) ≡ n % 10 = digit-of (n % 10) (omega arith) in
    rw (q, r) (grind arith)

pub returns-clause-back : goal.returns-clause-back
returns-clause-back c = read-back _ c.number-n.ensures.bound ∙ ap Some c.number-n.ensures.value
