use Rattle.std.proofs.Common.{◌≡◌, ◌/◌, ◌%◌, ◌++◌, length, ℤ, pos, negsuc, nat_abs, refl, ap, ◌∙◌, arith, w64, SFits, to_z, of_z, rules}
use lib.Signed.{lt_z}
use Rattle.std.proofs.lemmas.Int.{to_z-of_z}
use Rattle.std.proofs.lemmas.Bool.{le-ltb}
use Rattle.grammar.specs.Numbers.{sign_text, negative, pointed, shown}
use Rattle.grammar.specs.Numerals.{numeral}
use Rattle.grammar.proofs.Canon.{within, canonical, printed-short}
use Rattle.grammar.proofs.numbers.print.print_number.Goals as goal

sign-test : (v : ℤ) → lt_z v (pos 0) ≡ negative v
sign-test (pos n) = le-ltb n 0 (omega arith)
sign-test (negsuc n) = refl

-- the quantity and its size, as the code has them
code_same : (z v : ℤ) → SFits w64 z → z ≡ v → to_z w64 (of_z w64 z) ≡ v
code_same z v f e = to_z-of_z w64 z f ∙ e

pub returns : goal.returns
returns c =
    let range = within c.args.q.millionths c.args.q.low c.args.q.high in
    let same = code_same _ c.args.q.millionths (search rules) c.millionths-v.ensures.value in
    let size = c.unsigned_abs-size.ensures.value ∙ ap nat_abs same in
    let sign = ap (λ z. lt_z z (pos 0)) same ∙ sign-test c.args.q.millionths in
    let value = c.print_parts.ensures.value ∙ (λ t. sign_text (sign t) ++ (numeral 10 (size t / 1000000) ++ pointed (shown (size t % 1000000)))) in
    record { value = value; bound = omega (arith, ap length value, printed-short c.args.q.millionths range); canonical = canonical c.args.q.millionths range }
