use Rattle.std.proofs.Common.{◌≡◌, ℕ, List, [], ◌∷◌, ◌++◌, length, ap, ◌∙◌, arith}
use Rattle.grammar.specs.Numerals.{numeral}
use Rattle.grammar.proofs.Hexadecimal.{mask-short, canonical-mask}
use Rattle.grammar.proofs.masks.print_mask.Goals as goal

-- what stands before the digits
mark : {t u : List ℕ} → u ≡ t ++ (48 ∷ 120 ∷ []) → t ≡ [] → u ≡ 48 ∷ 120 ∷ []
mark e none = e ∙ ap (λ (t : List ℕ). t ++ (48 ∷ 120 ∷ [])) none

pub push_digits-requires : goal.push_digits-requires
push_digits-requires c = omega (arith, ap length (mark c.extend.ensures.bytes c.absent-text.ensures.value), ap (λ k. length (numeral 16 k)) c.from.ensures, mask-short c.args.mask (omega arith))

pub returns : goal.returns
returns c =
    let value = c.push_digits.ensures.bytes ∙ (λ i. mark c.extend.ensures.bytes c.absent-text.ensures.value i ++ numeral 16 (c.from.ensures i)) in
    record { value = value; bound = omega (arith, ap length value, mask-short c.args.mask (omega arith)); canonical = canonical-mask c.args.mask (omega arith) }
