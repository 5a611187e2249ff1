-- Masks: what 0x and digits read as, and the one plain text of a mask. Assumes nothing.
use Rattle.std.proofs.Common.{◌≡◌, ℕ, ◌^◌, ◌<◌, ◌≤◌, true, false, ◌&&◌, ◌||◌, eqb, ◌⊎◌, List, [], ◌∷◌, length, get_or, drop, Some, None, Option, sym, refl, ap, ◌∙◌, inl, inr, ⊎_elim, arith}
use Rattle.std.proofs.lemmas.Option.{none-some}
use Rattle.std.proofs.lemmas.Bool.{and_parts, and_from, or_cases, or_left, or_right, eq-eqb, eqb-true, cases_Bool}
use Rattle.grammar.specs.Masks.{ReadsMask, mask_of, ExactMask, CanonicalMask}
use Rattle.grammar.specs.Numerals.{numeral_of, numeral}
use Rattle.grammar.proofs.Radix.{read, parts, numeral-short, canonical}

pub mask_at : (text : List ℕ) → 2 ≤ length text → get_or text 0 0 ≡ 48 → (get_or text 1 0 ≡ 120) ⊎ (get_or text 1 0 ≡ 88) → numeral_of 16 8 (drop 2 text) ≡ mask_of text
mask_at [] h a b = absurd (omega arith)
mask_at (x ∷ []) h a b = absurd (omega arith)
mask_at (x ∷ y ∷ ds) h a b =
    let t : (eqb x 48 && (eqb y 120 || eqb y 88)) ≡ true = and_from _ _ (eq-eqb x 48 a) (⊎_elim (λ p. or_left _ _ (eq-eqb y 120 p)) (λ p. or_right _ _ (eq-eqb y 88 p)) b) in
    rw t

-- digits after 0x
after-mark : (ds : List ℕ) → numeral_of 16 8 ds ≡ mask_of (48 ∷ 120 ∷ ds)
after-mark ds = mask_at (48 ∷ 120 ∷ ds) (omega arith) refl (inl refl)

to-mask : (bs : List ℕ) (m : ℕ) → mask_of bs ≡ Some m → ReadsMask bs m
to-mask [] m e = absurd (none-some m e)
to-mask (a ∷ []) m e = absurd (none-some m e)
to-mask (a ∷ b ∷ ds) m e =
    ⊎_elim
    (λ (t : (eqb a 48 && (eqb b 120 || eqb b 88)) ≡ true).
    let p = and_parts (eqb a 48) (eqb b 120 || eqb b 88) t in
    record {
      mark = b;
      digits = ds;
      text = ap (λ x. x ∷ b ∷ ds) (eqb-true a 48 p.0);
      marked = ⊎_elim (λ q. inl (eqb-true b 120 q)) (λ q. inr (eqb-true b 88 q)) (or_cases (eqb b 120) (eqb b 88) p.1);
      reads = parts 16 8 ds m (rw t at e);
    })
    (λ (t : (eqb a 48 && (eqb b 120 || eqb b 88)) ≡ false). let e' : ◌≡◌ {A = Option ℕ} None (Some m) = rw t at e in absurd (none-some m e'))
    (cases_Bool (eqb a 48 && (eqb b 120 || eqb b 88)))

from-mask : (bs : List ℕ) (m : ℕ) → ReadsMask bs m → mask_of bs ≡ Some m
from-mask bs m r = ap mask_of r.text ∙ sym (mask_at (48 ∷ r.mark ∷ r.digits) (omega arith) refl r.marked) ∙ read r.reads

pub mask-exactly : (bs : List ℕ) → ExactMask bs
mask-exactly bs m = (to-mask bs m, from-mask bs m)

pub mask-short : (m : ℕ) → m < 2 ^ 32 → length (numeral 16 m) ≤ 8
mask-short m h = numeral-short 16 (omega arith) (omega arith) 8 m (omega arith) h

pub canonical-mask : (m : ℕ) → m < 2 ^ 32 → CanonicalMask m
canonical-mask m h =
    let c = canonical 16 (omega arith) (omega arith) m in
    record {
      back = sym (after-mark (numeral 16 m)) ∙ c.back 8 (mask-short m h);
      plain = c.plain;
      only = λ ds e p. ap (λ x. 48 ∷ 120 ∷ x) (c.only 8 ds (after-mark ds ∙ e) p);
    }
