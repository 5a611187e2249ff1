-- Masks: what a text of one is made of, what it reads as, and how a mask is printed. Assumes nothing.
use Rattle.std.specs.Prelude.{◌≡◌, ℕ, cond, ◌&&◌, ◌||◌, ◌⊎◌, List, [], ◌∷◌, Some, None, Option, ◌==◌}
use Rattle.grammar.specs.Numerals.{ReadsNumeral, numeral_of, numeral, PlainNumeral}

-- THE RULE, BY PARTS: 0x or 0X, and one to eight hexadecimal digits of either case
pub record ReadsMask (bs : List ℕ) (m : ℕ) : Type 0 where
  pub mark : ℕ
  pub digits : List ℕ
  pub text : bs ≡ 48 ∷ mark ∷ digits
  pub marked : (mark ≡ 120) ⊎ (mark ≡ 88)
  pub reads : ReadsNumeral 16 8 digits m

-- THE SAME, COMPUTED
abbrev pub mask_of : List ℕ → Option ℕ
mask_of [] = None
mask_of (a ∷ []) = None
mask_of (a ∷ b ∷ ds) = cond (a == 48 && (b == 120 || b == 88)) (numeral_of 16 8 ds) None

-- the two agree: bytes are read exactly where they have lawful parts, and as the value of these
abbrev pub ExactMask : List ℕ → Type 0
ExactMask bs = (m : ℕ) → (mask_of bs ≡ Some m → ReadsMask bs m) × (ReadsMask bs m → mask_of bs ≡ Some m)

-- PRINTING: 0x, and upper-case digits without leading zeros; zero is 0x0
abbrev pub printed_mask : ℕ → List ℕ
printed_mask m = 48 ∷ 120 ∷ numeral 16 m

-- the printed form of m reads as m and is plain, and no other plain digits after 0x read as m
pub record CanonicalMask (m : ℕ) : Type 0 where
  pub back : mask_of (printed_mask m) ≡ Some m
  pub plain : PlainNumeral (numeral 16 m)
  pub only : (ds : List ℕ) → mask_of (48 ∷ 120 ∷ ds) ≡ Some m → PlainNumeral ds → 48 ∷ 120 ∷ ds ≡ printed_mask m
