-- Numerals: digits in a base, as indices, counts and masks have them. Assumes nothing.
use Rattle.std.specs.Prelude.{◌≡◌, ℕ, ◌+◌, ◌<◌, ◌≤◌, Bool, true, cond, ◌&&◌, List, [], ◌∷◌, map, length, Some, None, Option, ◌==◌, nat_le, nat_lt, slice_index_or}
use Rattle.std.specs.Str.Parse.{AllDigits, digits_value}
use Rattle.std.specs.Char.{digit_value}
use Rattle.std.specs.Int.Digits.{digits_of}
use Rattle.std.specs.List.{AllByRecursion}

-- THE RULE: one to so many digits of a base, and the number that they write
pub record ReadsNumeral (base most : ℕ) (bs : List ℕ) (n : ℕ) : Type 0 where
  pub digits : AllDigits base bs
  pub some : 1 ≤ length bs
  pub few : length bs ≤ most
  pub size : n ≡ digits_value base bs

-- THE SAME, COMPUTED
abbrev pub all_digits : ℕ → List ℕ → Bool
all_digits base [] = true
all_digits base (c ∷ cs) = nat_lt (digit_value c) base && all_digits base cs

unfoldable pub numeral_of : ℕ → ℕ → List ℕ → Option ℕ
numeral_of base most bs = cond (all_digits base bs && (nat_le 1 (length bs) && nat_le (length bs) most)) (Some (digits_value base bs)) None

-- the two agree
abbrev pub ExactNumeral : ℕ → ℕ → List ℕ → Type 0
ExactNumeral base most bs = (n : ℕ) → (numeral_of base most bs ≡ Some n → ReadsNumeral base most bs n) × (ReadsNumeral base most bs n → numeral_of base most bs ≡ Some n)

-- PRINTING

-- the digit that counts d: 0 to 9, then A to Z
abbrev pub digit_char : ℕ → ℕ
digit_char d = cond (nat_lt d 10) (48 + d) (55 + d)

-- the digits of n; zero has the one digit 0
unfoldable pub numeral : ℕ → ℕ → List ℕ
numeral base n = cond (n == 0) (48 ∷ []) (map digit_char (digits_of base n))

-- no lower-case digit, and no leading zero but in 0 itself
pub record PlainNumeral (ds : List ℕ) : Type 0 where
  pub upper : AllByRecursion (λ c. c < 97) ds
  pub no_leading : slice_index_or ds 0 0 ≡ 48 → length ds ≡ 1

-- the digits of n write n and are plain, and no other plain digits write n
pub record CanonicalNumeral (base n : ℕ) : Type 0 where
  pub back : (most : ℕ) → length (numeral base n) ≤ most → numeral_of base most (numeral base n) ≡ Some n
  pub plain : PlainNumeral (numeral base n)
  pub only : (most : ℕ) (ds : List ℕ) → numeral_of base most ds ≡ Some n → PlainNumeral ds → ds ≡ numeral base n
