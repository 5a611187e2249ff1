-- Numbers: what a text of one is made of, what it reads as, and how a quantity is printed. Assumes nothing.
use Rattle.std.specs.Prelude.{◌≡◌, ℕ, zero, suc, ◌+◌, ◌-◌, ◌*◌, ◌/◌, ◌%◌, ◌^◌, ◌<◌, ◌≤◌, Bool, true, false, cond, List, [], ◌∷◌, ◌++◌, length, take, ℤ, pos, negsuc, neg_ℤ, is_some, Some, None, Option, ◌==◌, ◌≢◌, nat_lt, slice_index_or, unsigned_abs}
use Rattle.std.specs.Option.{option_map}
use Rattle.std.specs.Str.Parse.{AllDigits, digits_value}
use Rattle.std.specs.Char.{is_ascii_digit}
use Rattle.grammar.specs.Numerals.{numeral}
use Rattle.grammar.specs.declared.quantity.Quantity.{Quantity}

-- what a quantity counts
abbrev pub millionths_of : Quantity → ℤ
millionths_of q = q.millionths

-- THE RULE, BY PARTS

-- the parts of a number: a minus or none, the digits before the point, and those after it
pub record Parts : Type 0 where
  pub minus : Bool
  pub whole : List ℕ
  pub fraction : List ℕ

-- the byte of a minus, where there is one
abbrev pub sign_text : Bool → List ℕ
sign_text true = 45 ∷ []
sign_text false = []

-- a point and the digits after it; no point where there are none
abbrev pub pointed : List ℕ → List ℕ
pointed [] = []
pointed (d ∷ ds) = 46 ∷ d ∷ ds

-- the bytes that these parts make up
abbrev pub spelled : Parts → List ℕ
spelled p = sign_text p.minus ++ (p.whole ++ pointed p.fraction)

-- one to four digits, and then none or one to six after a point
pub record Lawful (p : Parts) : Type 0 where
  pub whole_digits : AllDigits 10 p.whole
  pub whole_some : 1 ≤ length p.whole
  pub whole_few : length p.whole ≤ 4
  pub fraction_digits : AllDigits 10 p.fraction
  pub fraction_few : length p.fraction ≤ 6

-- a size with its sign
abbrev pub signed : Bool → ℕ → ℤ
signed true n = neg_ℤ (pos n)
signed false n = pos n

-- millionths: the digits as one number, times ten for each of the six decimals that is not written
abbrev pub size_of : Parts → ℕ
size_of p = digits_value 10 (p.whole ++ p.fraction) * 10 ^ (6 - length p.fraction)

abbrev pub value_of : Parts → ℤ
value_of p = signed p.minus (size_of p)

-- these bytes are a number, and v is what it counts in millionths
pub record Reads (bs : List ℕ) (v : ℤ) : Type 0 where
  pub parts : Parts
  pub text : bs ≡ spelled parts
  pub lawful : Lawful parts
  pub value : v ≡ value_of parts

-- THE SAME, COMPUTED

-- after the point: k digits are read there, and n is the number that all digits write so far
abbrev pub after_point : ℕ → ℕ → List ℕ → Option ℕ
after_point k n [] = cond (k == 0) None (Some (n * 10 ^ (6 - k)))
after_point k n (c ∷ cs) = cond (is_ascii_digit c) (cond (nat_lt k 6) (after_point (k + 1) (n * 10 + (c - 48)) cs) None) None

-- before the point: k digits are read, and they write n
abbrev pub before_point : ℕ → ℕ → List ℕ → Option ℕ
before_point k n [] = cond (k == 0) None (Some (n * 10 ^ 6))
before_point k n (c ∷ cs) = cond (is_ascii_digit c) (cond (nat_lt k 4) (before_point (k + 1) (n * 10 + (c - 48)) cs) None) (cond (c == 46) (cond (k == 0) None (after_point 0 n cs)) None)

-- the millionths that these bytes write, if they are a number
abbrev pub number_of : List ℕ → Option ℤ
number_of [] = None
number_of (c ∷ cs) = cond (c == 45) (option_map (signed true) (before_point 0 0 cs)) (option_map (signed false) (before_point 0 0 (c ∷ cs)))

-- the two agree: bytes are read exactly where they have lawful parts, and as the value of these
abbrev pub Exact : List ℕ → Type 0
Exact bs = (v : ℤ) → (number_of bs ≡ Some v → Reads bs v) × (Reads bs v → number_of bs ≡ Some v)

-- some number begins with the first k of these bytes, and none with more of them
pub record LongestBeginning (bs : List ℕ) (k : ℕ) : Type 0 where
  pub within : k ≤ length bs
  pub begins : (cs : List ℕ) × (is_some (number_of (take k bs ++ cs)) ≡ true)
  pub stops : (j : ℕ) → k < j → j ≤ length bs → (cs : List ℕ) → number_of (take j bs ++ cs) ≡ None

-- PRINTING

-- the last k digits of n, with leading zeros
abbrev pub places : ℕ → ℕ → List ℕ
places zero n = []
places (suc k) n = places k (n / 10) ++ ((48 + n % 10) ∷ [])

-- the same without trailing zeros
unfoldable pub trimmed : ℕ → ℕ → List ℕ
trimmed zero n = []
trimmed (suc k) n = cond (n % 10 == 0) (trimmed k (n / 10)) (places (suc k) n)

-- THE SHOWN DECIMALS: these two definitions say how many are shown, and nothing else does

-- the decimals that are shown of n millionths, n below a million: all but the trailing zeros
unfoldable pub shown : ℕ → List ℕ
shown n = trimmed 6 n

-- which decimals may be shown: none that end in a zero
abbrev pub PlainFraction : List ℕ → Type 0
PlainFraction fs = (ds : List ℕ) → fs ≢ ds ++ (48 ∷ [])

abbrev pub negative : ℤ → Bool
negative (pos n) = false
negative (negsuc n) = true

-- the parts that are printed: the digits before the point are those of a whole number
abbrev pub printed_parts : ℤ → Parts
printed_parts v = record { minus = negative v; whole = numeral 10 (unsigned_abs v / 1000000); fraction = shown (unsigned_abs v % 1000000) }

abbrev pub printed : ℤ → List ℕ
printed v = spelled (printed_parts v)

-- no needless zeros, and no minus at zero
pub record Plain (p : Parts) : Type 0 where
  pub no_leading : slice_index_or p.whole 0 0 ≡ 48 → length p.whole ≡ 1
  pub no_trailing : PlainFraction p.fraction
  pub no_minus_zero : p.minus ≡ true → 0 < size_of p

-- the printed form of v reads as v and is plain, and no other plain text reads as v
pub record Canonical (v : ℤ) : Type 0 where
  pub back : number_of (printed v) ≡ Some v
  pub lawful : Lawful (printed_parts v)
  pub plain : Plain (printed_parts v)
  pub only : (p : Parts) → Lawful p → Plain p → value_of p ≡ v → spelled p ≡ printed v
