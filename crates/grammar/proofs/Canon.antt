-- The printed form is canonical. Assumes nothing.
use Rattle.std.proofs.Common.{◌≡◌, ℕ, zero, suc, ◌+◌, ◌-◌, ◌*◌, ◌/◌, ◌%◌, ◌^◌, ◌<◌, ◌≤◌, Bool, true, false, List, [], ◌∷◌, ◌++◌, length, get_or, ℤ, pos, negsuc, nat_abs, ◌≤ℤ◌, Some, sym, refl, ap, ◌∙◌, mul_assoc, add-mul, mul-lt-mul_of_pos_right, arith, length-append, pow-add}
use native.Mathlib.Nat.{pow-le-pow_right}
use Rattle.std.specs.Str.Parse.{AllDigits, digits_value}
use Rattle.std.proofs.lemmas.Nat.{div-mul-add, mod-mul-add}
use Rattle.std.proofs.lemmas.Int.Digits.{digits_value-lt}
use Rattle.std.proofs.lemmas.Str.Parse.{digit_from_value}
use Rattle.std.specs.List.{AllByRecursion}
use Rattle.std.proofs.lemmas.Bool.{true≢false}
use Rattle.grammar.specs.Numbers.{Parts, Lawful, Plain, Canonical, sign_text, pointed, signed, negative, size_of, value_of, spelled, printed_parts, printed, shown}
use Rattle.std.proofs.lemmas.Int.{ints}
use Rattle.grammar.specs.Range.{least, most}
use Rattle.grammar.specs.Numerals.{numeral, PlainNumeral}
use Rattle.grammar.proofs.Radix.{Written, written, numeral-short, numeral-only}
use Rattle.grammar.proofs.Exactness.{from_parts}
use Rattle.grammar.proofs.Places.{value-append}
use Rattle.grammar.proofs.Shown.{shown-digits, shown-few, shown-size, shown-plain, shown-only}

-- the range of a quantity, by its size
abbrev pub Within : ℤ → Type 0
Within v = nat_abs v ≤ 9999999999

pub within : (v : ℤ) → least ≤ℤ v → v ≤ℤ most → Within v
within (pos n) l h = omega (arith, ints)
within (negsuc n) l h = omega (arith, ints)

size-split : (ws fs : List ℕ) → length fs ≤ 6 → digits_value 10 (ws ++ fs) * 10 ^ (6 - length fs) ≡ digits_value 10 ws * 1000000 + digits_value 10 fs * 10 ^ (6 - length fs)
size-split ws fs few =
    let j : length fs + (6 - length fs) ≡ 6 = omega arith in
    let p : 10 ^ length fs * 10 ^ (6 - length fs) ≡ 1000000 = sym (pow-add 10 (length fs) (6 - length fs)) ∙ ap (λ x. 10 ^ x) j in
    ap (λ x. x * 10 ^ (6 - length fs)) (value-append ws fs) ∙ add-mul (digits_value 10 ws * 10 ^ length fs) (digits_value 10 fs) (10 ^ (6 - length fs))
    ∙ ap (λ x. x + digits_value 10 fs * 10 ^ (6 - length fs)) (mul_assoc (digits_value 10 ws) (10 ^ length fs) (10 ^ (6 - length fs)) ∙ ap (λ x. digits_value 10 ws * x) p)

fraction-lt : (fs : List ℕ) → AllDigits 10 fs → length fs ≤ 6 → digits_value 10 fs * 10 ^ (6 - length fs) < 1000000
fraction-lt fs d few =
    let p : 0 < 10 ^ (6 - length fs) = pow-le-pow_right (omega arith) {i = 0} {j = 6 - length fs} (omega arith) in
    let a : digits_value 10 fs * 10 ^ (6 - length fs) < 10 ^ length fs * 10 ^ (6 - length fs) = mul-lt-mul_of_pos_right (digits_value-lt 10 fs d) p in
    let j : length fs + (6 - length fs) ≡ 6 = omega arith in
    let b : 10 ^ length fs * 10 ^ (6 - length fs) ≡ 1000000 = sym (pow-add 10 (length fs) (6 - length fs)) ∙ ap (λ x. 10 ^ x) j in
    omega arith

signed-abs : (v : ℤ) → signed (negative v) (nat_abs v) ≡ v
signed-abs (pos n) = refl
signed-abs (negsuc n) = refl

abs-signed : (m : Bool) (n : ℕ) → nat_abs (signed m n) ≡ n
abs-signed true zero = refl
abs-signed true (suc n) = refl
abs-signed false n = refl

sign-signed : (m : Bool) (n : ℕ) → (m ≡ true → 0 < n) → negative (signed m n) ≡ m
sign-signed true zero h = absurd (let z = h refl in omega arith)
sign-signed true (suc n) h = refl
sign-signed false n h = refl

negative-some : (v : ℤ) → negative v ≡ true → 0 < nat_abs v
negative-some (pos n) e = absurd (true≢false (sym e))
negative-some (negsuc n) e = omega arith

-- decimal digits have no lower case
decimal-upper : (ds : List ℕ) → AllDigits 10 ds → AllByRecursion (λ c. c < 97) ds
decimal-upper [] d = tt
decimal-upper (c ∷ cs) d = (let b = digit_from_value c d.0 in omega arith, decimal-upper cs d.1)

plain-digits : (ds : List ℕ) → AllDigits 10 ds → (get_or ds 0 0 ≡ 48 → length ds ≡ 1) → PlainNumeral ds
plain-digits ds d n = record { upper = decimal-upper ds d; no_leading = n }

module _ (v : ℤ) (h : Within v) where
  q-small : nat_abs v / 1000000 < 10 ^ 4
  q-small = omega arith

  r_small : nat_abs v % 1000000 < 10 ^ 6
  r_small = omega arith

  whole-few : length (numeral 10 (nat_abs v / 1000000)) ≤ 4
  whole-few = numeral-short 10 (omega arith) (omega arith) 4 (nat_abs v / 1000000) (omega arith) q-small

  whole : Written 10 (omega arith) (omega arith) (nat_abs v / 1000000)
  whole = written 10 (omega arith) (omega arith) (nat_abs v / 1000000)

  printed-lawful : Lawful (printed_parts v)
  printed-lawful = record {
    whole_digits = whole.digits;
    whole_some = whole.some;
    whole_few = whole-few;
    fraction_digits = shown-digits _ r_small;
    fraction_few = shown-few _ r_small;
  }

  printed-size : size_of (printed_parts v) ≡ nat_abs v
  printed-size =
      let a = size-split (numeral 10 (nat_abs v / 1000000)) (shown (nat_abs v % 1000000)) (shown-few _ r_small) in
      let b = whole.size in
      let c = shown-size (nat_abs v % 1000000) r_small in
      omega arith

  printed-value : value_of (printed_parts v) ≡ v
  printed-value = ap (signed (negative v)) printed-size ∙ signed-abs v

  pub canonical : Canonical v
  canonical = record {
    back = from_parts (printed_parts v) printed-lawful ∙ ap Some printed-value;
    lawful = printed-lawful;
    plain = record { no_leading = whole.plain.no_leading; no_trailing = shown-plain _ r_small; no_minus_zero = λ e. omega (arith, printed-size, negative-some v e) };
    only = λ p l c e. only p l c e;
  }
    where
      only : (p : Parts) → Lawful p → Plain p → value_of p ≡ v → spelled p ≡ printed v
      only p l c e =
          let s = size-split p.whole p.fraction l.fraction_few in
          let f = fraction-lt p.fraction l.fraction_digits l.fraction_few in
          let w = digits_value-lt 10 p.whole l.whole_digits in
          let n : size_of p ≡ nat_abs v = sym (abs-signed p.minus (size_of p)) ∙ ap nat_abs e in
          let big : 10 ^ length p.whole ≤ 10 ^ 4 = pow-le-pow_right (omega arith) {i = length p.whole} {j = 4} l.whole_few in
          let q : nat_abs v / 1000000 ≡ digits_value 10 p.whole = ap (λ x. x / 1000000) (sym n ∙ s) ∙ div-mul-add (digits_value 10 p.whole) 1000000 _ f in
          let r : nat_abs v % 1000000 ≡ digits_value 10 p.fraction * 10 ^ (6 - length p.fraction) = ap (λ x. x % 1000000) (sym n ∙ s) ∙ mod-mul-add (digits_value 10 p.whole) 1000000 _ f in
          let a : negative v ≡ p.minus = ap negative (sym e) ∙ sign-signed p.minus (size_of p) c.no_minus_zero in
          let b : numeral 10 (nat_abs v / 1000000) ≡ p.whole = ap (numeral 10) q ∙ sym (numeral-only 10 (omega arith) (omega arith) p.whole l.whole_digits l.whole_some (plain-digits p.whole l.whole_digits c.no_leading)) in
          let d : shown (nat_abs v % 1000000) ≡ p.fraction = ap shown r ∙ shown-only p.fraction l.fraction_digits l.fraction_few c.no_trailing in
          sym (λ t. spelled (record { minus = a t; whole = b t; fraction = d t }))

pub sign-short : (m : Bool) → length (sign_text m) ≤ 1
sign-short true = omega arith
sign-short false = omega arith

pointed-short : (fs : List ℕ) → length fs ≤ 6 → length (pointed fs) ≤ 7
pointed-short [] e = omega arith
pointed-short (f ∷ fs) e = omega arith

-- at most a minus, four digits, a point and six digits
pub printed-short : (v : ℤ) → Within v → length (printed v) ≤ 12
printed-short v h =
    let l = printed-lawful v h in
    let a = length-append (sign_text (negative v)) (numeral 10 (nat_abs v / 1000000) ++ pointed (shown (nat_abs v % 1000000))) in
    let b = length-append (numeral 10 (nat_abs v / 1000000)) (pointed (shown (nat_abs v % 1000000))) in
    omega (arith, sign-short (negative v), pointed-short (shown (nat_abs v % 1000000)) l.fraction_few, l.whole_few)
