-- Digits in a base: what they read as, and the one plain way to write a number in them. Assumes nothing.
use Rattle.std.proofs.Common.{◌≡◌, ℕ, zero, suc, ◌+◌, ◌*◌, ◌/◌, ◌%◌, ◌^◌, ◌<◌, ◌≤◌, true, false, ◌&&◌, ltb, leb, List, [], ◌∷◌, ◌++◌, map, length, get_or, take, Some, None, Option, sym, refl, ap, ◌∙◌, subst, ⊎_elim, append_assoc, mod-eq_of_lt, mul-le-mul_left, zero-mul, arith}
use native.Mathlib.Nat.{pow-le-pow_right, div-eq_of_lt}
use Rattle.std.specs.Str.Parse.{AllDigits, digits_value}
use Rattle.std.specs.Char.{digit_value}
use Rattle.std.specs.Int.Digits.{digits_of, number_from_digits, number_from_digits_after, AllBelowBase}
use Rattle.std.specs.List.{AllByRecursion}
use Rattle.std.proofs.lemmas.Nat.{div-mul-add, mod-mul-add, le-div}
use Rattle.std.proofs.lemmas.Int.Digits.{digits_of_step, length-digits_of-le, all_below_base_digits_of, first_digits_of, number_digits_of, number_after_ge, digits_value_is, digits_value-lt, digits_value_more, digits_more, all_below_base_from_digits}
use Rattle.std.proofs.lemmas.List.{map_push, length_push, length-map, length-take-le, append-nil, nil_from_length, get_or-map}
use Rattle.std.proofs.lemmas.Option.{none-some, same_Some}
use Rattle.std.proofs.lemmas.Bool.{and_parts, and_from, ne_eqb, lt-ltb, ltb-true, le-leb, leb-true, cases_Bool, cases_eq, cond-true, cond-false}
use Rattle.std.proofs.lemmas.Bool.Decides.{nat_tests}
use Rattle.grammar.specs.Numerals.{ReadsNumeral, all_digits, numeral_of, ExactNumeral, digit_char, numeral, PlainNumeral, CanonicalNumeral}

-- READING

all_from : (b : ℕ) (ds : List ℕ) → AllDigits b ds → all_digits b ds ≡ true
all_from b [] d = refl
all_from b (c ∷ cs) d = and_from _ _ (lt-ltb _ b d.0) (all_from b cs d.1)

all-to : (b : ℕ) (ds : List ℕ) → all_digits b ds ≡ true → AllDigits b ds
all-to b [] e = tt
all-to b (c ∷ cs) e = let p = and_parts (ltb (digit_value c) b) (all_digits b cs) e in (ltb-true _ b p.0, all-to b cs p.1)

digit-in : (b : ℕ) (ds : List ℕ) (i : ℕ) → AllDigits b ds → i < length ds → digit_value (get_or ds i 0) < b
digit-in b [] i d h = absurd (omega arith)
digit-in b (c ∷ cs) zero d h = d.0
digit-in b (c ∷ cs) (suc i) d h = digit-in b cs i d.1 (omega arith)

pub read : {b most : ℕ} {ds : List ℕ} {n : ℕ} → ReadsNumeral b most ds n → numeral_of b most ds ≡ Some n
unfolding numeral_of
read {b} {most} {ds} {n} r =
    cond-true _ _ _ (and_from _ _ (all_from b ds r.digits) (and_from _ _ (le-leb 1 (length ds) r.some) (le-leb (length ds) most r.few))) ∙ ap Some (sym r.size)

pub parts : (b most : ℕ) (ds : List ℕ) (n : ℕ) → numeral_of b most ds ≡ Some n → ReadsNumeral b most ds n
unfolding numeral_of
parts b most ds n e =
    ⊎_elim
    (λ (t : (all_digits b ds && (leb 1 (length ds) && leb (length ds) most)) ≡ true).
    let p = and_parts (all_digits b ds) (leb 1 (length ds) && leb (length ds) most) t in
    let q = and_parts (leb 1 (length ds)) (leb (length ds) most) p.1 in
    record {
      digits = all-to b ds p.0;
      some = leb-true 1 (length ds) q.0;
      few = leb-true (length ds) most q.1;
      size = same_Some n (digits_value b ds) (sym e ∙ cond-true _ _ _ t);
    })
    (λ (t : (all_digits b ds && (leb 1 (length ds) && leb (length ds) most)) ≡ false). absurd (none-some n (sym (cond-false _ (Some (digits_value b ds)) None t) ∙ e)))
    (cases_Bool (all_digits b ds && (leb 1 (length ds) && leb (length ds) most)))

pub reads-exactly : (b most : ℕ) (ds : List ℕ) → ExactNumeral b most ds
reads-exactly b most ds n = (parts b most ds n, read)

-- what is no numeral
pub not-read : (b most : ℕ) (ds : List ℕ) → ((n : ℕ) → ReadsNumeral b most ds n → ⊥) → None ≡ numeral_of b most ds
not-read b most ds h = go (numeral_of b most ds) refl
  where
    go : (o : Option ℕ) → numeral_of b most ds ≡ o → None ≡ o
    go None e = refl
    go (Some n) e = absurd (h n (parts b most ds n e))

pub no_digit : (b most : ℕ) (ds : List ℕ) (i : ℕ) → i < length ds → (digit_value (get_or ds i 0) < b → ⊥) → None ≡ numeral_of b most ds
no_digit b most ds i h big = not-read b most ds (λ n r. big (digit-in b ds i r.digits h))

-- at most k digits write less than the base to the power of k
pub room : (b : ℕ) (ds : List ℕ) (k : ℕ) → 1 ≤ b → AllDigits b ds → length ds ≤ k → digits_value b ds < b ^ k
room b ds k lo d few =
    let v = digits_value-lt b ds d in
    let p : b ^ length ds ≤ b ^ k = pow-le-pow_right lo {i = length ds} {j = k} few in
    omega arith

-- what one digit more makes of a number that is being read
pub record More (b : ℕ) (ds : List ℕ) (n : ℕ) : Type 0 where
  pub digits : AllDigits b ds
  pub size : n ≡ digits_value b ds
  pub fits : n < 2 ^ 32

pub one-more : {b most i n d : ℕ} (ds : List ℕ) → 2 ≤ b → i < length ds → length ds ≤ most → b ^ most ≤ 2 ^ 32 → (n ≡ digits_value b (take i ds)) × AllDigits b (take i ds) → (d ≡ digit_value (get_or ds i 0)) × (d < b) → More b (take (i + 1) ds) (n * b + d)
one-more {b} {most} {i} {n} {d} ds two h few fits (is, all) (counts, low) =
    let more = digits_more b ds i h all (omega arith) in
    let size : n * b + d ≡ digits_value b (take (i + 1) ds) = (λ t. is t * b + counts t) ∙ sym (digits_value_more b ds i h) in
    let l = length-take-le (i + 1) ds (omega arith) in
    let r = room b (take (i + 1) ds) most (omega arith) more (omega arith) in
    record { digits = more; size = size; fits = omega arith }

-- PRINTING

char-value : (d : ℕ) → d < 36 → digit_value (digit_char d) ≡ d
char-value d h = grind (arith, nat_tests)

value-char : (c : ℕ) → digit_value c < 36 → c < 97 → digit_char (digit_value c) ≡ c
value-char c h u = grind (arith, nat_tests)

char-upper : (d : ℕ) → d < 36 → digit_char d < 97
char-upper d h = grind (arith, nat_tests)

zero-char : (c : ℕ) → digit_value c ≡ 0 → c ≡ 48
zero-char c e = grind (arith, nat_tests)

first_char : (d : ℕ) → 0 < d → digit_char d ≡ 48 → ⊥
first_char d h e = grind (arith, nat_tests)

first_some : (xs : List ℕ) → 0 < get_or xs 0 0 → 1 ≤ length xs
first_some [] h = absurd (omega arith)
first_some (x ∷ xs) h = omega arith

numeral-zero : (b : ℕ) → numeral b 0 ≡ 48 ∷ []
unfolding numeral
numeral-zero b = refl

numeral-more : (b n : ℕ) → 0 < n → numeral b n ≡ map digit_char (digits_of b n)
unfolding numeral
numeral-more b n h = cond-false _ _ _ (ne_eqb n 0 (λ z. omega arith))

module _ (b : ℕ) (lo : 2 ≤ b) (hi : b ≤ 36) where
  chars-values : (xs : List ℕ) → AllBelowBase b xs → map digit_value (map digit_char xs) ≡ xs
  chars-values [] u = refl
  chars-values (x ∷ xs) u = λ t. char-value x (omega (arith, u.0)) t ∷ chars-values xs u.1 t

  values-chars : (cs : List ℕ) → AllDigits b cs → AllByRecursion (λ c. c < 97) cs → map digit_char (map digit_value cs) ≡ cs
  values-chars [] d u = refl
  values-chars (c ∷ cs) d u = λ t. value-char c (omega (arith, d.0)) u.0 t ∷ values-chars cs d.1 u.1 t

  chars-digits : (xs : List ℕ) → AllBelowBase b xs → AllDigits b (map digit_char xs)
  chars-digits [] u = tt
  chars-digits (x ∷ xs) u = (omega (arith, char-value x (omega (arith, u.0)), u.0), chars-digits xs u.1)

  chars-upper : (xs : List ℕ) → AllBelowBase b xs → AllByRecursion (λ c. c < 97) (map digit_char xs)
  chars-upper [] u = tt
  chars-upper (x ∷ xs) u = (char-upper x (omega (arith, u.0)), chars-upper xs u.1)

  one-digit : (d : ℕ) → 0 < d → d < b → digits_of b d ≡ d ∷ []
  one-digit d h l = digits_of_step b d lo h ∙ (λ t. digits_of b (div-eq_of_lt l t) ++ (mod-eq_of_lt l t ∷ []))

  -- one digit, and one digit more
  pub numeral-digit : (n : ℕ) → n < b → numeral b n ≡ digit_char n ∷ []
  numeral-digit zero h = numeral-zero b
  numeral-digit (suc n) h = numeral-more b (suc n) (omega arith) ∙ ap (map digit_char) (one-digit (suc n) (omega arith) h)

  pub numeral-step : (n : ℕ) → b ≤ n → numeral b n ≡ numeral b (n / b) ++ (digit_char (n % b) ∷ [])
  numeral-step n h =
      let some : 1 ≤ n / b = le-div 1 n b (omega arith) (omega arith) in
      numeral-more b n (omega arith) ∙ ap (map digit_char) (digits_of_step b n lo (omega arith)) ∙ map_push digit_char (digits_of b (n / b)) (n % b)
      ∙ ap (λ x. x ++ (digit_char (n % b) ∷ [])) (sym (numeral-more b (n / b) some))

  pub numeral-longer : (n : ℕ) → b ≤ n → length (numeral b n) ≡ length (numeral b (n / b)) + 1
  numeral-longer n h = ap length (numeral-step n h) ∙ length_push (numeral b (n / b)) (digit_char (n % b))

  pub record Written (n : ℕ) : Type 0 where
    pub digits : AllDigits b (numeral b n)
    pub some : 1 ≤ length (numeral b n)
    pub size : digits_value b (numeral b n) ≡ n
    pub plain : PlainNumeral (numeral b n)

  pub written : (n : ℕ) → Written n
  written zero = record {
    digits = subst (AllDigits b) (sym (numeral-zero b)) (omega arith, tt);
    some = omega (arith, ap length (numeral-zero b));
    size = ap (digits_value b) (numeral-zero b) ∙ zero-value;
    plain = record { upper = subst (AllByRecursion (λ c. c < 97)) (sym (numeral-zero b)) (omega arith, tt); no_leading = λ _. ap length (numeral-zero b) };
  }
    where
      zero-value : digits_value b (48 ∷ []) ≡ 0
      zero-value = omega (arith, zero-mul b)
  written (suc n) =
      let e = numeral-more b (suc n) (omega arith) in
      let u = all_below_base_digits_of b (suc n) lo in
      let f = first_digits_of b (suc n) lo (omega arith) in
      let l = first_some (digits_of b (suc n)) f in
      let m = length-map (digits_of b (suc n)) digit_char in
      let g : get_or (numeral b (suc n)) 0 0 ≡ digit_char (get_or (digits_of b (suc n)) 0 0) = ap (λ ds. get_or ds 0 0) e ∙ get_or-map digit_char (digits_of b (suc n)) 0 0 0 (omega arith) in
      record {
        digits = subst (AllDigits b) (sym e) (chars-digits _ u);
        some = omega (arith, ap length e);
        size = ap (digits_value b) e ∙ digits_value_is b (map digit_char (digits_of b (suc n))) ∙ ap (number_from_digits b) (chars-values _ u) ∙ number_digits_of b (suc n) lo;
        plain = record { upper = subst (AllByRecursion (λ c. c < 97)) (sym e) (chars-upper _ u); no_leading = λ z. absurd (first_char (get_or (digits_of b (suc n)) 0 0) f (sym g ∙ z)) };
      }

  pub numeral-short : (k n : ℕ) → 1 ≤ k → n < b ^ k → length (numeral b n) ≤ k
  numeral-short k zero h l = omega (arith, ap length (numeral-zero b))
  numeral-short k (suc n) h l = omega (arith, ap length (numeral-more b (suc n) (omega arith)), length-map (digits_of b (suc n)) digit_char, length-digits_of-le b k (suc n) lo l)

  -- digits after a number are the digits of the whole
  digits-after : (n : ℕ) (ds : List ℕ) → 0 < n → AllBelowBase b ds → digits_of b (number_from_digits_after b n ds) ≡ digits_of b n ++ ds
  digits-after n [] h u = sym (append-nil (digits_of b n))
  digits-after n (d ∷ ds) h u =
      let more : n ≤ n * b = grows n in
      digits-after (n * b + d) ds (omega arith) u.1
      ∙ ap (λ x. x ++ ds) (digits_of_step b (n * b + d) lo (omega arith) ∙ (λ t. digits_of b (div-mul-add n b d u.0 t) ++ (mod-mul-add n b d u.0 t ∷ [])))
      ∙ append_assoc (digits_of b n) (d ∷ []) ds
    where
      grows : (n : ℕ) → n ≤ n * b
      grows n = let p : n * 1 ≤ n * b = mul-le-mul_left n (omega arith) in omega arith

  -- plain digits are those of the number that they write
  pub numeral-only : (ds : List ℕ) → AllDigits b ds → 1 ≤ length ds → PlainNumeral ds → ds ≡ numeral b (digits_value b ds)
  numeral-only [] d some p = absurd (omega arith)
  numeral-only (c ∷ cs) d some p =
      ⊎_elim
      (λ (z : digit_value c ≡ 0).
      let c48 : c ≡ 48 = zero-char c z in
      let none : cs ≡ [] = nil_from_length cs (let l = p.no_leading c48 in omega arith) in
      let v : digits_value b (48 ∷ []) ≡ 0 = omega (arith, zero-mul b) in
      (λ t. c48 t ∷ none t) ∙ sym (numeral-zero b) ∙ ap (numeral b) (sym v ∙ sym (λ t. digits_value b (c48 t ∷ none t))))
      (λ (z : digit_value c ≡ 0 → ⊥).
      let pos : 0 < digit_value c = grind arith in
      let start : 0 * b + digit_value c ≡ digit_value c = omega (arith, zero-mul b) in
      let u = all_below_base_from_digits b (c ∷ cs) d in
      let v : digits_value b (c ∷ cs) ≡ number_from_digits_after b (digit_value c) (map digit_value cs) = digits_value_is b (c ∷ cs) ∙ ap (λ n. number_from_digits_after b n (map digit_value cs)) start in
      let big = number_after_ge b (digit_value c) (map digit_value cs) (omega arith) in
      sym (values-chars (c ∷ cs) d p.upper)
      ∙ ap (map digit_char) (sym (ap (digits_of b) v ∙ digits-after (digit_value c) (map digit_value cs) pos u.1 ∙ ap (λ x. x ++ map digit_value cs) (one-digit (digit_value c) pos d.0)))
      ∙ sym (numeral-more b (digits_value b (c ∷ cs)) (omega arith)))
      (cases_eq (digit_value c) 0)

  pub canonical : (n : ℕ) → CanonicalNumeral b n
  canonical n =
      let w = written n in
      record {
        back = λ most few. read (record { digits = w.digits; some = w.some; few = few; size = sym w.size });
        plain = w.plain;
        only = λ most ds e p. let r = parts b most ds n e in numeral-only ds r.digits r.some p ∙ ap (numeral b) (sym r.size);
      }
