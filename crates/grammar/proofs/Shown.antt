-- The decimal places that are shown, without trailing zeros: all that the other proofs know of `shown` stands here. Assumes nothing.
use Rattle.std.proofs.Common.{◌≡◌, ℕ, zero, suc, ◌+◌, ◌-◌, ◌*◌, ◌/◌, ◌%◌, ◌^◌, ◌<◌, ◌≤◌, true, false, eqb, List, [], ◌∷◌, ◌++◌, length, sym, refl, ap, ◌∙◌, ⊎_elim, mul_assoc, pow-suc, arith}
use Rattle.std.specs.Str.Parse.{AllDigits, digits_value}
use Rattle.std.proofs.lemmas.List.{same_from_push}
use Rattle.std.proofs.lemmas.Bool.{eqb-true, eqb-false, eq-eqb, ne_eqb, cases_Bool}
use Rattle.grammar.specs.Numbers.{places, trimmed, shown, pointed, PlainFraction}
use Rattle.grammar.proofs.Exactness.{pointed-some}
use Rattle.grammar.proofs.Places.{places-length, places-digits, places-value, places-only}

-- ds shows n: it is made of at most k digits, and stands for n
record Shows (k n : ℕ) (ds : List ℕ) : Type 0 where
  digits : AllDigits 10 ds
  few : length ds ≤ k
  size : digits_value 10 ds * 10 ^ (k - length ds) ≡ n
  plain : PlainFraction ds

trimmed-shows : (k n : ℕ) → n < 10 ^ k → Shows k n (trimmed k n)
unfolding trimmed
trimmed-shows zero n h = record { digits = tt; few = omega arith; size = omega arith; plain = λ ds e. absurd (none ds e) }
  where
    none : (ds : List ℕ) → [] ≡ ds ++ (48 ∷ []) → ⊥
    none [] e = let z : ◌≡◌ {A = ℕ} 0 1 = ap length e in omega arith
    none (d ∷ ds) e = let z = ap length e in omega arith
trimmed-shows (suc k) n h =
    let p = pow-suc 10 k in
    ⊎_elim
    (λ (t : eqb (n % 10) 0 ≡ true).
    let z = eqb-true (n % 10) 0 t in
    let r = trimmed-shows k (n / 10) (omega arith) in
    let l = r.few in
    let g : suc k - length (trimmed k (n / 10)) ≡ suc (k - length (trimmed k (n / 10))) = omega arith in
    rw t (record {
      digits = r.digits;
      few = omega arith;
      size = ap (λ x. digits_value 10 (trimmed k (n / 10)) * 10 ^ x) g ∙ ap (λ x. digits_value 10 (trimmed k (n / 10)) * x) (pow-suc 10 (k - length (trimmed k (n / 10))))
          ∙ sym (mul_assoc (digits_value 10 (trimmed k (n / 10))) (10 ^ (k - length (trimmed k (n / 10)))) 10) ∙ ap (λ x. x * 10) r.size ∙ omega arith;
      plain = r.plain;
    }))
    (λ (t : eqb (n % 10) 0 ≡ false).
    let z = eqb-false (n % 10) 0 t in
    let l = places-length (suc k) n in
    let v = places-value (suc k) n h in
    let o : suc k - suc k ≡ 0 = omega arith in
    rw t (record {
      digits = places-digits (suc k) n;
      few = omega arith;
      size = ap (λ x. digits_value 10 (places (suc k) n) * 10 ^ (suc k - x)) l ∙ ap (λ x. digits_value 10 (places (suc k) n) * 10 ^ x) o ∙ omega arith;
      plain = λ ds e. z (let s = same_from_push (places k (n / 10)) ds (48 + n % 10) 48 e in omega (arith, s.1));
    }))
    (cases_Bool (eqb (n % 10) 0))

-- plain digits are what is shown of what they stand for
trimmed-only : (j : ℕ) (ds : List ℕ) → AllDigits 10 ds → PlainFraction ds → trimmed (j + length ds) (digits_value 10 ds * 10 ^ j) ≡ ds
unfolding trimmed
trimmed-only zero ds d plain =
    let e : digits_value 10 ds * 10 ^ 0 ≡ digits_value 10 ds = omega arith in
    let f : 0 + length ds ≡ length ds = omega arith in
    (λ t. trimmed (f t) (e t)) ∙ all ds d plain (length ds) refl
  where
    all : (ds : List ℕ) → AllDigits 10 ds → PlainFraction ds → (k : ℕ) → length ds ≡ k → trimmed k (digits_value 10 ds) ≡ ds
    all [] d plain zero e = refl
    all [] d plain (suc k) e = absurd (omega arith)
    all (c ∷ cs) d plain zero e = absurd (omega arith)
    all (c ∷ cs) d plain (suc k) e =
        let v = digits_value 10 (c ∷ cs) in
        let same : places (suc k) v ≡ c ∷ cs = ap (λ x. places x v) (sym e) ∙ places-only (c ∷ cs) d in
        let last : eqb (v % 10) 0 ≡ false = ne_eqb (v % 10) 0 (λ z. plain (places k (v / 10)) (sym same ∙ ap (λ x. places k (v / 10) ++ ((48 + x) ∷ [])) z)) in
        rw last same
trimmed-only (suc j) ds d plain =
    let p = pow-suc 10 j in
    let q : digits_value 10 ds * 10 ^ suc j ≡ digits_value 10 ds * 10 ^ j * 10 = ap (λ x. digits_value 10 ds * x) p ∙ sym (mul_assoc (digits_value 10 ds) (10 ^ j) 10) in
    let a : (digits_value 10 ds * 10 ^ suc j) / 10 ≡ digits_value 10 ds * 10 ^ j = omega arith in
    let b : (digits_value 10 ds * 10 ^ suc j) % 10 ≡ 0 = omega arith in
    let s : suc j + length ds ≡ suc (j + length ds) = omega arith in
    ap (λ x. trimmed x (digits_value 10 ds * 10 ^ suc j)) s ∙ rw (eq-eqb _ _ b) (ap (trimmed (j + length ds)) a ∙ trimmed-only j ds d plain)

-- WHAT THE OTHER PROOFS USE

pub shown-digits : (n : ℕ) → n < 10 ^ 6 → AllDigits 10 (shown n)
unfolding shown
shown-digits n h = (trimmed-shows 6 n h).digits

pub shown-few : (n : ℕ) → n < 10 ^ 6 → length (shown n) ≤ 6
unfolding shown
shown-few n h = (trimmed-shows 6 n h).few

pub shown-size : (n : ℕ) → n < 10 ^ 6 → digits_value 10 (shown n) * 10 ^ (6 - length (shown n)) ≡ n
unfolding shown
shown-size n h = (trimmed-shows 6 n h).size

pub shown-plain : (n : ℕ) → n < 10 ^ 6 → PlainFraction (shown n)
unfolding shown
shown-plain n h = (trimmed-shows 6 n h).plain

pub shown-only : (ds : List ℕ) → AllDigits 10 ds → length ds ≤ 6 → PlainFraction ds → shown (digits_value 10 ds * 10 ^ (6 - length ds)) ≡ ds
unfolding shown
shown-only ds d few plain =
    let e : 6 ≡ 6 - length ds + length ds = omega arith in
    ap (λ x. trimmed x (digits_value 10 ds * 10 ^ (6 - length ds))) e ∙ trimmed-only (6 - length ds) ds d plain

-- WHAT THE PRINTER'S PROOF USES

pub trim_start : (n : ℕ) → trimmed 6 n ≡ shown n
unfolding shown
trim_start n = refl

pub trim-none : (n : ℕ) → trimmed 0 n ≡ []
unfolding trimmed
trim-none n = refl

pub trim-step : (k n : ℕ) → (k ≡ 0 → ⊥) → n % 10 ≡ 0 → trimmed (k - 1) (n / 10) ≡ trimmed k n
unfolding trimmed
trim-step zero n h e = absurd (h refl)
trim-step (suc k) n h e = let j : suc k - 1 ≡ k = omega arith in ap (λ i. trimmed i (n / 10)) j ∙ rw (eq-eqb _ _ e)

pub trim_end : (k n : ℕ) → (k ≡ 0 → ⊥) → (n % 10 ≡ 0 → ⊥) → 46 ∷ places k n ≡ pointed (trimmed k n)
unfolding trimmed
trim_end zero n h e = absurd (h refl)
trim_end (suc k) n h e = rw (ne_eqb _ _ e) (pointed-some (places (suc k) n) (omega (arith, places-length (suc k) n)))
