-- The computed reading gives just what the rule by parts gives. Assumes nothing.
use Rattle.std.proofs.Common.{◌≡◌, ℕ, suc, ◌+◌, ◌-◌, ◌*◌, ◌^◌, ◌<◌, ◌≤◌, Bool, true, false, eqb, ltb, List, [], ◌∷◌, ◌++◌, length, ℤ, Some, None, Option, sym, refl, ap, ◌∙◌, subst, ⊎_elim, arith}
use Rattle.std.specs.Option.{option_map}
use Rattle.std.specs.Str.Parse.{AllDigits, digits_value_after}
use Rattle.std.specs.Char.{is_ascii_digit, digit_value}
use Rattle.std.proofs.lemmas.Option.{none-some, same_Some}
use Rattle.std.proofs.lemmas.Bool.{ne_eqb, lt-ltb, eqb-true, eqb-false, ltb-true, cases_Bool}
use Rattle.std.proofs.lemmas.Bool.Decides.{nat_tests}
use Rattle.std.proofs.lemmas.Str.Parse.{digit_from_value}
use Rattle.grammar.specs.Numbers.{Parts, sign_text, pointed, spelled, Lawful, signed, value_of, after_point, before_point, number_of, Exact}

-- a decimal digit, in both words
is_digit : (c : ℕ) → digit_value c < 10 → (is_ascii_digit c ≡ true) × (digit_value c ≡ c - 48) × (48 ≤ c) × (c ≤ 57)
is_digit c h = let b = digit_from_value c h in (grind (arith, nat_tests), grind (arith, nat_tests), b.0, b.1)

of-digit : (c : ℕ) → is_ascii_digit c ≡ true → (digit_value c < 10) × (digit_value c ≡ c - 48)
of-digit c h = (grind (arith, nat_tests), grind (arith, nat_tests))

-- FROM PARTS TO THE COMPUTATION

after-reads : (k n : ℕ) (ds : List ℕ) → AllDigits 10 ds → k + length ds ≤ 6 → 0 < k + length ds → after_point k n ds ≡ Some (digits_value_after 10 n ds * 10 ^ (6 - (k + length ds)))
after-reads k n [] d few some =
    let e : k + 0 ≡ k = omega arith in
    let z : eqb k 0 ≡ false = ne_eqb k 0 (λ q. omega arith) in
    rw (z, e)
after-reads k n (c ∷ cs) d few some =
    let b = is_digit c d.0 in
    let a : is_ascii_digit c ≡ true = b.0 in
    let l : ltb k 6 ≡ true = lt-ltb k 6 (omega arith) in
    let e : c - 48 ≡ digit_value c = sym b.1 in
    let j : k + 1 + length cs ≡ k + suc (length cs) = omega arith in
    rw (a, l) (ap (λ x. after_point (k + 1) (n * 10 + x) cs) e ∙ after-reads (k + 1) (n * 10 + digit_value c) cs d.1 (omega arith) (omega arith) ∙ ap (λ x. Some (digits_value_after 10 (n * 10 + digit_value c) cs * 10 ^ (6 - x))) j)

-- after the whole digits: nothing, or a point and the fraction
whole-end : (k n : ℕ) (fs : List ℕ) → AllDigits 10 fs → 0 < k → length fs ≤ 6 → before_point k n (pointed fs) ≡ Some (digits_value_after 10 n fs * 10 ^ (6 - length fs))
whole-end k n [] d some few = rw (ne_eqb k 0 (λ q. omega arith))
whole-end k n (f ∷ fs) d some few =
    rw (ne_eqb k 0 (λ q. omega arith)) (after-reads 0 n (f ∷ fs) d (omega arith) (omega arith) ∙ ap (λ x. Some (digits_value_after 10 n (f ∷ fs) * 10 ^ (6 - x))) (omega arith))

before-reads : (k n : ℕ) (ds fs : List ℕ) → AllDigits 10 ds → AllDigits 10 fs → k + length ds ≤ 4 → 0 < k + length ds → length fs ≤ 6 → before_point k n (ds ++ pointed fs) ≡ Some (digits_value_after 10 n (ds ++ fs) * 10 ^ (6 - length fs))
before-reads k n [] fs d e few some short = whole-end k n fs e (omega arith) short
before-reads k n (c ∷ cs) fs d e few some short =
    let b = is_digit c d.0 in
    let a : is_ascii_digit c ≡ true = b.0 in
    let l : ltb k 4 ≡ true = lt-ltb k 4 (omega arith) in
    let v : c - 48 ≡ digit_value c = sym b.1 in
    rw (a, l) (ap (λ x. before_point (k + 1) (n * 10 + x) (cs ++ pointed fs)) v ∙ before-reads (k + 1) (n * 10 + digit_value c) cs fs d.1 e (omega arith) (omega arith) short)

-- a text that begins with a digit has no minus
unsigned : (ds t : List ℕ) → AllDigits 10 ds → 1 ≤ length ds → number_of (ds ++ t) ≡ option_map (signed false) (before_point 0 0 (ds ++ t))
unsigned [] t d some = absurd (omega arith)
unsigned (c ∷ cs) t d some = let b = is_digit c d.0 in rw (ne_eqb c 45 (λ q. omega arith))

by_sign : (m : Bool) (ds t : List ℕ) → AllDigits 10 ds → 1 ≤ length ds → number_of (sign_text m ++ (ds ++ t)) ≡ option_map (signed m) (before_point 0 0 (ds ++ t))
by_sign true ds t d some = refl
by_sign false ds t d some = unsigned ds t d some

pub from_parts : (p : Parts) → Lawful p → number_of (spelled p) ≡ Some (value_of p)
from_parts p l =
    by_sign p.minus p.whole (pointed p.fraction) l.whole_digits l.whole_some
    ∙ ap (option_map (signed p.minus)) (before-reads 0 0 p.whole p.fraction l.whole_digits l.fraction_digits (omega (arith, l.whole_few)) (omega (arith, l.whole_some)) l.fraction_few)

-- FROM THE COMPUTATION TO PARTS

after-parts : (k n : ℕ) (bs : List ℕ) (m : ℕ) → k ≤ 6 → after_point k n bs ≡ Some m → AllDigits 10 bs × (k + length bs ≤ 6) × (0 < k + length bs)
after-parts k n [] m few e =
    ⊎_elim (λ t. absurd (none-some m (rw t at e))) (λ t. let z = eqb-false k 0 t in (tt, omega arith, grind arith)) (cases_Bool (eqb k 0))
after-parts k n (c ∷ cs) m few e =
    ⊎_elim
    (λ d. ⊎_elim
    (λ l. let b = of-digit c d in let s = ltb-true k 6 l in
    let r = after-parts (k + 1) (n * 10 + (c - 48)) cs m (omega arith) (rw (d, l) at e) in
    ((b.0, r.0), omega (arith, r.1), omega arith))
    (λ l. let e' = rw d at e in absurd (none-some m (rw l at e')))
    (cases_Bool (ltb k 6)))
    (λ d. absurd (none-some m (rw d at e)))
    (cases_Bool (is_ascii_digit c))

record Split (k : ℕ) (bs : List ℕ) : Type 0 where
  ds : List ℕ
  fs : List ℕ
  text : bs ≡ ds ++ pointed fs
  whole_digits : AllDigits 10 ds
  fraction_digits : AllDigits 10 fs
  few : k + length ds ≤ 4
  some : 0 < k + length ds
  short : length fs ≤ 6

pub pointed-some : (fs : List ℕ) → 0 < length fs → 46 ∷ fs ≡ pointed fs
pointed-some [] h = absurd (omega arith)
pointed-some (f ∷ fs) h = refl

at-point : (k c : ℕ) (cs : List ℕ) → k ≤ 4 → (k ≡ 0 → ⊥) → c ≡ 46 → AllDigits 10 cs × (0 + length cs ≤ 6) × (0 < 0 + length cs) → Split k (c ∷ cs)
at-point k c cs few z e r = record {
  ds = [];
  fs = cs;
  text = ap (λ x. x ∷ cs) e ∙ pointed-some cs (omega (arith, r.2));
  whole_digits = tt;
  fraction_digits = r.0;
  few = omega arith;
  some = grind arith;
  short = omega (arith, r.1);
}

one-digit : (k c : ℕ) (cs : List ℕ) → is_ascii_digit c ≡ true → Split (k + 1) cs → Split k (c ∷ cs)
one-digit k c cs d s = record {
  ds = c ∷ s.ds;
  fs = s.fs;
  text = ap (λ x. c ∷ x) s.text;
  whole_digits = ((of-digit c d).0, s.whole_digits);
  fraction_digits = s.fraction_digits;
  few = omega (arith, s.few);
  some = omega arith;
  short = s.short;
}

before-parts : (k n : ℕ) (bs : List ℕ) (m : ℕ) → k ≤ 4 → before_point k n bs ≡ Some m → Split k bs
before-parts k n [] m few e =
    ⊎_elim (λ t. absurd (none-some m (rw t at e)))
    (λ t. let z = eqb-false k 0 t in record { ds = []; fs = []; text = refl; whole_digits = tt; fraction_digits = tt; few = omega arith; some = grind arith; short = omega arith })
    (cases_Bool (eqb k 0))
before-parts k n (c ∷ cs) m few e =
    ⊎_elim
    (λ d. ⊎_elim
    (λ l. let s = ltb-true k 4 l in one-digit k c cs d (before-parts (k + 1) (n * 10 + (c - 48)) cs m (omega arith) (rw (d, l) at e)))
    (λ l. let e' = rw d at e in absurd (none-some m (rw l at e')))
    (cases_Bool (ltb k 4)))
    (λ (d : is_ascii_digit c ≡ false). ⊎_elim
    (λ (p : eqb c 46 ≡ true). ⊎_elim
    (λ (z : eqb k 0 ≡ true). absurd (none-some m (rw (d, p, z) at e)))
    (λ (z : eqb k 0 ≡ false). at-point k c cs few (eqb-false k 0 z) (eqb-true c 46 p) (after-parts 0 n cs m (omega arith) (rw (d, p, z) at e)))
    (cases_Bool (eqb k 0)))
    (λ (p : eqb c 46 ≡ false). absurd (none-some m (rw (d, p) at e)))
    (cases_Bool (eqb c 46)))
    (cases_Bool (is_ascii_digit c))

mapped-some : {A B : Type 0} (f : A → B) (o : Option A) (v : B) → option_map f o ≡ Some v → (m : A) × (o ≡ Some m)
mapped-some f None v e = absurd (none-some v e)
mapped-some f (Some m) v e = (m, refl)

-- a text with lawful parts
pub record Made (bs : List ℕ) : Type 0 where
  pub parts : Parts
  pub text : bs ≡ spelled parts
  pub lawful : Lawful parts

made : (m : Bool) (bs : List ℕ) → Split 0 bs → Made (sign_text m ++ bs)
made m bs s = record {
  parts = record { minus = m; whole = s.ds; fraction = s.fs };
  text = ap (λ x. sign_text m ++ x) s.text;
  lawful = record {
    whole_digits = s.whole_digits;
    whole_some = omega (arith, s.some);
    whole_few = omega (arith, s.few);
    fraction_digits = s.fraction_digits;
    fraction_few = s.short;
  };
}

pub to-parts : (bs : List ℕ) (v : ℤ) → number_of bs ≡ Some v → Made bs
to-parts [] v e = absurd (none-some v e)
to-parts (c ∷ cs) v e =
    ⊎_elim
    (λ t. let m = mapped-some (signed true) (before_point 0 0 cs) v (rw t at e) in
    subst (λ x. Made (x ∷ cs)) (sym (eqb-true c 45 t)) (made true cs (before-parts 0 0 cs m.0 (omega arith) m.1)))
    (λ t. let m = mapped-some (signed false) (before_point 0 0 (c ∷ cs)) v (rw t at e) in
    made false (c ∷ cs) (before-parts 0 0 (c ∷ cs) m.0 (omega arith) m.1))
    (cases_Bool (eqb c 45))

pub reads-exactly : (bs : List ℕ) → Exact bs
reads-exactly bs v = (
  λ e. let m = to-parts bs v e in
      record { parts = m.parts; text = m.text; lawful = m.lawful; value = same_Some v (value_of m.parts) (sym e ∙ ap number_of m.text ∙ from_parts m.parts m.lawful) },
  λ r. ap number_of r.text ∙ from_parts r.parts r.lawful ∙ ap Some (sym r.value),
)
