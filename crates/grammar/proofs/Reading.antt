-- What one byte does to a number that is being read. Assumes nothing.
use Rattle.std.proofs.Common.{◌≡◌, ℕ, zero, suc, ◌+◌, ◌-◌, ◌*◌, ◌^◌, ◌<◌, ◌≤◌, Bool, true, List, [], ◌∷◌, ◌++◌, length, get_or, take, drop, is_some, None, sym, refl, ap, ◌∙◌, subst, append_assoc, mul-lt-mul_of_pos_right, arith, pow-add}
use native.Mathlib.Nat.{pow-le-pow_right}
use Rattle.std.proofs.lemmas.List.{at_drop_more, at_drop_all, take_more, take_all, take-append-drop, take-take}
use Rattle.std.proofs.lemmas.Bool.{ne_eqb}
use Rattle.std.specs.Option.{option_map}
use Rattle.grammar.specs.Numbers.{signed, before_point, after_point, number_of, LongestBeginning}
use Rattle.grammar.specs.Scans.{read_from}
use Rattle.grammar.specs.declared.numbers.scan.Scan.{Scan}
use Rattle.grammar.specs.declared.numbers.scan.Scan.TheVariants.{Start, Whole, Fraction}

-- one digit more
pub more-digits : (k n d : ℕ) → n < 10 ^ k → d < 10 → n * 10 + d < 10 ^ (k + 1)
more-digits k n d h l = omega (arith, pow-add 10 k 1)

-- digits of which k stand after the point, brought to millionths
pub scaled : (k n : ℕ) → k ≤ 6 → n < 10 ^ (4 + k) → n * 10 ^ (6 - k) < 10 ^ 10
scaled k n few h =
    let p : 0 < 10 ^ (6 - k) = pow-le-pow_right (omega arith) {i = 0} {j = 6 - k} (omega arith) in
    let a : n * 10 ^ (6 - k) < 10 ^ (4 + k) * 10 ^ (6 - k) = mul-lt-mul_of_pos_right h p in
    let j : 4 + k + (6 - k) ≡ 10 = omega arith in
    let b : 10 ^ (4 + k) * 10 ^ (6 - k) ≡ 10 ^ 10 = sym (pow-add 10 (4 + k) (6 - k)) ∙ ap (λ i. 10 ^ i) j in
    omega arith

-- the turn of the loop at a byte, and its end
pub at_byte : (s : Scan) (text : List ℕ) (i : ℕ) → i < length text → read_from s (drop i text) ≡ read_from s (get_or text i 0 ∷ drop (i + 1) text)
at_byte s text i h = at_drop_more (read_from s) text i 0 h

pub at-end : (s : Scan) (text : List ℕ) (i : ℕ) → length text ≤ i → read_from s (drop i text) ≡ read_from s []
at-end s text i h = at_drop_all (read_from s) text i h

-- HOW FAR BYTES ARE THE BEGINNING OF A NUMBER

-- what has been read can always become a number
goes_on : (s : Scan) → (cs : List ℕ) × (is_some (read_from s cs) ≡ true)
goes_on Start = (48 ∷ [], refl)
goes_on (Whole d) = whole d.minus d.count d.n
  where
    whole : (m : Bool) (k n : ℕ) → (cs : List ℕ) × (is_some (option_map (signed m) (before_point k n cs)) ≡ true)
    whole m zero n = (48 ∷ [], refl)
    whole m (suc k) n = ([], rw (ne_eqb (suc k) 0 (λ z. omega arith)))
goes_on (Fraction d) = fraction d.minus d.count d.n
  where
    fraction : (m : Bool) (k n : ℕ) → (cs : List ℕ) × (is_some (option_map (signed m) (after_point k n cs)) ≡ true)
    fraction m zero n = (48 ∷ [], refl)
    fraction m (suc k) n = ([], rw (ne_eqb (suc k) 0 (λ z. omega arith)))

-- what is read after the first i bytes, and one byte more
module _ (s : Scan) (text : List ℕ) (i : ℕ) (reads : (cs : List ℕ) → read_from s cs ≡ number_of (take i text ++ cs)) where
  begun : (cs : List ℕ) × (is_some (number_of (take i text ++ cs)) ≡ true)
  begun = let g = goes_on s in (g.0, ap is_some (sym (reads g.0)) ∙ g.1)

  pub taken_more : i < length text → (cs : List ℕ) → read_from s (get_or text i 0 ∷ cs) ≡ number_of (take (i + 1) text ++ cs)
  taken_more h cs = reads (get_or text i 0 ∷ cs) ∙ ap number_of (sym (append_assoc (take i text) (get_or text i 0 ∷ []) cs) ∙ ap (λ (t : List ℕ). t ++ cs) (sym (take_more text i 0 h)))

pub taken : (s t : Scan) (text : List ℕ) (i : ℕ) → i < length text → ((cs : List ℕ) → read_from s cs ≡ number_of (take i text ++ cs)) → ((cs : List ℕ) → read_from s (get_or text i 0 ∷ cs) ≡ read_from t cs)
    → (cs : List ℕ) → read_from t cs ≡ number_of (take (i + 1) text ++ cs)
taken s t text i h reads step cs = sym (step cs) ∙ taken_more s text i reads h cs

pub longest : (s : Scan) (text : List ℕ) (i : ℕ) → i < length text → ((cs : List ℕ) → read_from s cs ≡ number_of (take i text ++ cs)) → ((cs : List ℕ) → read_from s (get_or text i 0 ∷ cs) ≡ None) → LongestBeginning text i
longest s text i h reads stop = record {
  within = omega arith;
  begins = begun s text i reads;
  stops = λ j more few cs. ap number_of (front j more few cs) ∙ sym (taken_more s text i reads h (drop (i + 1) (take j text) ++ cs)) ∙ stop (drop (i + 1) (take j text) ++ cs);
}
  where
    front : (j : ℕ) → i < j → j ≤ length text → (cs : List ℕ) → take j text ++ cs ≡ take (i + 1) text ++ (drop (i + 1) (take j text) ++ cs)
    front j more few cs =
        ap (λ (t : List ℕ). t ++ cs) (sym (take-append-drop (i + 1) (take j text)) ∙ ap (λ (t : List ℕ). t ++ drop (i + 1) (take j text)) (take-take (i + 1) j text (omega arith)))
        ∙ append_assoc (take (i + 1) text) (drop (i + 1) (take j text)) cs

pub longest-all : (s : Scan) (text : List ℕ) (i : ℕ) → length text ≤ i → ((cs : List ℕ) → read_from s cs ≡ number_of (take i text ++ cs)) → LongestBeginning text (length text)
longest-all s text i h reads = record {
  within = omega arith;
  begins = let b = begun s text i reads in (b.0, subst (λ (t : List ℕ). is_some (number_of (t ++ b.0)) ≡ true) (take_all i text h ∙ sym (take_all (length text) text (omega arith))) b.1);
  stops = λ j more few cs. absurd (omega arith);
}
