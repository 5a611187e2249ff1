-- The steps of reading an image. Assumes nothing.
use Rattle.std.proofs.Common.{◌≡◌, ℕ, ◌+◌, ◌-◌, ◌*◌, ◌<◌, ◌≤◌, Bool, true, false, ◌&&◌, eqb, leb, List, [], ◌∷◌, ◌++◌, length, get_or, take, drop, set, replicate, Some, None, Option, sym, refl, ap, ◌∙◌, arith}
use Rattle.std.proofs.lemmas.List.{take_rest, get_or-drop, length-drop, drop-drop, drop_more, take_more_set, append_assoc, take_all, drop_all, append-nil}
use Rattle.std.proofs.lemmas.Bool.{and_from, lt-ltb, and_parts, leb-true, cond-true, cond-false, le-leb, lt-leb}
use Rattle.cells.specs.Values.{Value, absent}
use Rattle.image.specs.Image.{from16, sized, value_in, after, lawful, parse, or_absent, decoded, Pair}
use Rattle.cells.specs.declared.roles.Kind.{Kind}
use Rattle.cells.specs.declared.roles.Kind.TheVariants.{Number}
use Rattle.cells.specs.Sorts.{kinds-39, values-39}
use Rattle.cells.proofs.Listed.{listed_length, listed_kind}

pub from16-drop : (bs : List ℕ) (n j : ℕ) → from16 (drop n bs) j ≡ from16 bs (n + j)
from16-drop bs n j =
    let a = get_or-drop n bs j 0 in
    let b : get_or (drop n bs) (j + 1) 0 ≡ get_or bs (n + j + 1) 0 = get_or-drop n bs (j + 1) 0 ∙ ap (λ (m : ℕ). get_or bs m 0) (omega arith) in
    rw (a, b)

-- a pair that tells offset o and size s, of a cell of kind k
module _ (k : Kind) (bs : List ℕ) (i at o s : ℕ) (p : o ≡ from16 bs (4 * i)) (q : s ≡ from16 bs (4 * i + 2)) where
  size-is : s ≡ from16 (drop (4 * i) bs) 2
  size-is = q ∙ sym (from16-drop bs (4 * i) 2)

  pub lawful-is : (eqb o at && (sized k s && leb s (length (take (length bs - at) (drop at bs))))) ≡ lawful k at (drop (4 * i) bs) (drop at bs)
  lawful-is =
      let a : o ≡ from16 (drop (4 * i) bs) 0 = p ∙ ap (from16 bs) (omega arith) ∙ sym (from16-drop bs (4 * i) 0) in
      let r : take (length bs - at) (drop at bs) ≡ drop at bs = take_rest bs at in
      (λ t. eqb (a t) at && (sized k (size-is t) && leb (size-is t) (length (r t))))

  pub pair_is : at ≤ length bs → (eqb o at && (sized k s && leb s (length (take (length bs - at) (drop at bs))))) ≡ true → Pair k i at s bs
  pair_is le t =
      let e = sym lawful-is ∙ t in
      let w = (and_parts (eqb (from16 (drop (4 * i) bs) 0) at) _ e).1 in
      let v = and_parts (sized k (from16 (drop (4 * i) bs) 2)) (leb (from16 (drop (4 * i) bs) 2) (length (drop at bs))) w in
      record { is = e; size = size-is; kind = ap (sized k) size-is ∙ v.0; within = omega (arith, size-is, leb-true _ _ v.1, length-drop at bs) }

abbrev pub onto : List Value → Option (List Value) → Option (List Value)
onto vs None = None
onto vs (Some ws) = Some (vs ++ ws)

onto-after : (vs : List Value) (v : Value) (o : Option (List Value)) → onto vs (after v o) ≡ onto (vs ++ v ∷ []) o
onto-after vs v None = refl
onto-after vs v (Some ws) = ap Some (sym (append_assoc vs (v ∷ []) ws))

-- what is left to read after i cells
abbrev pub rest : List Kind → List ℕ → ℕ → ℕ → Option (List Value)
rest ks bs i at = parse (drop i ks) at (drop (4 * i) bs) (drop at bs)

pub rest_more : (ks : List Kind) (bs : List ℕ) (i at n : ℕ) (vs : List Value) (v : Value) → i < length ks → i < length vs → Pair (get_or ks i Number) i at n bs → v ≡ value_in (get_or ks i Number) (take n (drop at bs)) → onto (take i vs) (rest ks bs i at) ≡ onto (take (i + 1) (set vs i v)) (rest ks bs (i + 1) (at + n))
rest_more ks bs i at n vs v li lv p hv =
    let k : Kind = get_or ks i Number in
    let ps : List ℕ = drop (4 * i) bs in
    let cs : List ℕ = drop at bs in
    let one : rest ks bs i at ≡ parse (k ∷ drop (i + 1) ks) at ps cs = ap (λ (x : List Kind). parse x at ps cs) (drop_more ks i Number li) in
    let two : parse (k ∷ drop (i + 1) ks) at ps cs ≡ after (value_in k (take (from16 ps 2) cs)) (parse (drop (i + 1) ks) (at + from16 ps 2) (drop 4 ps) (drop (from16 ps 2) cs)) = cond-true (lawful k at ps cs) _ _ p.is in
    let three : after (value_in k (take (from16 ps 2) cs)) (parse (drop (i + 1) ks) (at + from16 ps 2) (drop 4 ps) (drop (from16 ps 2) cs)) ≡ after (value_in k (take n cs)) (parse (drop (i + 1) ks) (at + n) (drop 4 ps) (drop n cs)) = ap (λ (m : ℕ). after (value_in k (take m cs)) (parse (drop (i + 1) ks) (at + m) (drop 4 ps) (drop m cs))) (sym p.size) in
    let four : parse (drop (i + 1) ks) (at + n) (drop 4 ps) (drop n cs) ≡ rest ks bs (i + 1) (at + n) = ap (λ (x : List ℕ). parse (drop (i + 1) ks) (at + n) x (drop n cs)) (drop-drop 4 (4 * i) bs ∙ ap (λ (m : ℕ). drop m bs) (omega arith)) ∙ ap (parse (drop (i + 1) ks) (at + n) (drop (4 * (i + 1)) bs)) (drop-drop n at bs) in
    ap (onto (take i vs)) (one ∙ two ∙ three ∙ ap (λ (x : Value). after x (parse (drop (i + 1) ks) (at + n) (drop 4 ps) (drop n cs))) (sym hv) ∙ ap (after v) four)
    ∙ onto-after (take i vs) v (rest ks bs (i + 1) (at + n))
    ∙ ap (λ (x : List Value). onto x (rest ks bs (i + 1) (at + n))) (sym (take_more_set vs i v lv))

pub rest-stop : (ks : List Kind) (bs : List ℕ) (i at : ℕ) (vs : List Value) → i < length ks → lawful (get_or ks i Number) at (drop (4 * i) bs) (drop at bs) ≡ false → onto (take i vs) (rest ks bs i at) ≡ None
rest-stop ks bs i at vs li e =
    ap (onto (take i vs)) (ap (λ (x : List Kind). parse x at (drop (4 * i) bs) (drop at bs)) (drop_more ks i Number li) ∙ cond-false (lawful (get_or ks i Number) at (drop (4 * i) bs) (drop at bs)) _ _ e)

-- the whole reading
pub decoded-by : (ks : List Kind) (bs : List ℕ) (o : Option (List Value)) → 4 * length ks ≤ length bs → rest ks bs 0 (4 * length ks) ≡ o → decoded ks bs ≡ or_absent (length ks) o
unfolding decoded
decoded-by ks bs o l e = cond-true (leb (4 * length ks) (length bs)) _ _ (le-leb _ _ l) ∙ ap (or_absent (length ks)) e

pub decoded-short : (ks : List Kind) (bs : List ℕ) → length bs < 4 * length ks → decoded ks bs ≡ replicate (length ks) absent
unfolding decoded
decoded-short ks bs l = cond-false (leb (4 * length ks) (length bs)) _ _ (lt-leb _ _ l)

pub all_three : (a b x : Bool) → a ≡ true → true ≡ b → x ≡ (a && (b && x))
all_three a b x p q = rw (p, ← q)

pub rest_all : (ks : List Kind) (bs : List ℕ) (i at : ℕ) (vs : List Value) → length ks ≤ i → length vs ≤ i → onto (take i vs) (rest ks bs i at) ≡ Some vs
rest_all ks bs i at vs lk lv =
    ap (λ (x : List Kind). onto (take i vs) (parse x at (drop (4 * i) bs) (drop at bs))) (drop_all i ks lk)
    ∙ ap Some (append-nil (take i vs) ∙ take_all i vs lv)

pub decoded-at : (ks : List Kind) (bs : List ℕ) (n : ℕ) (o : Option (List Value)) → length ks ≡ n → 4 * n ≤ length bs → rest ks bs 0 (4 * n) ≡ o → decoded ks bs ≡ or_absent n o
decoded-at ks bs n o e l h =
    decoded-by ks bs o (omega (arith, e)) (ap (λ (m : ℕ). rest ks bs 0 (4 * m)) e ∙ h) ∙ ap (λ (m : ℕ). or_absent m o) e

pub decoded-less : (ks : List Kind) (bs : List ℕ) (n : ℕ) → length ks ≡ n → length bs < 4 * n → decoded ks bs ≡ replicate n absent
decoded-less ks bs n e l = decoded-short ks bs (omega (arith, e)) ∙ ap (λ (m : ℕ). replicate m absent) e

-- what the loop over the pairs uses
pub ruleset reading = (listed_length, listed_kind, lawful-is, pair_is, rest_more, rest-stop, rest_all, decoded-at, decoded-less, kinds-39, values-39, take_rest, and_from, lt-ltb)
