-- What the slots of an array are after a write. Assumes nothing.
use Rattle.std.proofs.Common.{◌≡◌, ℕ, zero, suc, ◌<◌, ◌≤◌, Bool, true, cond, ltb, leb, ◌&&◌, List, [], ◌∷◌, Option, length, get_or, set, sym, refl, ap, ◌∙◌, arith}
use Rattle.std.proofs.lemmas.Bool.{and_parts, and_from, false≢true, ltb-true, lt-ltb, le-leb}
use Rattle.std.proofs.lemmas.List.{map-set, length-map, get_or_past}
use Rattle.cells.specs.Contents.{same_kind}
use Rattle.cells.specs.Directory.{kinds}
use Rattle.cells.specs.Kinded.{fits, kinded, values_in}
use Rattle.cells.specs.Sorts.{kinds-39}
use Rattle.cells.specs.Values.{Value, absent, spoken, slot_of}
use Rattle.cells.specs.declared.stored.Stored.{Stored}
use Rattle.cells.specs.declared.roles.Kind.{Kind}
use Rattle.cells.specs.declared.roles.Kind.TheVariants.{Number, Mask, Text}

pub same_kind-equal : (a b : Kind) → same_kind a b ≡ true → a ≡ b
same_kind-equal Number Number e = refl
same_kind-equal Number Mask e = absurd (false≢true e)
same_kind-equal Number Text e = absurd (false≢true e)
same_kind-equal Mask Number e = absurd (false≢true e)
same_kind-equal Mask Mask e = refl
same_kind-equal Mask Text e = absurd (false≢true e)
same_kind-equal Text Number e = absurd (false≢true e)
same_kind-equal Text Mask e = absurd (false≢true e)
same_kind-equal Text Text e = refl

pub kinded-set : (ks : List Kind) (vs : List Value) (i : ℕ) (v : Value) → kinded ks vs ≡ true → i < length ks → fits (get_or ks i Number) v ≡ true → kinded ks (set vs i v) ≡ true
kinded-set [] [] i v e l f = e
kinded-set [] (w ∷ vs) i v e l f = absurd (false≢true e)
kinded-set (k ∷ ks) [] i v e l f = absurd (false≢true e)
kinded-set (k ∷ ks) (w ∷ vs) zero v e l f = and_from (fits k v) (kinded ks vs) f (and_parts (fits k w) (kinded ks vs) e).1
kinded-set (k ∷ ks) (w ∷ vs) (suc i) v e l f =
    let p = and_parts (fits k w) (kinded ks vs) e in
    and_from (fits k w) (kinded ks (set vs i v)) p.0 (kinded-set ks vs i v p.1 (omega arith) f)

-- a value at a place of the directory, which fits there
pub kinded-fill : (xs : List (Option Stored)) (i : ℕ) (s : Option Stored) → kinded kinds (values_in xs) ≡ true → i < 39 → fits (get_or kinds i Number) (slot_of s) ≡ true → kinded kinds (values_in (set xs i s)) ≡ true
kinded-fill xs i s e l f =
    ap (kinded kinds) (map-set slot_of xs i s) ∙ kinded-set kinds (values_in xs) i (slot_of s) e (omega (arith, kinds-39)) f

-- a value in a cell of its kind
pub kinded-put : (xs : List (Option Stored)) (i p : ℕ) (k : Kind) (s : Option Stored) → kinded kinds (values_in xs) ≡ true → i ≡ p → true ≡ (ltb p 39 && same_kind (get_or kinds p Number) k) → fits k (slot_of s) ≡ true → kinded kinds (values_in (set xs i s)) ≡ true
kinded-put xs i p k s e q t f =
    let w = and_parts (ltb p 39) (same_kind (get_or kinds p Number) k) (sym t) in
    let l : p < 39 = ltb-true p 39 w.0 in
    let fit : fits (get_or kinds p Number) (slot_of s) ≡ true = rw (same_kind-equal (get_or kinds p Number) k w.1) f in
    ap (λ (j : ℕ). kinded kinds (values_in (set xs j s))) q ∙ kinded-fill xs p s e l fit

pub put_is : (xs : List (Option Stored)) (i p : ℕ) (s : Option Stored) (t : Bool) → i ≡ p → true ≡ t → values_in (set xs i s) ≡ cond t (set (values_in xs) p (slot_of s)) (values_in xs)
put_is xs i p s t q e = rw (← e) (ap (λ (j : ℕ). values_in (set xs j s)) q ∙ map-set slot_of xs p s)

-- what a write into a slot uses
pub ruleset setting = (kinded-put, kinded-fill, put_is, map-set)

-- past the end there is no slot
pub no_slot : (xs : List (Option Stored)) (p : ℕ) → length xs ≤ p → absent ≡ get_or (values_in xs) p absent
no_slot xs p l = sym (get_or_past (values_in xs) p absent (simp length-map (omega arith)))

-- a text of up to 24 bytes fits a cell of texts
pub fits-spoken : (bs : List ℕ) → length bs ≤ 24 → fits Text (spoken bs) ≡ true
fits-spoken [] l = refl
fits-spoken (b ∷ bs) l = and_from (ltb 0 (length (b ∷ bs))) (leb (length (b ∷ bs)) 24) (lt-ltb 0 (length (b ∷ bs)) (omega arith)) (le-leb (length (b ∷ bs)) 24 l)
