-- The steps of writing an image. Assumes nothing.
use Rattle.std.proofs.Common.{◌≡◌, ℕ, ◌+◌, ◌*◌, ◌<◌, ◌≤◌, true, ltb, leb, List, [], ◌∷◌, ◌++◌, Option, length, get_or, take, drop, sym, refl, ap, ◌∙◌, arith}
use Rattle.std.specs.List.{sum_by}
use Rattle.std.proofs.lemmas.List.Sums.{sum_by-cons}
use Rattle.std.proofs.lemmas.List.{append_assoc, append-nil, length-append, take_more, take-append-drop, length-map, length-take}
use Rattle.std.proofs.lemmas.Bool.{and_parts, false≢true, leb-true}
use Rattle.cells.specs.Values.{Value, absent, number, mask, text, slot_of}
use Rattle.cells.specs.Kinded.{fits, kinded, values_in}
use Rattle.cells.specs.Directory.{roles, kinds}
use Rattle.image.specs.Image.{be16, content, contents, directory, encoded}
use Rattle.cells.specs.declared.roles.Kind.{Kind}
use Rattle.cells.specs.declared.roles.Kind.TheVariants.{Number, Mask, Text}
use Rattle.cells.specs.declared.stored.Stored.{Stored}
use Rattle.cells.specs.Sorts.{values-39, slots-39, slot_at}
use Rattle.image.specs.Format.{encoded-length, directory-length}

-- the number of bytes of what a slot stands for
abbrev pub size_in : Option Stored → ℕ
size_in s = length (content (slot_of s))

pub sizes-contents : (xs : List (Option Stored)) → sum_by size_in xs ≡ length (contents (values_in xs))
sizes-contents [] = refl
sizes-contents (x ∷ xs) = omega (arith, sum_by-cons size_in x xs, sizes-contents xs, length-append (content (slot_of x)) (contents (values_in xs)))

-- one value more
pub contents-push : (vs : List Value) (v : Value) → contents (vs ++ v ∷ []) ≡ contents vs ++ content v
contents-push [] v = append-nil (content v)
contents-push (u ∷ vs) v = ap (λ (x : List ℕ). content u ++ x) (contents-push vs v) ∙ sym (append_assoc (content u) (contents vs) (content v))

pub directory-push : (at : ℕ) (vs : List Value) (v : Value) → directory at (vs ++ v ∷ []) ≡ directory at vs ++ (be16 (at + length (contents vs)) ++ be16 (length (content v)))
directory-push at [] v = ap (λ (n : ℕ). be16 n ++ be16 (length (content v))) (omega arith)
directory-push at (u ∷ vs) v =
    let n : ℕ = at + length (content u) in
    let e : n + length (contents vs) ≡ at + length (content u ++ contents vs) = omega (arith, length-append (content u) (contents vs)) in
    ap (λ (x : List ℕ). be16 at ++ (be16 (length (content u)) ++ x)) (directory-push n vs v ∙ ap (λ (m : ℕ). directory n vs ++ (be16 m ++ be16 (length (content v)))) e)

-- the most that cells of these kinds take
abbrev pub most : List Kind → ℕ
most [] = 0
most (Number ∷ ks) = 8 + most ks
most (Mask ∷ ks) = 4 + most ks
most (Text ∷ ks) = 24 + most ks

pub at_most : (ks : List Kind) (vs : List Value) → kinded ks vs ≡ true → length (contents vs) ≤ most ks
at_most [] [] e = omega arith
at_most [] (v ∷ vs) e = absurd (false≢true e)
at_most (k ∷ ks) [] e = absurd (false≢true e)
at_most (k ∷ ks) (v ∷ vs) e =
    let w = and_parts (fits k v) (kinded ks vs) e in
    one k v w.0 (at_most ks vs w.1)
  where
    one : (k : Kind) (v : Value) → fits k v ≡ true → length (contents vs) ≤ most ks → length (content v ++ contents vs) ≤ most (k ∷ ks)
    one Number absent f h = omega arith
    one Mask absent f h = omega arith
    one Text absent f h = omega arith
    one Number (number z) f h = omega arith
    one Number (mask m) f h = absurd (false≢true f)
    one Number (text bs) f h = absurd (false≢true f)
    one Mask (number z) f h = absurd (false≢true f)
    one Mask (mask m) f h = omega arith
    one Mask (text bs) f h = absurd (false≢true f)
    one Text (number z) f h = absurd (false≢true f)
    one Text (mask m) f h = absurd (false≢true f)
    one Text (text bs) f h = omega (arith, length-append bs (contents vs), leb-true _ _ (and_parts (ltb 0 (length bs)) (leb (length bs) 24) f).1)

pub most-352 : most kinds ≡ 352
unfolding roles
most-352 = refl

pub contents-352 : (xs : List (Option Stored)) → kinded kinds (values_in xs) ≡ true → length (contents (values_in xs)) ≤ 352
contents-352 xs e = omega (arith, at_most kinds (values_in xs) e, most-352)

pub image_length : (xs : List (Option Stored)) → kinded kinds (values_in xs) ≡ true → length (encoded (values_in xs)) ≡ 156 + length (contents (values_in xs))
image_length xs e = omega (arith, encoded-length (values_in xs), values-39 xs e)

pub encoded_is : (xs : List (Option Stored)) → kinded kinds (values_in xs) ≡ true → encoded (values_in xs) ≡ directory 156 (values_in xs) ++ contents (values_in xs)
encoded_is xs e =
    let start : 4 * length (values_in xs) ≡ 156 = omega (arith, values-39 xs e) in
    ap (λ (n : ℕ). directory n (values_in xs) ++ contents (values_in xs)) start

-- NO IMAGE IS LONGER THAN 508 BYTES
pub image-508 : (xs : List (Option Stored)) → kinded kinds (values_in xs) ≡ true → length (encoded (values_in xs)) ≤ 508
image-508 xs e = omega (arith, image_length xs e, contents-352 xs e)

contents-append : (us vs : List Value) → contents (us ++ vs) ≡ contents us ++ contents vs
contents-append [] vs = refl
contents-append (u ∷ us) vs = ap (λ (x : List ℕ). content u ++ x) (contents-append us vs) ∙ sym (append_assoc (content u) (contents us) (contents vs))

pub contents-part : (i : ℕ) (vs : List Value) → length (contents (take i vs)) ≤ length (contents vs)
contents-part i vs =
    omega (arith, ap (λ (x : List Value). length (contents x)) (take-append-drop i vs), ap length (contents-append (take i vs) (drop i vs)), length-append (contents (take i vs)) (contents (drop i vs)))

-- the steps of a loop over the slots, where slot i is s
module _ (xs : List (Option Stored)) (i : ℕ) (s : Option Stored) (is : s ≡ get_or xs i s) (l : i < length xs) where
  next-value : take (i + 1) (values_in xs) ≡ take i (values_in xs) ++ slot_of s ∷ []
  next-value =
      take_more (values_in xs) i absent (simp length-map (omega arith))
      ∙ ap (λ (v : Value). take i (values_in xs) ++ v ∷ []) (sym (slot_at xs i i s refl l) ∙ ap slot_of (sym is))

  pub contents-more : contents (take (i + 1) (values_in xs)) ≡ contents (take i (values_in xs)) ++ content (slot_of s)
  contents-more = ap contents next-value ∙ contents-push (take i (values_in xs)) (slot_of s)

  pub directory-more : (at : ℕ) → directory at (take (i + 1) (values_in xs)) ≡ directory at (take i (values_in xs)) ++ (be16 (at + length (contents (take i (values_in xs)))) ++ be16 (length (content (slot_of s))))
  directory-more at = ap (directory at) next-value ∙ directory-push at (take i (values_in xs)) (slot_of s)

  pub length_more : length (contents (take (i + 1) (values_in xs))) ≡ length (contents (take i (values_in xs))) + length (content (slot_of s))
  length_more = ap length contents-more ∙ length-append (contents (take i (values_in xs))) (content (slot_of s))

pub part-508 : (xs : List (Option Stored)) (i : ℕ) → kinded kinds (values_in xs) ≡ true → 156 + length (contents (take i (values_in xs))) ≤ 508
part-508 xs i e = omega (arith, contents-part i (values_in xs), contents-352 xs e)

-- what the loops over the slots use
pub ruleset content_steps = (contents-more, length_more, contents-part, append_assoc, length-append)

pub ruleset pair_steps = (directory-more, length_more, part-508, directory-length, length-take, slots-39)

-- what the whole image is made of
pub ruleset image_parts = (image_length, encoded_is, directory-length, length-append)
