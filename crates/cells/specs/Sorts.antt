-- Kinds beside values. Assumes nothing.
use Rattle.std.specs.Prelude.{◌≡◌, ℕ, suc, ◌<◌, true, List, [], ◌∷◌, Option, length, get_or, slice_index_or, refl}
use Rattle.std.proofs.Common.{sym, ap, ◌∙◌}
use Rattle.std.proofs.lemmas.Bool.{and_parts, false≢true}
use Rattle.std.proofs.lemmas.List.{get_or-map, length-map}
use Rattle.cells.specs.Values.{Value, absent, slot_of}
use Rattle.cells.specs.Kinded.{fits, kinded, values_in}
use Rattle.cells.specs.Directory.{roles, kinds}
use Rattle.cells.specs.declared.stored.Stored.{Stored}
use Rattle.cells.specs.declared.roles.Kind.{Kind}

pub kinded-length : (ks : List Kind) (vs : List Value) → kinded ks vs ≡ true → length vs ≡ length ks
kinded-length [] [] e = refl
kinded-length [] (v ∷ vs) e = absurd (false≢true e)
kinded-length (k ∷ ks) [] e = absurd (false≢true e)
kinded-length (k ∷ ks) (v ∷ vs) e = ap suc (kinded-length ks vs (and_parts (fits k v) (kinded ks vs) e).1)

pub kinds-39 : length kinds ≡ 39
unfolding roles
kinds-39 = refl

pub values-39 : (xs : List (Option Stored)) → kinded kinds (values_in xs) ≡ true → length (values_in xs) ≡ 39
values-39 xs e = kinded-length kinds (values_in xs) e ∙ kinds-39

pub slots-39 : (xs : List (Option Stored)) → kinded kinds (values_in xs) ≡ true → length xs ≡ 39
slots-39 xs e = sym (length-map xs slot_of) ∙ values-39 xs e

-- what a slot of the array stands for
pub slot_at : (xs : List (Option Stored)) (i p : ℕ) (d : Option Stored) → i ≡ p → i < length xs → slot_of (slice_index_or xs i d) ≡ slice_index_or (values_in xs) p absent
slot_at xs i p d q l = sym (get_or-map slot_of xs i d absent l) ∙ ap (λ (j : ℕ). get_or (values_in xs) j absent) q
