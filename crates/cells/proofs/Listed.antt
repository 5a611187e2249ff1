-- The directory as a list. Assumes nothing.
use Rattle.std.proofs.Common.{◌≡◌, ℕ, ◌<◌, List, length, get_or, Some, None, map, ap, ◌∙◌, sym, refl, arith}
use Rattle.std.specs.List.{slice_get}
use Rattle.std.proofs.lemmas.Option.{slice_get-get_or}
use Rattle.std.proofs.lemmas.List.{get_or-map}
use Rattle.cells.specs.Directory.{roles, kinds}
use Rattle.cells.specs.Roles.{kind_of}
use Rattle.cells.specs.declared.roles.Kind.TheVariants.{Number}
use Rattle.cells.specs.declared.roles.Role.{Role}
use Rattle.cells.specs.declared.roles.Role.TheVariants.{Model}

pub roles-39 : length roles ≡ 39
unfolding roles
roles-39 = refl

-- the length of a list that is the directory
pub listed_length : (rs : List Role) → rs ≡ roles → length rs ≡ 39
listed_length rs e = ap length e ∙ roles-39

-- the role at a place of a list that is the directory
pub listed_role : (rs : List Role) (i p : ℕ) → rs ≡ roles → i ≡ p → i < 39 → Some (get_or rs i Model) ≡ slice_get roles p
listed_role rs i p e q l = sym (slice_get-get_or rs i Model (omega (arith, listed_length rs e))) ∙ (λ t. slice_get (e t) (q t))

-- there is no role past the end
pub listed_end : (p : ℕ) → p ≡ 39 → slice_get roles p ≡ None
unfolding roles
listed_end p e = ap (slice_get roles) e

-- the kind at a place of a list that is the directory
pub listed_kind : (rs : List Role) (i : ℕ) (r d : Role) → rs ≡ roles → r ≡ get_or rs i d → i < length rs → kind_of r ≡ get_or kinds i Number
listed_kind rs i r d e q l = ap kind_of q ∙ sym (get_or-map kind_of rs i d Number l) ∙ ap (λ (xs : List Role). get_or (map kind_of xs) i Number) e
