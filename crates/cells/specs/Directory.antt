-- The directory of the 39 cells. Assumes nothing.
use Rattle.std.specs.Prelude.{ℕ, ◌-◌, cond, List, ◌∷◌, map, replicate, Option, nat_le, nat_lt}
use Rattle.std.specs.List.{slice_get}
use Rattle.cells.specs.Roles.{kind_of}
use Rattle.cells.specs.declared.roles.Kind.{Kind}
use Rattle.cells.specs.declared.roles.Role.{Role}
use Rattle.cells.specs.declared.roles.Role.TheVariants.{Model, Identification, LowI, HighI, LowV, HighV, RateI, RateV, Password, InterlockEnable, InterlockActivation, Operator}

-- how many cells there are
abbrev pub cell_count : ℕ
cell_count = 39

-- the cells 0 and 1, 10 to 16, 90 and 91, and 100 to 127, in rising order
unfoldable pub roles : List Role
roles =
    Model ∷ Identification ∷ LowI ∷ HighI ∷ LowV ∷ HighV ∷ RateI ∷ RateV ∷ Password ∷ InterlockEnable ∷ InterlockActivation ∷ replicate 28 Operator

-- where a cell stands in that order, counted from 0; what is no cell stands past the end
abbrev pub place : ℕ → ℕ
place c =
    cond (nat_le c 1) c
    (cond (nat_lt c 10) 39
    (cond (nat_le c 16) (c - 8)
    (cond (nat_lt c 90) 39 (cond (nat_le c 91) (c - 81) (cond (nat_lt c 100) 39 (cond (nat_le c 127) (c - 89) 39))))))

-- what a cell is for; none where there is no such cell
abbrev pub role_of : ℕ → Option Role
role_of c = slice_get roles (place c)

abbrev pub kinds : List Kind
kinds = map kind_of roles
