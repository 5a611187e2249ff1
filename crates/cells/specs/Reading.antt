-- The value of a cell among stored ones. Assumes nothing.
use Rattle.std.specs.Prelude.{ℕ, List, Option}
use Rattle.std.specs.Option.{option_map}
use Rattle.cells.specs.Contents.{at}
use Rattle.cells.specs.Directory.{role_of}
use Rattle.cells.specs.Values.{Value, cell_value}
use Rattle.cells.specs.declared.ratings.Ratings.{Ratings}
use Rattle.cells.specs.declared.roles.Role.{Role}

-- the value of a cell; none where there is no such cell
abbrev pub value_at : Ratings → List Value → ℕ → Option Value
value_at r vs c = option_map (λ (role : Role). cell_value r role (at vs c)) (role_of c)
