-- Where a software limit may lie is said over plain numbers and by the cells over quantities: the two agree. Assumes nothing.
use Rattle.std.proofs.Common.{◌≡◌, true, arith}
use Rattle.cells.specs.Values.{Value, lawful}
use Rattle.cells.specs.declared.ratings.Ratings.{Ratings}
use Rattle.cells.specs.declared.roles.Role.{Role}
use Rattle.request.specs.Bounds.{bounds_of, lawful_limit}
use Rattle.request.specs.Requests.{is_limit}

pub limit_agrees : (r : Ratings) (role : Role) (v : Value) → is_limit role ≡ true → lawful_limit (bounds_of r) role v ≡ lawful r role v
limit_agrees r role v e = grind arith
