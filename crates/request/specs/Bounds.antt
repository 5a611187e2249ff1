-- A low and a high for each loop, in millionths. Assumes nothing.
use Rattle.std.specs.Prelude.{Bool, false, ℤ, pos}
use Rattle.cells.specs.Values.{Value, absent, number, mask, text}
use Rattle.grammar.specs.Range.{spans}
use Rattle.cells.specs.declared.ratings.Ratings.{Ratings}
use Rattle.cells.specs.declared.roles.Role.{Role}
use Rattle.cells.specs.declared.roles.Role.TheVariants.{Model, Identification, LowI, HighI, LowV, HighV, RateI, RateV, Password, InterlockEnable, InterlockActivation, Operator}

pub record Bounds : Type 0 where
  pub low_i : ℤ
  pub high_i : ℤ
  pub low_v : ℤ
  pub high_v : ℤ

-- what spans of quantities are in plain numbers
abbrev pub bounds_of : Ratings → Bounds
bounds_of s = record { low_i = s.current.low.millionths; high_i = s.current.high.millionths; low_v = s.voltage.low.millionths; high_v = s.voltage.high.millionths }

-- where a software limit may lie: a low from the rated low to 0, a high from 0 to the rated high
abbrev pub limit_fits : Bounds → Role → ℤ → Bool
limit_fits b Model v = false
limit_fits b Identification v = false
limit_fits b LowI v = spans b.low_i (pos 0) v
limit_fits b HighI v = spans (pos 0) b.high_i v
limit_fits b LowV v = spans b.low_v (pos 0) v
limit_fits b HighV v = spans (pos 0) b.high_v v
limit_fits b RateI v = false
limit_fits b RateV v = false
limit_fits b Password v = false
limit_fits b InterlockEnable v = false
limit_fits b InterlockActivation v = false
limit_fits b Operator v = false

-- a lawful value of a software limit: a number that may lie there
abbrev pub lawful_limit : Bounds → Role → Value → Bool
lawful_limit b role absent = false
lawful_limit b role (number v) = limit_fits b role v
lawful_limit b role (mask m) = false
lawful_limit b role (text bs) = false
