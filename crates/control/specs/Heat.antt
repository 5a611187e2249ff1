-- The hottest of some sensors. Assumes nothing.
use Rattle.std.specs.Prelude.{◌<◌, List, [], ◌∷◌, length, ℤ, pos, ◌≤ℤ◌, fold}
use Rattle.std.specs.Int.{int_max}
use Rattle.std.specs.List.{ContainsAt as Has, AllByRecursion}

-- the greatest of the temperatures; 0 where there is none
abbrev pub hottest_of : List ℤ → ℤ
hottest_of [] = pos 0
hottest_of (t ∷ ts) = fold int_max t ts

-- t is one of these temperatures, and none is above it
pub record Hottest (ts : List ℤ) (t : ℤ) : Type 0 where
  pub among : 0 < length ts → Has ts t
  pub above : AllByRecursion (λ u. u ≤ℤ t) ts
