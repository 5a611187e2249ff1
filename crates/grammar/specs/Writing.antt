-- Bytes put into a lent output. Assumes nothing.
use Rattle.std.specs.Prelude.{◌≡◌, ℕ, ◌+◌, ◌<◌, ◌≤◌, List, ◌++◌, length, take, drop, Some, None, Option}

-- bs stands in new from place at on, end is the place after it, and all else is as it was in old
pub record Wrote (old : List ℕ) (at : ℕ) (bs : List ℕ) (new : List ℕ) (end : ℕ) : Type 0 where
  pub whole : new ≡ take at old ++ (bs ++ drop (at + length bs) old)
  pub next : end ≡ at + length bs
  pub room : at + length bs ≤ length old

-- an attempt to put bs there: nothing is written where there is no room
abbrev pub Appended : List ℕ → ℕ → List ℕ → List ℕ → Option ℕ → Type 0
Appended old at bs new None = (new ≡ old) × (length old < at + length bs)
Appended old at bs new (Some end) = Wrote old at bs new end
