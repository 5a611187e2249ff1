-- The fields of a line, which is split at its colons. Assumes nothing.
use Rattle.std.specs.Prelude.{◌≡◌, ℕ, ◌≤◌, List, [], length, ◌==◌, slice_index_or}
use Rattle.std.specs.Str.Iter.{LacksByte}
use Rattle.std.specs.List.{slice_split, join_with_byte, AllByRecursion}

-- the fields of a line: it is split at each colon, and an empty field counts
unfoldable pub fields : List ℕ → List (List ℕ)
fields line = slice_split (λ c. c == 58) line

-- the field at a place, empty where there is none
abbrev pub field : ℕ → List (List ℕ) → List ℕ
field k fs = slice_index_or fs k []

-- THE LAW: fields with a colon between each and the next that make up the line, and none of which has a colon
pub record SplitAtColons (line : List ℕ) (fs : List (List ℕ)) : Type 0 where
  pub some : 1 ≤ length fs
  pub whole : join_with_byte 58 fs ≡ line
  pub no_colon : AllByRecursion (LacksByte 58) fs

-- the fields of a line are such, and there are no others
pub record ExactFields (line : List ℕ) : Type 0 where
  pub split : SplitAtColons line (fields line)
  pub only : (fs : List (List ℕ)) → SplitAtColons line fs → fs ≡ fields line
