-- The range of a quantity, in millionths: 9,999.999999 either way. Assumes nothing.
use Rattle.std.specs.Prelude.{Bool, ◌&&◌, ℤ, pos, negsuc, int_le}
use Rattle.std.specs.Int.{int_max, int_min}

abbrev pub least : ℤ
least = negsuc 9999999998

abbrev pub most : ℤ
most = pos 9999999999

-- from one number to another, ends included
abbrev pub spans : ℤ → ℤ → ℤ → Bool
spans low high v = int_le low v && int_le v high

-- both ends are in the range
abbrev pub in_range : ℤ → Bool
in_range v = spans least most v

-- the nearest number that is in the range
abbrev pub clamp : ℤ → ℤ
clamp v = int_max least (int_min most v)
