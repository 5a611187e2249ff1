-- Interlocks and trips, as bits. Assumes nothing.
use Rattle.std.specs.Prelude.{ℕ, ◌+◌, ◌/◌, ◌%◌, ◌^◌, Bool, true, false, cond, not, ◌&&◌, ◌||◌, ◌==◌, bit_or}

-- bit k of a number, counted from 0
abbrev pub bit_at : ℕ → ℕ → Bool
bit_at k n = n / 2 ^ k % 2 == 1

abbrev pub same_bit : Bool → Bool → Bool
same_bit true b = b
same_bit false b = not b

-- interlock k+1 is active when it is enabled and its level is the one that activates it
abbrev pub is_active : ℕ → ℕ → ℕ → ℕ → Bool
is_active k enable activation levels = bit_at k enable && same_bit (bit_at k levels) (bit_at k activation)

-- interlock n is trip bit 25 + n
abbrev pub interlocks : ℕ → ℕ → ℕ → ℕ
interlocks enable activation levels = cond (is_active 0 enable activation levels) (2 ^ 26) 0 + cond (is_active 1 enable activation levels) (2 ^ 27) 0

-- WHETHER A TICK TRIPS: a live line is up, or an interlock is active
abbrev pub tick_trips : ℕ → ℕ → Bool
tick_trips lines active = not (lines == 0) || not (active == 0)

-- a tick that trips adds its lines and interlocks to the trips
abbrev pub latched : ℕ → ℕ → ℕ → ℕ
latched trips lines active = bit_or trips (bit_or lines active)

-- a reset leaves the lines that are live now, and the interlocks active at the last tick
abbrev pub left_by_reset : ℕ → ℕ → ℕ
left_by_reset lines active = bit_or lines active
