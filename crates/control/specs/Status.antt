-- The status register. Assumes nothing.
use Rattle.std.specs.Prelude.{ℕ, ◌+◌, ◌^◌, Bool, true, false, cond, not, ◌==◌, bit_and}
use Rattle.power.specs.declared.loops.Loop.{Loop}
use Rattle.power.specs.declared.loops.Loop.TheVariants.{I, V}
use Rattle.request.specs.Facts.{is_local}
use Rattle.control.specs.declared.status.Status.{Status}

abbrev pub is_voltage : Loop → Bool
is_voltage I = false
is_voltage V = true

-- the bits of the trips: 17 to 27
abbrev pub trip_bits : ℕ
trip_bits = 0xFFE0000

-- bit 0 on, 1 any trip, 2 LOCAL, 5 loop V, 12 demand not at target, 17 to 27 the trips
abbrev pub register : Bool → ℕ → Bool → Bool → Bool → ℕ
register on trips local voltage ramping =
    cond on (2 ^ 0) 0
    + cond (not (trips == 0)) (2 ^ 1) 0
    + cond local (2 ^ 2) 0
    + cond voltage (2 ^ 5) 0
    + cond ramping (2 ^ 12) 0
    + bit_and trips trip_bits

abbrev pub register_of : Status → ℕ
register_of s = register s.on s.trips (is_local s.control) (is_voltage s.present) s.ramping
