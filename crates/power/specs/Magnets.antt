-- The magnet model: how its current moves, and what its readings are. Assumes nothing.
use Rattle.std.specs.Prelude.{Bool, ℕ, zero, suc, ◌+◌, ◌*◌, ◌≤◌, cond, [], ◌∷◌, ℤ, pos, ◌+ℤ◌, ◌-ℤ◌, ◌≤ℤ◌, int_div, nat_lt, unsigned_abs}
use Rattle.power.specs.Meaning.{Readings, Meaning}
use Rattle.power.specs.Settings.{supply_meaning, start}
use Rattle.power.specs.declared.loops.Loop.{Loop}
use Rattle.power.specs.declared.loops.Loop.TheVariants.{I, V}
use Rattle.power.specs.declared.magnet.Coil.{Coil}
use Rattle.power.specs.declared.supply.Supply.{Supply}

-- the current to which the magnet moves: the demand in loop I, half of it in loop V, rounded to zero; 0 while off
abbrev pub goal_in : Loop → ℤ → ℤ
goal_in I demand = demand
goal_in V demand = int_div demand (pos 2)

abbrev pub goal_from : Bool → Loop → ℤ → ℤ
goal_from on l demand = cond on (goal_in l demand) (pos 0)

abbrev pub goal : Meaning → ℤ
goal m = goal_from m.on m.loop m.demand

-- one advance: a sixteenth of the way to the goal, rounded to zero
abbrev pub moved : ℤ → ℤ → ℤ
moved g c = c +ℤ int_div (g -ℤ c) (pos 16)

-- 25 degrees, and 3 more for each ampere of magnitude
abbrev pub heat : ℤ → ℕ
heat c = 25000000 + 3 * unsigned_abs c

-- line 20 is up exactly above 80 degrees
abbrev pub heat_line : ℤ → ℕ
heat_line c = cond (nat_lt 80000000 (heat c)) 0x100000 0

-- the readings at a current: the voltage is twice the current
abbrev pub readings_at : ℤ → Readings
readings_at c = record { lines = heat_line c; current = c; voltage = c +ℤ c; temperatures = pos (heat c) ∷ [] }

abbrev pub coil_readings : Coil → Readings
coil_readings c = readings_at c.current.millionths

abbrev pub magnet_meaning : Supply Coil → Meaning
magnet_meaning = supply_meaning coil_readings

-- off, loop I, demand 0, current 0
abbrev pub magnet_start : Meaning
magnet_start = start (readings_at (pos 0))

-- OVER MANY ADVANCES

-- the current after n advances towards one goal
abbrev pub moved_by : ℕ → ℤ → ℤ → ℤ
moved_by zero g c = c
moved_by (suc n) g c = moved g (moved_by n g c)

abbrev pub distance : ℤ → ℤ → ℕ
distance a b = unsigned_abs (a -ℤ b)

-- x lies between c and g, ends included
abbrev pub Between : ℤ → ℤ → ℤ → Type 0
Between c g x = (c ≤ℤ g → (c ≤ℤ x) × (x ≤ℤ g)) × (g ≤ℤ c → (g ≤ℤ x) × (x ≤ℤ c))

-- however often it moves, the current never passes its goal, and its distance from it never grows
pub record Approaches (g c : ℤ) : Type 0 where
  pub between : (k : ℕ) → Between c g (moved_by k g c)
  pub nearer : (k : ℕ) → distance (moved_by (suc k) g c) g ≤ distance (moved_by k g c) g
