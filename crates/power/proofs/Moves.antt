-- How the magnet's current nears its goal. Assumes nothing.
use Rattle.std.proofs.Common.{◌≡◌, ℕ, zero, suc, ◌+◌, ◌≤◌, ℤ, ◌≤ℤ◌, add-one, arith}
use Rattle.std.proofs.lemmas.Int.{ints}
use Rattle.power.specs.Meaning.{Meaning, advanced}
use Rattle.power.specs.Magnets.{goal, readings_at, moved, moved_by, distance, Between, Approaches}

-- one step stays between
step : (g c : ℤ) → Between c g (moved g c)
step g c = grind (arith, ints)

pub step_down : (g c : ℤ) → g ≤ℤ c → (g ≤ℤ moved g c) × (moved g c ≤ℤ c)
step_down g c = (step g c).1

between : (g c : ℤ) (k : ℕ) → Between c g (moved_by k g c)
between g c zero = grind (arith, ints)
between g c (suc k) = let b = between g c k in let s = step g (moved_by k g c) in grind (arith, ints)

-- what lies between another and the goal is no further from the goal
pub near_up : (g x y : ℤ) → x ≤ℤ y → y ≤ℤ g → distance y g ≤ distance x g
near_up g x y a b = grind (arith, ints)

pub near_down : (g x y : ℤ) → y ≤ℤ x → g ≤ℤ y → distance y g ≤ distance x g
near_down g x y a b = grind (arith, ints)

pub approaches : (g c : ℤ) → Approaches g c
approaches g c = record { between = between g c; nearer = λ k. grind (arith, ints) }

-- one advance more
pub run_more : (m x y : Meaning) (k : ℕ) (c : ℤ) → x ≡ advanced m (readings_at (moved_by k (goal m) m.readings.current)) → y ≡ advanced x (readings_at c) → c ≡ moved (goal x) x.readings.current
    → y ≡ advanced m (readings_at (moved_by (k + 1) (goal m) m.readings.current))
run_more m x y k c e f h = grind (arith, add-one)
