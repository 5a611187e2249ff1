-- Ramps: how the demand goes from a start to a target. Assumes nothing.
use Rattle.std.specs.Prelude.{◌≡◌, ℕ, ◌+◌, ◌*◌, ◌/◌, min, cond, List, [], ◌∷◌, ℤ, pos, negsuc, ◌+ℤ◌, ◌-ℤ◌, ◌≤ℤ◌, int_le, unsigned_abs}
use Rattle.grammar.specs.Range.{least, most}
use Rattle.grammar.specs.declared.quantity.Quantity.{Quantity}
use Rattle.control.specs.declared.ramp.Ramp.{Ramp}

-- THE COURSE OF A RAMP

-- where it started, where it goes, and the sum of the rates of its ticks in millionths per second
pub record Course : Type 0 where
  pub start : ℤ
  pub target : ℤ
  pub sum : ℕ

abbrev pub course_of : Ramp → Course
course_of r = record { start = r.start.millionths; target = r.target.millionths; sum = r.sum }

abbrev pub begun : ℤ → ℤ → Course
begun a b = record { start = a; target = b; sum = 0 }

abbrev pub distance : Course → ℕ
distance c = unsigned_abs (c.target -ℤ c.start)

-- what a rate adds in a tick; one below zero adds nothing
abbrev pub pace_of : ℤ → ℕ
pace_of (pos n) = n
pace_of (negsuc n) = 0

abbrev pub pace_in : Quantity → ℕ
pace_in q = pace_of q.millionths

-- one tick: the sum grows, and no further than the whole way takes
abbrev pub ticked : Course → ℕ → Course
ticked c pace = record { start = c.start; target = c.target; sum = min (c.sum + pace) (1000 * distance c) }

abbrev pub ticked_by : Course → List ℕ → Course
ticked_by c [] = c
ticked_by c (p ∷ ps) = ticked_by (ticked c p) ps

-- so far from a start towards a target
abbrev pub towards : ℤ → ℤ → ℕ → ℤ
towards a b n = cond (int_le a b) (a +ℤ pos n) (a -ℤ pos n)

-- a thousand ticks are a second, so the travel is the whole part of the sum over a thousand
abbrev pub position : Course → ℤ
position c = towards c.start c.target (c.sum / 1000)

-- within the range of quantities
abbrev pub Inside : ℤ → Type 0
Inside v = (least ≤ℤ v) × (v ≤ℤ most)

-- THE LAW

abbrev pub total : List ℕ → ℕ
total [] = 0
total (p ∷ ps) = p + total ps

-- x lies between a and b, ends included
abbrev pub Between : ℤ → ℤ → ℤ → Type 0
Between a b x = (a ≤ℤ b → (a ≤ℤ x) × (x ≤ℤ b)) × (b ≤ℤ a → (b ≤ℤ x) × (x ≤ℤ a))

-- with these rates in all, the demand has gone from start towards target by the whole part of their sum over a
-- thousand, stopped at the target; so it is always between the two
pub record Ramped (start target : ℤ) (rates : ℕ) (demand : ℤ) : Type 0 where
  pub moved : demand ≡ towards start target (min (rates / 1000) (unsigned_abs (target -ℤ start)))
  pub between : Between start target demand
