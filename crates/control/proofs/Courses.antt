-- How a ramp's course goes over many ticks. Assumes nothing.
use Rattle.std.proofs.Common.{◌≡◌, ℕ, ◌+◌, ◌*◌, ◌/◌, ◌≤◌, min, List, [], ◌∷◌, ℤ, ◌-ℤ◌, ◌≤ℤ◌, nat_abs, sym, ap, ◌∙◌, subst, arith}
use Rattle.std.proofs.lemmas.Int.{ints}
use Rattle.control.specs.Ramps.{Course, distance, ticked, ticked_by, towards, position, total, Between, Ramped}

-- MANY TICKS

abbrev at : Course → ℕ → Course
at c n = record { start = c.start; target = c.target; sum = n }

capped : (s t d : ℕ) → min (min s d + t) d ≡ min (s + t) d
capped s t d = omega arith

regroup : (s p t : ℕ) → (s + p) + t ≡ s + (p + t)
regroup s p t = omega arith

after : (c : Course) (ps : List ℕ) → c.sum ≤ 1000 * distance c → ticked_by c ps ≡ at c (min (c.sum + total ps) (1000 * distance c))
after c [] h = ap (at c) (omega arith)
after c (p ∷ ps) h =
    after (ticked c p) ps (omega arith)
    ∙ ap (at c) (capped (c.sum + p) (total ps) (1000 * distance c) ∙ ap (λ n. min n (1000 * distance c)) (regroup c.sum p (total ps)))

-- the whole part of a capped sum
whole : (s d : ℕ) → min s (1000 * d) / 1000 ≡ min (s / 1000) d
whole s d = omega arith

-- what lies between two one way does so the other way too where they are the same
pub flat_up : (a b x : ℤ) → (a ≤ℤ x) × (x ≤ℤ b) → b ≤ℤ a → (b ≤ℤ x) × (x ≤ℤ a)
flat_up a b x u h = (omega (arith, ints), omega (arith, ints))

between : (a b : ℤ) (n : ℕ) → Between a b (towards a b (min n (nat_abs (b -ℤ a))))
between a b n = (λ h. (grind (arith, ints), grind (arith, ints)), λ h. (grind (arith, ints), grind (arith, ints)))

pub ramped : (c : Course) (ps : List ℕ) → c.sum ≤ 1000 * distance c → Ramped c.start c.target (c.sum + total ps) (position (ticked_by c ps))
ramped c ps h =
    let moved = ap position (after c ps h) ∙ ap (towards c.start c.target) (whole (c.sum + total ps) (distance c)) in
    record { moved = moved; between = subst (Between c.start c.target) (sym moved) (between c.start c.target ((c.sum + total ps) / 1000)) }
