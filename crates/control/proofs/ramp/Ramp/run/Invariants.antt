use Rattle.std.proofs.Common.{◌≡◌, map, drop}
use Rattle.control.specs.Ramps.{course_of, pace_in, ticked_by}
use Rattle.control.proofs.ramp.Ramp.run.Given as goal

-- the ticks still to come lead where all of them lead
abbrev pub invariant-loop-rate : goal.invariant-loop-rate
invariant-loop-rate l = ticked_by (course_of l.self) (map pace_in (drop l.rate-index l.rates)) ≡ ticked_by (course_of l.initial.self) (map pace_in l.rates)
