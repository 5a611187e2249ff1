use Rattle.std.proofs.Common.{◌≡◌}
use Rattle.power.specs.Magnets.{magnet_meaning}
use Rattle.tour.specs.Heating.{Quiet, ran_by}
use Rattle.tour.proofs.heating.run_to_trip.Given as goal

abbrev pub invariant-loop-n : goal.invariant-loop-n
invariant-loop-n l = (magnet_meaning l.magnet ≡ ran_by (magnet_meaning l.initial.magnet) l.n) × Quiet (magnet_meaning l.initial.magnet) l.n
