use Rattle.std.proofs.Common.{◌≡◌}
use Rattle.power.specs.Magnets.{magnet_meaning, readings_at, moved_by, goal as goal'}
use Rattle.power.specs.Meaning.{advanced}
use Rattle.power.proofs.magnet.methods.Magnet.advance_by.Given as goal

abbrev pub invariant-loop : goal.invariant-loop
invariant-loop l =
    magnet_meaning l.self ≡ advanced (magnet_meaning l.initial.self) (readings_at (moved_by l.counter (goal' (magnet_meaning l.initial.self)) l.initial.self.plant.current.millionths))
