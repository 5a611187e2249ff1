use Rattle.std.proofs.Common.{◌≡◌}
use Rattle.power.specs.Recordings.{records_of, place_of, place_after, recording_meaning}
use Rattle.power.specs.Meaning.{advanced}
use Rattle.power.proofs.recording.methods.Recording.advance_by.Given as goal

abbrev pub invariant-loop : goal.invariant-loop
invariant-loop l =
    (records_of l.self ≡ records_of l.initial.self) × (place_of l.self ≡ place_after (records_of l.initial.self) (place_of l.initial.self) l.counter)
    × (recording_meaning l.self ≡ advanced (recording_meaning l.initial.self) (recording_meaning l.self).readings)
