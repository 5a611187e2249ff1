-- A magnet that runs until it trips. Assumes nothing.
use Rattle.std.specs.Prelude.{◌≡◌, ℕ, ◌<◌, Some, None, Option, ◌≢◌}
use Rattle.power.specs.Magnets.{goal, heat_line, moved_by, readings_at}
use Rattle.power.specs.Meaning.{Meaning, advanced}

-- no line is up in the first n milliseconds
abbrev pub Quiet : Meaning → ℕ → Type 0
Quiet m n = (k : ℕ) → k < n → heat_line (moved_by k (goal m) m.readings.current) ≡ 0

-- the magnet after n milliseconds
abbrev pub ran_by : Meaning → ℕ → Meaning
ran_by m n = advanced m (readings_at (moved_by n (goal m) m.readings.current))

-- either a line is up after n milliseconds, and none was before, or none was in the time given
abbrev pub RunsToTrip : Meaning → ℕ → Option ℕ → Meaning → Type 0
RunsToTrip m most (Some n) after = (n < most) × Quiet m n × (after ≡ ran_by m n) × (after.readings.lines ≢ 0)
RunsToTrip m most None after = Quiet m most × (after ≡ ran_by m most)
