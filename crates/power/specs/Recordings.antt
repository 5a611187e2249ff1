-- The recording: which record it shows, and what readings that gives. Assumes nothing.
use Rattle.std.specs.Prelude.{ℕ, ◌+◌, min, List, [], ◌∷◌, length, ℤ, pos, vec_items, bit_and, slice_index_or}
use Rattle.grammar.specs.Range.{clamp}
use Rattle.power.specs.Meaning.{Readings, Meaning, trip_lines}
use Rattle.power.specs.Settings.{supply_meaning, start}
use Rattle.power.specs.declared.recording.Record.{Record}
use Rattle.power.specs.declared.recording.Tape.{Tape}
use Rattle.power.specs.declared.supply.Supply.{Supply}

-- the reading of one sensor of a record, kept in range
abbrev pub sensed : List ℤ → ℕ → ℤ
sensed ts k = clamp (slice_index_or ts k (pos 0))

-- the readings of a record: no line but the trip lines, and every quantity kept in range
abbrev pub readings_of : Record → Readings
readings_of r = record {
  lines = bit_and r.lines trip_lines;
  current = clamp r.current;
  voltage = clamp r.voltage;
  temperatures = sensed r.temperatures 0 ∷ sensed r.temperatures 1 ∷ sensed r.temperatures 2 ∷ sensed r.temperatures 3 ∷ [];
}

-- what is shown before the first record, and where there is none: zero everywhere
abbrev pub blank : Record
blank = record { lines = 0; current = pos 0; voltage = pos 0; temperatures = [] }

-- records count from 1, and number 0 is the blank one
abbrev pub shown_of : List Record → ℕ → Readings
shown_of rs k = readings_of (slice_index_or (blank ∷ rs) k blank)

-- the readings of the record that a tape shows
abbrev pub tape_readings : Tape → Readings
tape_readings t = shown_of (vec_items t.records) t.place

-- the records of a recording, and the number of the one that it shows
abbrev pub records_of : Supply Tape → List Record
records_of r = vec_items r.plant.records

abbrev pub place_of : Supply Tape → ℕ
place_of r = r.plant.place

abbrev pub recording_meaning : Supply Tape → Meaning
recording_meaning = supply_meaning tape_readings

-- off, loop I, demand 0, all readings zero
abbrev pub recording_start : Meaning
recording_start = start (readings_of blank)

-- the number of the record that is shown n advances after number k: one more each time, and the last one again and again
abbrev pub place_after : List Record → ℕ → ℕ → ℕ
place_after rs k n = min (k + n) (length rs)
