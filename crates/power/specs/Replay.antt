-- What the readings of a record keep. Assumes nothing.
use Rattle.std.specs.Prelude.{◌≡◌, ℕ, ℤ, pos, bit_and, slice_index_or}
use Rattle.std.proofs.Common.{refl, ap, ◌∙◌, arith}
use Rattle.std.specs.Int.Bits.{and_self}
use Rattle.std.proofs.lemmas.Int.{ints}
use Rattle.std.proofs.lemmas.Nat.{and_assoc}
use Rattle.grammar.specs.Range.{clamp}
use Rattle.power.specs.Meaning.{Ranged, Sound, trip_lines}
use Rattle.power.specs.Recordings.{readings_of}
use Rattle.power.specs.declared.recording.Record.{Record}

pub clamp-ranged : (v : ℤ) → Ranged (clamp v)
clamp-ranged v = (grind (arith, ints), grind (arith, ints))

-- a mask put on twice is put on once
pub and_again : (n : ℕ) (a : ℕ) → bit_and (bit_and a n) n ≡ bit_and a n
and_again n a = and_assoc n a n ∙ ap (bit_and a) (and_self n)

pub masked : (x : ℕ) → bit_and (bit_and x trip_lines) trip_lines ≡ bit_and x trip_lines
masked x = and_again trip_lines x

pub kept-sound : (r : Record) → Sound 4 (readings_of r)
kept-sound r =
    let t = λ (k : ℕ). clamp-ranged (slice_index_or r.temperatures k (pos 0)) in
    record {
      lines = masked r.lines;
      current = clamp-ranged r.current;
      voltage = clamp-ranged r.voltage;
      sensed = refl;
      temperatures = (t 0, (t 1, (t 2, (t 3, tt))));
    }
