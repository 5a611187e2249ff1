-- What the supply makes of a typed setpoint. Assumes nothing.
use Rattle.std.specs.Prelude.{◌≡◌, ℕ, ◌<◌, Bool, true, false, List, length, take, Some, None, Result, Ok, Err, ◌==◌, slice_index}
use Rattle.std.specs.List.{list_any}
use Rattle.std.specs.Char.{is_ascii_digit}
use Rattle.grammar.specs.Numbers.{number_of, printed, LongestBeginning}
use Rattle.grammar.specs.Texts.{bytes_of}
use Rattle.tour.specs.declared.setpoints.Fault.{Fault}
use Rattle.tour.specs.declared.setpoints.Fault.TheVariants.{EndsEarly, WholeDigit, Decimal, OtherByte}
use Rattle.tour.specs.declared.setpoints.Taken.{Taken}
use Rattle.tour.specs.declared.setpoints.Refused.{Refused}

-- a point is among these bytes
abbrev pub has_point : List ℕ → Bool
has_point bs = list_any (λ c. c == 46) bs

-- what is wrong at the place where the bytes stop being the beginning of a number:
-- they end there, or a digit too many stands there, before the point or after it, or a byte that no number has there
abbrev pub Faulty : List ℕ → ℕ → Fault → Type 0
Faulty bs at EndsEarly = length bs ≡ at
Faulty bs at WholeDigit = (at < length bs) × (is_ascii_digit (slice_index bs at) ≡ true) × (has_point (take at bs) ≡ false)
Faulty bs at Decimal = (at < length bs) × (is_ascii_digit (slice_index bs at) ≡ true) × (has_point (take at bs) ≡ true)
Faulty bs at OtherByte = (at < length bs) × (is_ascii_digit (slice_index bs at) ≡ false)

-- a setpoint that is a number, with its one printed form, which reads back as itself;
-- or one that is none, with the place where it stops being one and what is wrong there
abbrev pub Assessed : List ℕ → Result Taken Refused → Type 0
Assessed bs (Ok t) = (number_of bs ≡ Some t.quantity.millionths) × (bytes_of t.printed ≡ printed t.quantity.millionths) × (number_of (bytes_of t.printed) ≡ Some t.quantity.millionths)
Assessed bs (Err r) = (number_of bs ≡ None) × LongestBeginning bs r.at × Faulty bs r.at r.fault
