-- What a power module means. Assumes nothing.
use Rattle.std.specs.Prelude.{◌≡◌, ℕ, zero, suc, ◌≤◌, Bool, true, false, cond, not, ◌&&◌, List, length, ℤ, pos, ◌≤ℤ◌, bit_and, slice_index_or}
use Rattle.grammar.specs.Range.{least, most, spans}
use Rattle.std.specs.List.{AllByRecursion}
use Rattle.power.specs.declared.loops.Loop.{Loop}
use Rattle.power.specs.declared.loops.Loop.TheVariants.{I, V}

-- for each loop a rated low and a rated high, in millionths
pub record Ratings : Type 0 where
  pub low_i : ℤ
  pub high_i : ℤ
  pub low_v : ℤ
  pub high_v : ℤ

-- what only an advance changes: the trip lines that are up, current, voltage, and a temperature for each sensor
pub record Readings : Type 0 where
  pub lines : ℕ
  pub current : ℤ
  pub voltage : ℤ
  pub temperatures : List ℤ

pub record Meaning : Type 0 where
  pub on : Bool
  pub loop : Loop
  pub demand : ℤ
  pub readings : Readings
  pub ratings : Ratings

-- WHAT EVERY MODULE KEEPS

-- one to eight sensors
pub record Counted (sensors : ℕ) : Type 0 where
  pub least : 1 ≤ sensors
  pub most : sensors ≤ 8

-- a quantity's range
abbrev pub Ranged : ℤ → Type 0
Ranged v = (least ≤ℤ v) × (v ≤ℤ most)

-- the trip lines: bits 17, 18 and 20 to 25 of the status register
abbrev pub trip_lines : ℕ
trip_lines = 0x3F60000

-- a rated span has zero inside
pub record Span (low high : ℤ) : Type 0 where
  pub low_range : Ranged low
  pub high_range : Ranged high
  pub low_zero : low ≤ℤ pos 0
  pub zero_high : pos 0 ≤ℤ high

-- no line but a trip line, all quantities in range, a temperature for each sensor
pub record Sound (sensors : ℕ) (r : Readings) : Type 0 where
  pub lines : bit_and r.lines trip_lines ≡ r.lines
  pub current : Ranged r.current
  pub voltage : Ranged r.voltage
  pub sensed : length r.temperatures ≡ sensors
  pub temperatures : AllByRecursion Ranged r.temperatures

-- sound readings, the demand in range too, and zero inside each rated span
pub record Lawful (sensors : ℕ) (m : Meaning) : Type 0 where
  pub demand : Ranged m.demand
  pub readings : Sound sensors m.readings
  pub span_i : Span m.ratings.low_i m.ratings.high_i
  pub span_v : Span m.ratings.low_v m.ratings.high_v

-- THE PARTS THAT QUESTIONS ASK FOR

abbrev pub low : Ratings → Loop → ℤ
low r I = r.low_i
low r V = r.low_v

abbrev pub high : Ratings → Loop → ℤ
high r I = r.high_i
high r V = r.high_v

-- sensors count from 1; any other reads 0
abbrev pub temperature_at : Readings → ℕ → ℤ
temperature_at r zero = pos 0
temperature_at r (suc n) = slice_index_or r.temperatures n (pos 0)

-- WHAT EACH CALL DOES

abbrev pub switched_on : Meaning → Meaning
switched_on m = record { on = true; loop = m.loop; demand = m.demand; readings = m.readings; ratings = m.ratings }

abbrev pub switched_off : Meaning → Meaning
switched_off m = record { on = false; loop = m.loop; demand = pos 0; readings = m.readings; ratings = m.ratings }

-- a loop is chosen exactly while off
abbrev pub may_choose : Meaning → Bool
may_choose m = not m.on

abbrev pub chosen : Meaning → Loop → Meaning
chosen m l = record { on = m.on; loop = cond (may_choose m) l m.loop; demand = m.demand; readings = m.readings; ratings = m.ratings }

-- the rated span of a loop, its ends inside
abbrev pub rated : Ratings → Loop → ℤ → Bool
rated r l v = spans (low r l) (high r l) v

-- a demand is applied exactly while on and inside the rated span of the present loop
abbrev pub applies : Meaning → ℤ → Bool
applies m v = m.on && rated m.ratings m.loop v

abbrev pub applied : Meaning → ℤ → Meaning
applied m v = record { on = m.on; loop = m.loop; demand = cond (applies m v) v m.demand; readings = m.readings; ratings = m.ratings }

-- an advance brings new readings, and keeps the rest
abbrev pub advanced : Meaning → Readings → Meaning
advanced m r = record { on = m.on; loop = m.loop; demand = m.demand; readings = r; ratings = m.ratings }

-- WHAT CAN BE DONE WITH ANY MODULE

-- on, in this loop and at this demand
abbrev pub started : Meaning → Loop → ℤ → Meaning
started m l v = record { on = true; loop = l; demand = v; readings = m.readings; ratings = m.ratings }

-- the demand zero, where it is on
abbrev pub rested : Meaning → Meaning
rested m = record { on = m.on; loop = m.loop; demand = cond m.on (pos 0) m.demand; readings = m.readings; ratings = m.ratings }
