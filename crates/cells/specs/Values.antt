-- What a cell may hold, and what of it is lawful. Assumes nothing.
use Rattle.std.specs.Prelude.{◌≡◌, ℕ, Bool, true, false, cond, not, ◌&&◌, List, [], ◌∷◌, ℤ, pos, ◌≤ℤ◌, Some, None, Option, codes, int_le, int_lt, nat_le}
use Rattle.grammar.specs.Range.{in_range, most, spans}
use Rattle.grammar.specs.Texts.{is_text}
use Rattle.grammar.specs.Words.{same_word}
use Rattle.grammar.specs.Texts.{bytes_of}
use Rattle.cells.specs.Roles.{kind_of}
use Rattle.cells.specs.declared.ratings.Ratings.{Ratings}
use Rattle.cells.specs.declared.roles.Kind.{Kind}
use Rattle.cells.specs.declared.roles.Kind.TheVariants.{Number, Mask, Text}
use Rattle.cells.specs.declared.roles.Role.{Role}
use Rattle.cells.specs.declared.roles.Role.TheVariants.{Model, Identification, LowI, HighI, LowV, HighV, RateI, RateV, Password, InterlockEnable, InterlockActivation, Operator}
use Rattle.cells.specs.declared.stored.CellValue.{CellValue}
use Rattle.cells.specs.declared.stored.CellValue.TheVariants.{Number as ANumber, Mask as AMask, Text as AText}
use Rattle.cells.specs.declared.stored.Stored.{Stored}
use Rattle.cells.specs.declared.stored.Stored.TheVariants.{Number as RawNumber, Mask as RawMask, Text as RawText}

-- a value as a store holds it: raw, lawful or not
pub data Value : Type 0 where
  absent : Value
  number : ℤ → Value
  mask : ℕ → Value
  text : List ℕ → Value

-- whether there is no value
abbrev pub is_absent : Value → Bool
is_absent absent = true
is_absent (number z) = false
is_absent (mask m) = false
is_absent (text bs) = false

-- lawful numbers: a low from the rated low to 0, a high from 0 to the rated high, a rate above 0, and an operator's in range
abbrev pub lawful_number : Ratings → Role → ℤ → Bool
lawful_number r Model v = false
lawful_number r Identification v = false
lawful_number r LowI v = spans r.current.low.millionths (pos 0) v
lawful_number r HighI v = spans (pos 0) r.current.high.millionths v
lawful_number r LowV v = spans r.voltage.low.millionths (pos 0) v
lawful_number r HighV v = spans (pos 0) r.voltage.high.millionths v
lawful_number r RateI v = int_lt (pos 0) v && int_le v most
lawful_number r RateV v = int_lt (pos 0) v && int_le v most
lawful_number r Password v = false
lawful_number r InterlockEnable v = false
lawful_number r InterlockActivation v = false
lawful_number r Operator v = in_range v

-- lawful masks: up to 0x3
abbrev pub lawful_mask : ℕ → Bool
lawful_mask m = nat_le m 3

-- a password is a text, and neither LOCK nor USER in any letter case
abbrev pub lawful_password : List ℕ → Bool
lawful_password bs = is_text bs && (not (same_word bs (codes "LOCK")) && not (same_word bs (codes "USER")))

abbrev pub lawful_text : Role → List ℕ → Bool
lawful_text Model bs = is_text bs
lawful_text Identification bs = is_text bs
lawful_text LowI bs = false
lawful_text HighI bs = false
lawful_text LowV bs = false
lawful_text HighV bs = false
lawful_text RateI bs = false
lawful_text RateV bs = false
lawful_text Password bs = lawful_password bs
lawful_text InterlockEnable bs = false
lawful_text InterlockActivation bs = false
lawful_text Operator bs = false

abbrev pub is_mask : Kind → Bool
is_mask Number = false
is_mask Mask = true
is_mask Text = false

-- a lawful value of a cell: of its kind, and within its rule
abbrev pub lawful : Ratings → Role → Value → Bool
lawful r role absent = false
lawful r role (number v) = lawful_number r role v
lawful r role (mask m) = is_mask (kind_of role) && lawful_mask m
lawful r role (text bs) = lawful_text role bs

-- the value that a cell has where none was stored
abbrev pub factory : Ratings → Role → Value
factory r Model = text (codes "MB-RACK")
factory r Identification = text (codes "MB-RACK")
factory r LowI = number r.current.low.millionths
factory r HighI = number r.current.high.millionths
factory r LowV = number r.voltage.low.millionths
factory r HighV = number r.voltage.high.millionths
factory r RateI = number (pos 10000000)
factory r RateV = number (pos 10000000)
factory r Password = text (codes "PS-ADMIN")
factory r InterlockEnable = mask 0
factory r InterlockActivation = mask 3
factory r Operator = number (pos 0)

-- A CELL'S VALUE: the stored one, or the factory one where that is absent or unlawful
unfoldable pub cell_value : Ratings → Role → Value → Value
cell_value r role v = cond (lawful r role v) v (factory r role)

-- ratings with zero inside both spans, as every power module has them
pub record Fair (r : Ratings) : Type 0 where
  pub low_i : r.current.low.millionths ≤ℤ pos 0
  pub high_i : pos 0 ≤ℤ r.current.high.millionths
  pub low_v : r.voltage.low.millionths ≤ℤ pos 0
  pub high_v : pos 0 ≤ℤ r.voltage.high.millionths

-- what a cell's value means: it is lawful, and it is the stored one wherever that is lawful
pub record Valued (r : Ratings) (role : Role) (stored value : Value) : Type 0 where
  pub always : Fair r → lawful r role value ≡ true
  pub kept : lawful r role stored ≡ true → value ≡ stored
  pub restored : lawful r role stored ≡ false → value ≡ factory r role

-- a stored value and a cell's value, as the code holds them; a text of no bytes is absent
abbrev pub spoken : List ℕ → Value
spoken [] = absent
spoken (b ∷ bs) = text (b ∷ bs)

abbrev pub stored_of : Stored → Value
stored_of (RawNumber v) = number v
stored_of (RawMask m) = mask m
stored_of (RawText t) = spoken (bytes_of t)

abbrev pub stored_kind : Stored → Kind
stored_kind (RawNumber v) = Number
stored_kind (RawMask m) = Mask
stored_kind (RawText t) = Text

-- what there is of a stored value, as the code holds it
abbrev pub slot_of : Option Stored → Value
slot_of None = absent
slot_of (Some s) = stored_of s

abbrev pub value_of : CellValue → Value
value_of (ANumber q) = number q.millionths
value_of (AMask m) = mask m
value_of (AText t) = text (bytes_of t)

-- a cell's value, as a store is to hold it
abbrev pub raw_of : CellValue → Stored
raw_of (ANumber q) = RawNumber q.millionths
raw_of (AMask m) = RawMask m
raw_of (AText t) = RawText t
