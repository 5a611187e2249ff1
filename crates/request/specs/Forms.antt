-- What the fields of each command may be, and what a field says. Assumes nothing.
use Rattle.std.specs.Prelude.{ℕ, Bool, true, false, cond, not, ◌&&◌, List, is_some, Some, None, codes, Option, nat_le, nat_lt}
use Rattle.cells.specs.Directory.{role_of}
use Rattle.cells.specs.Roles.{kind_of}
use Rattle.cells.specs.Values.{Value, number, mask, text, lawful_mask, lawful_text, is_mask}
use Rattle.cells.specs.declared.roles.Kind.{Kind}
use Rattle.cells.specs.declared.roles.Kind.TheVariants.{Number, Mask, Text}
use Rattle.cells.specs.declared.roles.Role.{Role}
use Rattle.grammar.specs.Masks.{mask_of}
use Rattle.grammar.specs.Numbers.{number_of}
use Rattle.grammar.specs.Numerals.{numeral_of}
use Rattle.grammar.specs.Texts.{is_text}
use Rattle.grammar.specs.Words.{same_word}
use Rattle.power.specs.declared.loops.Loop.{Loop}
use Rattle.power.specs.declared.loops.Loop.TheVariants.{I, V}
use Rattle.std.specs.Option.{option_map}
use Rattle.request.specs.declared.commands.Command.{Command}
use Rattle.request.specs.declared.commands.Command.TheVariants.{Mon, Moff, Mreset, Msave, Loop as LOOP, Mwi, Mwir, Mwv, Mwvr, Msri, Msrv, Mwg, Password, Mst, Mri, Mrv, Ver, Mrid, Mrg, Mrt}
use Rattle.request.specs.declared.requests.Cell.{Cell}

-- THE FORMS

-- what a field may be
pub data Field : Type 0 where
  -- there is no such field
  nothing : Field
  -- the question mark
  query : Field
  -- the question mark, where there are more than so many fields
  query_above : ℕ → Field
  loop_or_query : Field
  number_or_query : Field
  -- any word, or the question mark
  word_or_query : Field
  -- the index of a cell
  cell : Field
  -- of two fields the question mark; of three NUM, or the index of a sensor
  sensor : Field
  -- a value for the cell that the field before it names
  value : Field

-- how many fields a line has, the command's name counted, and what the second and the third are
pub record Form : Type 0 where
  pub fewest : ℕ
  pub most : ℕ
  pub second : Field
  pub third : Field

abbrev pub form : Command → Form
form Mon = record { fewest = 1; most = 1; second = nothing; third = nothing }
form Moff = record { fewest = 1; most = 1; second = nothing; third = nothing }
form Mreset = record { fewest = 1; most = 1; second = nothing; third = nothing }
form Msave = record { fewest = 1; most = 1; second = nothing; third = nothing }
form LOOP = record { fewest = 2; most = 2; second = loop_or_query; third = nothing }
form Mwi = record { fewest = 2; most = 2; second = number_or_query; third = nothing }
form Mwir = record { fewest = 2; most = 2; second = number_or_query; third = nothing }
form Mwv = record { fewest = 2; most = 2; second = number_or_query; third = nothing }
form Mwvr = record { fewest = 2; most = 2; second = number_or_query; third = nothing }
form Msri = record { fewest = 2; most = 2; second = number_or_query; third = nothing }
form Msrv = record { fewest = 2; most = 2; second = number_or_query; third = nothing }
form Mwg = record { fewest = 3; most = 3; second = cell; third = value }
form Password = record { fewest = 2; most = 2; second = word_or_query; third = nothing }
form Mst = record { fewest = 2; most = 2; second = query; third = nothing }
form Mri = record { fewest = 2; most = 2; second = query; third = nothing }
form Mrv = record { fewest = 2; most = 2; second = query; third = nothing }
form Ver = record { fewest = 2; most = 2; second = query; third = nothing }
form Mrid = record { fewest = 1; most = 2; second = query_above 1; third = nothing }
form Mrg = record { fewest = 2; most = 3; second = cell; third = query_above 2 }
form Mrt = record { fewest = 2; most = 3; second = sensor; third = query_above 2 }

-- WHAT A FIELD SAYS

-- a test of a value, if there is one
abbrev pub that : {X : Type 0} → Option X → (X → Bool) → Bool
that None test = false
that (Some x) test = test x

unfoldable pub is_query : List ℕ → Bool
is_query f = same_word f (codes "?")

unfoldable pub is_num : List ℕ → Bool
is_num f = same_word f (codes "NUM")

unfoldable pub loop_named : List ℕ → Option Loop
loop_named f = cond (same_word f (codes "I")) (Some I) (cond (same_word f (codes "V")) (Some V) None)

-- one to three digits
abbrev pub index_of : List ℕ → Option ℕ
index_of f = numeral_of 10 3 f

-- the cell of the directory with this index
unfoldable pub cell_at : ℕ → Option Cell
cell_at k = option_map (λ (role : Role). record { index = k; role = role }) (role_of k)

abbrev pub found_cell : Option ℕ → Option Cell
found_cell None = None
found_cell (Some k) = cell_at k

-- the cell that a field names
abbrev pub cell_named : List ℕ → Option Cell
cell_named f = found_cell (index_of f)

-- sensors count from 1
abbrev pub sensor_there : ℕ → ℕ → Bool
sensor_there sensors k = nat_le 1 k && nat_le k sensors

-- a word that may be a password: a text, else none
abbrev pub word_of : List ℕ → Option (List ℕ)
word_of f = cond (is_text f) (Some f) None

-- the value that a field gives a cell of a kind
abbrev pub value_in : Kind → List ℕ → Option Value
value_in Number f = option_map number (number_of f)
value_in Mask f = option_map mask (mask_of f)
value_in Text f = Some (text f)

-- FAULTS OF A FIELD

-- it is not the wanted word or digits; n fields are there
abbrev pub misworded : Field → ℕ → List ℕ → Bool
misworded nothing n f = false
misworded query n f = not (is_query f)
misworded (query_above k) n f = nat_lt k n && not (is_query f)
misworded loop_or_query n f = not (is_query f) && not (is_some (loop_named f))
misworded number_or_query n f = false
misworded word_or_query n f = false
misworded cell n f = not (is_some (index_of f))
misworded sensor n f = cond (nat_lt 2 n) (not (is_num f) && not (is_some (index_of f))) (not (is_query f))
misworded value n f = false

-- it names a cell that is not in the directory, or a sensor that does not exist
abbrev pub names_none : Field → ℕ → ℕ → List ℕ → Bool
names_none nothing sensors n f = false
names_none query sensors n f = false
names_none (query_above k) sensors n f = false
names_none loop_or_query sensors n f = false
names_none number_or_query sensors n f = false
names_none word_or_query sensors n f = false
names_none cell sensors n f = that (index_of f) (λ k. not (is_some (cell_at k)))
names_none sensor sensors n f = nat_lt 2 n && (not (is_num f) && that (index_of f) (λ k. not (sensor_there sensors k)))
names_none value sensors n f = false

abbrev pub is_number : Kind → Bool
is_number Number = true
is_number Mask = false
is_number Text = false

abbrev pub is_words : Kind → Bool
is_words Number = false
is_words Mask = false
is_words Text = true

-- a value for a cell that holds a number is no number
abbrev pub bad_number : Role → List ℕ → Bool
bad_number role f = is_number (kind_of role) && not (is_some (number_of f))

-- a value for a cell that holds a mask is no mask, or one above 0x3; for one that holds a text, no lawful text
abbrev pub bad_mask_or_text : Role → List ℕ → Bool
bad_mask_or_text role f = cond (is_mask (kind_of role)) (not (that (mask_of f) lawful_mask)) (is_words (kind_of role) && not (lawful_text role f))

-- it is no number where one is wanted; the field before it may name the cell that it is for
abbrev pub no_number_in : Field → List ℕ → List ℕ → Bool
no_number_in nothing before f = false
no_number_in query before f = false
no_number_in (query_above k) before f = false
no_number_in loop_or_query before f = false
no_number_in number_or_query before f = not (is_query f) && not (is_some (number_of f))
no_number_in word_or_query before f = false
no_number_in cell before f = false
no_number_in sensor before f = false
no_number_in value before f = that (cell_named before) (λ (c : Cell). bad_number c.role f)

-- it is no mask or text that the cell before it may have
abbrev pub malformed : Field → List ℕ → List ℕ → Bool
malformed nothing before f = false
malformed query before f = false
malformed (query_above k) before f = false
malformed loop_or_query before f = false
malformed number_or_query before f = false
malformed word_or_query before f = false
malformed cell before f = false
malformed sensor before f = false
malformed value before f = that (cell_named before) (λ (c : Cell). bad_mask_or_text c.role f)
