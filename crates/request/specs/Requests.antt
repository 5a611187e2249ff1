-- What a line can ask, in plain values. Assumes nothing.
use Rattle.std.specs.Prelude.{ℕ, Bool, true, false, cond, List, ℤ, Some, None, Option}
use Rattle.cells.specs.Values.{Value, absent, number, mask, text, value_of}
use Rattle.cells.specs.declared.roles.Role.{Role}
use Rattle.cells.specs.declared.roles.Role.TheVariants.{Model, Identification, LowI, HighI, LowV, HighV, RateI, RateV, Password, InterlockEnable, InterlockActivation, Operator}
use Rattle.grammar.specs.Texts.{bytes_of}
use Rattle.power.specs.declared.loops.Loop.{Loop}
use Rattle.std.specs.Option.{option_map}
use Rattle.request.specs.declared.requests.Approach.{Approach}
use Rattle.request.specs.declared.requests.Cell.{Cell}
use Rattle.request.specs.declared.requests.Question.{Question}
use Rattle.request.specs.declared.requests.Question.TheVariants.{Status, PresentLoop, Target, Rate, Current, Voltage, Version, Identification as Named, Access, Cell as OfCell, Hottest, SensorCount, Sensor}
use Rattle.request.specs.declared.requests.Request.{Request as Coded}
use Rattle.request.specs.declared.requests.Request.TheVariants.{SwitchOn, SwitchOff, Reset, Save, ChooseLoop, Setpoint, SetRate, WriteCell, Password as Word, Ask}

pub data Request : Type 0 where
  switch_on : Request
  switch_off : Request
  reset : Request
  save : Request
  choose_loop : Loop → Request
  setpoint : Loop → Approach → ℤ → Request
  set_rate : Loop → ℤ → Request
  write_cell : Cell → Value → Request
  password : Option (List ℕ) → Request
  ask : Question → Request

-- what a request of the code means
abbrev pub request_of : Coded → Request
request_of SwitchOn = switch_on
request_of SwitchOff = switch_off
request_of Reset = reset
request_of Save = save
request_of (ChooseLoop l) = choose_loop l
request_of (Setpoint l a q) = setpoint l a q.millionths
request_of (SetRate l q) = set_rate l q.millionths
request_of (WriteCell c v) = write_cell c (value_of v)
request_of (Word w) = password (option_map bytes_of w)
request_of (Ask q) = ask q

-- THE PARTS OF A REQUEST THAT GROUNDS SPEAK OF

-- all but the questions are writes
abbrev pub is_write : Request → Bool
is_write switch_on = true
is_write switch_off = true
is_write reset = true
is_write save = true
is_write (choose_loop l) = true
is_write (setpoint l a v) = true
is_write (set_rate l v) = true
is_write (write_cell c v) = true
is_write (password w) = true
is_write (ask q) = false

abbrev pub is_switch_on : Request → Bool
is_switch_on switch_on = true
is_switch_on switch_off = false
is_switch_on reset = false
is_switch_on save = false
is_switch_on (choose_loop l) = false
is_switch_on (setpoint l a v) = false
is_switch_on (set_rate l v) = false
is_switch_on (write_cell c v) = false
is_switch_on (password w) = false
is_switch_on (ask q) = false

abbrev pub is_save : Request → Bool
is_save switch_on = false
is_save switch_off = false
is_save reset = false
is_save save = true
is_save (choose_loop l) = false
is_save (setpoint l a v) = false
is_save (set_rate l v) = false
is_save (write_cell c v) = false
is_save (password w) = false
is_save (ask q) = false

-- the loop that is to be chosen
abbrev pub loop_chosen : Request → Option Loop
loop_chosen switch_on = None
loop_chosen switch_off = None
loop_chosen reset = None
loop_chosen save = None
loop_chosen (choose_loop l) = Some l
loop_chosen (setpoint l a v) = None
loop_chosen (set_rate l v) = None
loop_chosen (write_cell c v) = None
loop_chosen (password w) = None
loop_chosen (ask q) = None

-- a setpoint, with the loop that it is for
abbrev pub setpoint_of : Request → Option (Loop × ℤ)
setpoint_of switch_on = None
setpoint_of switch_off = None
setpoint_of reset = None
setpoint_of save = None
setpoint_of (choose_loop l) = None
setpoint_of (setpoint l a v) = Some (l, v)
setpoint_of (set_rate l v) = None
setpoint_of (write_cell c v) = None
setpoint_of (password w) = None
setpoint_of (ask q) = None

-- a cell that is to be written, by its role, and the value
abbrev pub cell_written : Request → Option (Role × Value)
cell_written switch_on = None
cell_written switch_off = None
cell_written reset = None
cell_written save = None
cell_written (choose_loop l) = None
cell_written (setpoint l a v) = None
cell_written (set_rate l v) = None
cell_written (write_cell c v) = Some (c.role, v)
cell_written (password w) = None
cell_written (ask q) = None

-- the word that is to match
abbrev pub word_given : Request → Option (Option (List ℕ))
word_given switch_on = None
word_given switch_off = None
word_given reset = None
word_given save = None
word_given (choose_loop l) = None
word_given (setpoint l a v) = None
word_given (set_rate l v) = None
word_given (write_cell c v) = None
word_given (password w) = Some w
word_given (ask q) = None

-- the role of a cell whose value is asked for
abbrev pub role_asked : Question → Option Role
role_asked Status = None
role_asked PresentLoop = None
role_asked (Target l a) = None
role_asked (Rate l) = None
role_asked Current = None
role_asked Voltage = None
role_asked Version = None
role_asked Named = None
role_asked Access = None
role_asked (OfCell c) = Some c.role
role_asked Hottest = None
role_asked SensorCount = None
role_asked (Sensor n) = None

abbrev pub cell_read : Request → Option Role
cell_read switch_on = None
cell_read switch_off = None
cell_read reset = None
cell_read save = None
cell_read (choose_loop l) = None
cell_read (setpoint l a v) = None
cell_read (set_rate l v) = None
cell_read (write_cell c v) = None
cell_read (password w) = None
cell_read (ask q) = role_asked q

-- cells by what they are for: the software limits, the start rates, the password
abbrev pub is_limit : Role → Bool
is_limit Model = false
is_limit Identification = false
is_limit LowI = true
is_limit HighI = true
is_limit LowV = true
is_limit HighV = true
is_limit RateI = false
is_limit RateV = false
is_limit Password = false
is_limit InterlockEnable = false
is_limit InterlockActivation = false
is_limit Operator = false

abbrev pub is_rate : Role → Bool
is_rate Model = false
is_rate Identification = false
is_rate LowI = false
is_rate HighI = false
is_rate LowV = false
is_rate HighV = false
is_rate RateI = true
is_rate RateV = true
is_rate Password = false
is_rate InterlockEnable = false
is_rate InterlockActivation = false
is_rate Operator = false

abbrev pub is_password : Role → Bool
is_password Model = false
is_password Identification = false
is_password LowI = false
is_password HighI = false
is_password LowV = false
is_password HighV = false
is_password RateI = false
is_password RateV = false
is_password Password = true
is_password InterlockEnable = false
is_password InterlockActivation = false
is_password Operator = false

-- a number that is to be a rate: of a loop, or of a cell that holds a start rate
abbrev pub rate_in : Role → Value → Option ℤ
rate_in role absent = None
rate_in role (number v) = cond (is_rate role) (Some v) None
rate_in role (mask m) = None
rate_in role (text bs) = None

abbrev pub rate_given : Request → Option ℤ
rate_given switch_on = None
rate_given switch_off = None
rate_given reset = None
rate_given save = None
rate_given (choose_loop l) = None
rate_given (setpoint l a v) = None
rate_given (set_rate l v) = Some v
rate_given (write_cell c v) = rate_in c.role v
rate_given (password w) = None
rate_given (ask q) = None
