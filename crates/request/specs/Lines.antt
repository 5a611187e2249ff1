-- A line, and what it asks. Assumes nothing.
use Rattle.std.specs.Prelude.{◌≡◌, ℕ, ℤ, cond, List, length, Some, None, Option, nat_lt}
use Rattle.cells.specs.Roles.{kind_of}
use Rattle.cells.specs.Values.{Value}
use Rattle.grammar.specs.Fields.{fields, field}
use Rattle.grammar.specs.Numbers.{number_of}
use Rattle.grammar.specs.declared.quantity.Quantity.{Quantity}
use Rattle.power.specs.declared.loops.Loop.{Loop}
use Rattle.power.specs.declared.loops.Loop.TheVariants.{I, V}
use Rattle.std.specs.Option.{option_map}
use Rattle.request.specs.declared.commands.Command.{Command}
use Rattle.request.specs.declared.commands.Command.TheVariants.{Mon, Moff, Mreset, Msave, Loop as LOOP, Mwi, Mwir, Mwv, Mwvr, Msri, Msrv, Mwg, Password, Mst, Mri, Mrv, Ver, Mrid, Mrg, Mrt}
use Rattle.request.specs.declared.requests.Approach.{Approach}
use Rattle.request.specs.declared.requests.Approach.TheVariants.{AtOnce, Ramp}
use Rattle.request.specs.declared.requests.Cell.{Cell}
use Rattle.request.specs.declared.requests.Question.{Question}
use Rattle.request.specs.declared.requests.Request.{Request as Coded}
use Rattle.request.specs.declared.requests.Question.TheVariants.{Status, PresentLoop, Target, Rate, Current, Voltage, Version, Identification, Access, Cell as OfCell, Hottest, SensorCount, Sensor}
use Rattle.request.specs.Commands.{command_of}
use Rattle.request.specs.Forms.{is_query, is_num, loop_named, index_of, cell_named, word_of, value_in}
use Rattle.request.specs.Requests.{Request, request_of, switch_on, switch_off, reset, save, choose_loop, setpoint, set_rate, write_cell, password, ask}

-- what the grounds need of a line: its length, its command, how many fields it has, and the second and third
pub record Line : Type 0 where
  pub size : ℕ
  pub command : Option Command
  pub count : ℕ
  pub second : List ℕ
  pub third : List ℕ

abbrev pub parsed : List ℕ → Line
parsed bytes = record { size = length bytes; command = command_of (field 0 (fields bytes)); count = length (fields bytes); second = field 1 (fields bytes); third = field 2 (fields bytes) }

-- a number that is to be set, or the question for it
abbrev pub number_asked : Question → (ℤ → Request) → List ℕ → Option Request
number_asked q set f = cond (is_query f) (Some (ask q)) (option_map set (number_of f))

-- a setpoint, or the question for it
abbrev pub setpoint_asked : Loop → Approach → List ℕ → Option Request
setpoint_asked l a f = number_asked (Target l a) (setpoint l a) f

-- a rate, or the question for it
abbrev pub rate_asked : Loop → List ℕ → Option Request
rate_asked l f = number_asked (Rate l) (set_rate l) f

-- each request that comes of a quantity means what is made of its millionths
abbrev pub SetsTo : (Quantity → Coded → Type 0) → (ℤ → Request) → Type 0
SetsTo makes set = (q : Quantity) (r : Coded) → makes q r → request_of r ≡ set q.millionths

abbrev pub written : Cell → Option Value → Option Request
written c None = None
written c (Some v) = Some (write_cell c v)

-- a value for a cell, if there is such a cell
abbrev pub write_asked : Option Cell → List ℕ → Option Request
write_asked None f = None
write_asked (Some c) f = written c (value_in (kind_of c.role) f)

-- of two fields the hottest sensor; of three their number, or one of them
abbrev pub sensor_asked : ℕ → List ℕ → Option Request
sensor_asked n f = cond (nat_lt 2 n) (cond (is_num f) (Some (ask SensorCount)) (option_map (λ k. ask (Sensor k)) (index_of f))) (Some (ask Hottest))

-- what a command of n fields asks
abbrev pub requested : Command → ℕ → List ℕ → List ℕ → Option Request
requested Mon n f g = Some switch_on
requested Moff n f g = Some switch_off
requested Mreset n f g = Some reset
requested Msave n f g = Some save
requested LOOP n f g = cond (is_query f) (Some (ask PresentLoop)) (option_map choose_loop (loop_named f))
requested Mwi n f g = setpoint_asked I AtOnce f
requested Mwir n f g = setpoint_asked I Ramp f
requested Mwv n f g = setpoint_asked V AtOnce f
requested Mwvr n f g = setpoint_asked V Ramp f
requested Msri n f g = rate_asked I f
requested Msrv n f g = rate_asked V f
requested Mwg n f g = write_asked (cell_named f) g
requested Password n f g = cond (is_query f) (Some (ask Access)) (Some (password (word_of f)))
requested Mst n f g = Some (ask Status)
requested Mri n f g = Some (ask Current)
requested Mrv n f g = Some (ask Voltage)
requested Ver n f g = Some (ask Version)
requested Mrid n f g = Some (ask Identification)
requested Mrg n f g = option_map (λ (c : Cell). ask (OfCell c)) (cell_named f)
requested Mrt n f g = sensor_asked n f

abbrev pub requested_by : Option Command → ℕ → List ℕ → List ℕ → Option Request
requested_by None n f g = None
requested_by (Some c) n f g = requested c n f g

-- what a line asks
abbrev pub asked : Line → Option Request
asked l = requested_by l.command l.count l.second l.third
