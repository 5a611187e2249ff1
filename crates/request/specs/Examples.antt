-- Examples: a line on every ground of the table, and every command read. Assumes nothing.
use Rattle.std.specs.Prelude.{◌≡◌, ℕ, Bool, true, false, List, [], ◌∷◌, map, replicate, pos, negsuc, Some, None, codes, Option}
use Prim.Native.String.{String}
use Rattle.cells.specs.Values.{number, mask, text}
use Rattle.cells.specs.declared.roles.Role.TheVariants.{Identification, HighI, InterlockEnable, Operator}
use Rattle.power.specs.declared.loops.Loop.TheVariants.{I, V}
use Rattle.request.specs.Facts.{Facts}
use Rattle.request.specs.Grounds.{refusal}
use Rattle.request.specs.Lines.{parsed, asked}
use Rattle.request.specs.Requests.{Request, switch_on, switch_off, reset, save, choose_loop, setpoint, set_rate, write_cell, password, ask}
use Rattle.request.specs.declared.circumstances.Access.{Access}
use Rattle.request.specs.declared.circumstances.Access.TheVariants.{User, Admin}
use Rattle.request.specs.declared.circumstances.Control.{Control}
use Rattle.request.specs.declared.circumstances.Control.TheVariants.{Local, Remote}
use Rattle.request.specs.declared.circumstances.Origin.{Origin}
use Rattle.request.specs.declared.circumstances.Origin.TheVariants.{Panel, Socket}
use Rattle.request.specs.declared.refusals.LineRefusal.{LineRefusal}
use Rattle.request.specs.declared.refusals.LineRefusal.TheVariants.{LongLine, NoCommand, FewFields, WrongField, NoSuch, NoNumber, PanelInRemote, SocketInLocal, NoMatch, NotAllowed, TripStanding, WhileOn, SameLoop, OtherLoop, WhileOff, OutsideRating, OutsideLimits, RateNotPositive, Unable}
use Rattle.request.specs.declared.requests.Approach.TheVariants.{AtOnce, Ramp}
use Rattle.request.specs.declared.requests.Question.TheVariants.{Status, PresentLoop, Target, Rate, Current, Voltage, Version, Identification as Named, Access as Level, Cell as OfCell, Hottest, SensorCount, Sensor}

-- ON WHICH GROUND

-- a module of one sensor, rated 20 A and 40 V either way, in loop I, with limits of 5 A
abbrev pub given : Origin → Control → Access → Bool → Bool → Bool → Facts
given origin control access tripped on able = record {
  origin = origin;
  control = control;
  access = access;
  password = codes "PS-ADMIN";
  tripped = tripped;
  on = on;
  loop = I;
  rated = record { low_i = negsuc 19999999; high_i = pos 20000000; low_v = negsuc 39999999; high_v = pos 40000000 };
  limits = record { low_i = negsuc 4999999; high_i = pos 5000000; low_v = negsuc 39999999; high_v = pos 40000000 };
  able = able;
  sensors = 1;
}

-- a USER at a socket in REMOTE, while off and while on; an ADMIN there
abbrev pub off : Facts
off = given Socket Remote User false false true

abbrev pub on : Facts
on = given Socket Remote User false true true

abbrev pub admin_off : Facts
admin_off = given Socket Remote Admin false false true

abbrev pub admin_on : Facts
admin_on = given Socket Remote Admin false true true

pub record Case : Type 0 where
  pub facts : Facts
  pub line : List ℕ
  pub outcome : Option LineRefusal

abbrev pub refused : Facts → String → LineRefusal → Case
refused c s n = record { facts = c; line = codes s; outcome = Some n }

abbrev pub accepted : Facts → String → Case
accepted c s = record { facts = c; line = codes s; outcome = None }

-- in the order of the table; where several grounds hold, the first of them
abbrev pub cases : List Case
cases =
    record { facts = off; line = replicate 1025 65; outcome = Some LongLine }
    ∷ record { facts = off; line = replicate 1024 65; outcome = Some NoCommand }
    ∷ refused off "XYZ" NoCommand
    ∷ refused off "" NoCommand
    ∷ refused off "MWI" FewFields
    ∷ refused off "MON:" WrongField
    ∷ refused off "LOOP:X" WrongField
    ∷ refused off "MRG:-1" WrongField
    ∷ refused off "MRG:7:!" WrongField
    ∷ refused off "MRG:7" NoSuch
    ∷ refused off "MRT:0:?" NoSuch
    ∷ refused off "MRT:2:?" NoSuch
    ∷ refused off "MWI:10000" NoNumber
    ∷ refused off "MWG:100:?" NoNumber
    ∷ refused off "MWG:90:0x4" WrongField
    ∷ refused off "MWG:16:lock" WrongField
    ∷ refused off "MWG:1:?" WrongField
    ∷ refused (given Panel Remote User false false true) "MOFF" PanelInRemote
    ∷ refused (given Socket Local User false false true) "MOFF" SocketInLocal
    ∷ refused off "PASSWORD:wrong" NoMatch
    ∷ refused off "PASSWORD:" NoMatch
    ∷ refused on "MWG:11:30" NotAllowed
    ∷ refused admin_off "MWG:0:MB" NotAllowed
    ∷ refused off "MRG:16" NotAllowed
    ∷ refused (given Socket Remote User true true true) "MON" TripStanding
    ∷ refused on "MON" WhileOn
    ∷ refused on "LOOP:I" WhileOn
    ∷ refused admin_on "MWG:11:30" WhileOn
    ∷ refused off "LOOP:I" SameLoop
    ∷ refused off "MWV:50" OtherLoop
    ∷ refused off "MWI:30" WhileOff
    ∷ refused on "MWI:20.000001" OutsideRating
    ∷ refused admin_off "MWG:11:20.000001" OutsideRating
    ∷ refused on "MWIR:5.000001" OutsideLimits
    ∷ refused off "MSRI:0" RateNotPositive
    ∷ refused off "MWG:15:-1" RateNotPositive
    ∷ refused (given Socket Remote User false false false) "MSAVE" Unable
    ∷ accepted on "MWI:5"
    ∷ accepted off "password:ps-admin"
    ∷ accepted admin_off "MWG:11:20"
    ∷ accepted admin_off "MRG:16"
    ∷ accepted (given Panel Local User false false true) "MON"
    ∷ accepted (given Panel Remote User false false true) "MST:?"
    ∷ []

abbrev pub tried : Case → Option LineRefusal
tried x = refusal x.facts x.line

abbrev pub wanted : Case → Option LineRefusal
wanted x = x.outcome

-- WHAT A LINE ASKS

pub record Reading : Type 0 where
  pub line : List ℕ
  pub asks : Request

abbrev pub reads : String → Request → Reading
reads s q = record { line = codes s; asks = q }

abbrev pub readings : List Reading
readings =
    reads "MON" switch_on
    ∷ reads "mOff" switch_off
    ∷ reads "MRESET" reset
    ∷ reads "MSAVE" save
    ∷ reads "LOOP:V" (choose_loop V)
    ∷ reads "LOOP:?" (ask PresentLoop)
    ∷ reads "MWI:10.5875" (setpoint I AtOnce (pos 10587500))
    ∷ reads "MWI:?" (ask (Target I AtOnce))
    ∷ reads "MWIR:-1" (setpoint I Ramp (negsuc 999999))
    ∷ reads "MWIR:?" (ask (Target I Ramp))
    ∷ reads "MWV:10.525" (setpoint V AtOnce (pos 10525000))
    ∷ reads "MWV:?" (ask (Target V AtOnce))
    ∷ reads "MWVR:2" (setpoint V Ramp (pos 2000000))
    ∷ reads "MWVR:?" (ask (Target V Ramp))
    ∷ reads "MSRI:10" (set_rate I (pos 10000000))
    ∷ reads "MSRI:?" (ask (Rate I))
    ∷ reads "MSRV:0.5" (set_rate V (pos 500000))
    ∷ reads "MSRV:?" (ask (Rate V))
    ∷ reads "MWG:011:5" (write_cell (record { index = 11; role = HighI }) (number (pos 5000000)))
    ∷ reads "MWG:90:0x3" (write_cell (record { index = 90; role = InterlockEnable }) (mask 3))
    ∷ reads "MWG:1:Dipole" (write_cell (record { index = 1; role = Identification }) (text (codes "Dipole")))
    ∷ reads "PASSWORD:ps-admin" (password (Some (codes "ps-admin")))
    ∷ reads "PASSWORD:" (password None)
    ∷ reads "PASSWORD:?" (ask Level)
    ∷ reads "MST:?" (ask Status)
    ∷ reads "MRI:?" (ask Current)
    ∷ reads "MRV:?" (ask Voltage)
    ∷ reads "VER:?" (ask Version)
    ∷ reads "MRID" (ask Named)
    ∷ reads "MRID:?" (ask Named)
    ∷ reads "MRG:100" (ask (OfCell (record { index = 100; role = Operator })))
    ∷ reads "MRG:100:?" (ask (OfCell (record { index = 100; role = Operator })))
    ∷ reads "MRT:?" (ask Hottest)
    ∷ reads "MRT:num:?" (ask SensorCount)
    ∷ reads "MRT:1:?" (ask (Sensor 1))
    ∷ []

abbrev pub read : Reading → Option Request
read x = asked (parsed x.line)

abbrev pub meant : Reading → Option Request
meant x = Some x.asks

-- every example comes out as it says
pub record Examples : Type 0 where
  pub refusals : map tried cases ≡ map wanted cases
  pub requests : map read readings ≡ map meant readings
