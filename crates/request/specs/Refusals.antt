-- The numbers of the refusals. Assumes nothing.
use Rattle.std.specs.Prelude.{ℕ, ◌+◌, ◌/◌, ◌%◌, List, [], ◌∷◌}
use Rattle.request.specs.declared.refusals.CallRefusal.{CallRefusal}
use Rattle.request.specs.declared.refusals.CallRefusal.TheVariants.{LongDatagram, NoSuchSeat, ShortOutput}
use Rattle.request.specs.declared.refusals.LineRefusal.{LineRefusal}
use Rattle.request.specs.declared.refusals.LineRefusal.TheVariants.{LongLine, NoCommand, FewFields, WrongField, NoSuch, NoNumber, PanelInRemote, SocketInLocal, NoMatch, NotAllowed, TripStanding, WhileOn, SameLoop, OtherLoop, WhileOff, OutsideRating, OutsideLimits, RateNotPositive, Unable}

abbrev pub line_number : LineRefusal → ℕ
line_number LongLine = 99
line_number NoCommand = 1
line_number FewFields = 4
line_number WrongField = 2
line_number NoSuch = 3
line_number NoNumber = 12
line_number PanelInRemote = 18
line_number SocketInLocal = 15
line_number NoMatch = 7
line_number NotAllowed = 5
line_number TripStanding = 8
line_number WhileOn = 9
line_number SameLoop = 19
line_number OtherLoop = 20
line_number WhileOff = 13
line_number OutsideRating = 10
line_number OutsideLimits = 11
line_number RateNotPositive = 14
line_number Unable = 6

abbrev pub call_number : CallRefusal → ℕ
call_number LongDatagram = 201
call_number NoSuchSeat = 202
call_number ShortOutput = 203

-- a number below 100 as two decimal digits
abbrev pub two_digits : ℕ → List ℕ
two_digits n = (48 + n / 10) ∷ (48 + n % 10) ∷ []
