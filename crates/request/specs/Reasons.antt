-- The words in which a refusal is told to people. Assumes nothing.
use Rattle.std.specs.Prelude.{ℕ, List, codes}
use Rattle.request.specs.declared.refusals.LineRefusal.{LineRefusal}
use Rattle.request.specs.declared.refusals.LineRefusal.TheVariants.{LongLine, NoCommand, FewFields, WrongField, NoSuch, NoNumber, PanelInRemote, SocketInLocal, NoMatch, NotAllowed, TripStanding, WhileOn, SameLoop, OtherLoop, WhileOff, OutsideRating, OutsideLimits, RateNotPositive, Unable}

abbrev pub reason_text : LineRefusal → List ℕ
reason_text LongLine = codes "the line has more than 1,024 bytes"
reason_text NoCommand = codes "the first field is no command"
reason_text FewFields = codes "a field is missing"
reason_text WrongField = codes "a field is not what the command wants there, or one too many"
reason_text NoSuch = codes "there is no such cell or sensor"
reason_text NoNumber = codes "a number is wanted there"
reason_text PanelInRemote = codes "the panel does not write in REMOTE"
reason_text SocketInLocal = codes "only the panel writes in LOCAL"
reason_text NoMatch = codes "the password matches nothing"
reason_text NotAllowed = codes "the seat may not do that with this cell"
reason_text TripStanding = codes "a trip stands"
reason_text WhileOn = codes "not while on"
reason_text SameLoop = codes "that is the present loop"
reason_text OtherLoop = codes "the other loop is chosen"
reason_text WhileOff = codes "not while off"
reason_text OutsideRating = codes "outside the ratings"
reason_text OutsideLimits = codes "outside the software limits"
reason_text RateNotPositive = codes "a rate has to be above 0"
reason_text Unable = codes "the store is not able to save"
