-- The texts of replies. Assumes nothing.
use Rattle.std.specs.Prelude.{ℕ, List, [], ◌∷◌, ◌++◌, ℤ, codes}
use Rattle.cells.specs.Values.{Value, absent, number, mask, text}
use Rattle.grammar.specs.Masks.{printed_mask}
use Rattle.grammar.specs.Numbers.{printed}
use Rattle.grammar.specs.Numerals.{numeral}
use Rattle.grammar.specs.Texts.{bytes_of}
use Rattle.power.specs.declared.loops.Loop.{Loop}
use Rattle.power.specs.Loops.{loop_text}
use Rattle.request.specs.Asking.{asking}
use Rattle.request.specs.Commands.{name_of}
use Rattle.request.specs.Refusals.{line_number, two_digits}
use Rattle.request.specs.declared.circumstances.Access.{Access}
use Rattle.request.specs.declared.circumstances.Access.TheVariants.{User, Admin}
use Rattle.request.specs.declared.refusals.LineRefusal.{LineRefusal}
use Rattle.request.specs.declared.requests.Question.{Question}
use Rattle.request.specs.declared.requests.Question.TheVariants.{Status, PresentLoop, Target, Rate, Current, Voltage, Version, Identification, Access as Level, Cell as OfCell, Hottest, SensorCount, Sensor}
use Rattle.replies.specs.declared.answers.Answer.{Answer}
use Rattle.replies.specs.declared.answers.Answer.TheVariants.{Number, Mask, Text, Count, Version as Model, Loop as InLoop, Access as OfSeat}
use Rattle.replies.specs.declared.reply.Reply.{Reply}

-- the bytes that a reply holds
abbrev pub text_of : Reply → List ℕ
text_of r = bytes_of r.0

-- every reply ends in CR LF
abbrev pub ended : List ℕ → List ℕ
ended body = body ++ 13 ∷ 10 ∷ []

-- a write that is accepted
abbrev pub ack_text : List ℕ
ack_text = ended (codes "#AK")

-- a line that is refused: the number of the ground in two digits
abbrev pub nak_text : LineRefusal → List ℕ
nak_text n = ended (codes "#NAK:" ++ two_digits (line_number n))

-- THE ECHO: the command that asks, in upper case, and what it asks for, without the question mark

-- an index is echoed without leading zeros
abbrev pub tail_of : Question → List ℕ
tail_of Status = []
tail_of PresentLoop = []
tail_of (Target l a) = []
tail_of (Rate l) = []
tail_of Current = []
tail_of Voltage = []
tail_of Version = []
tail_of Identification = []
tail_of Level = []
tail_of (OfCell c) = 58 ∷ numeral 10 c.index
tail_of Hottest = []
tail_of SensorCount = codes ":NUM"
tail_of (Sensor n) = 58 ∷ numeral 10 n

abbrev pub echo_of : Question → List ℕ
echo_of q = name_of (asking q) ++ tail_of q

-- THE VALUE

-- what is told, in plain values
pub data Told : Type 0 where
  a_number : ℤ → Told
  a_mask : ℕ → Told
  a_text : List ℕ → Told
  a_count : ℕ → Told
  a_version : List ℕ → Told
  a_loop : Loop → Told
  an_access : Access → Told

abbrev pub told_of : Answer → Told
told_of (Number q) = a_number q.millionths
told_of (Mask m) = a_mask m
told_of (Text t) = a_text (bytes_of t)
told_of (Count n) = a_count n
told_of (Model t) = a_version (bytes_of t)
told_of (InLoop l) = a_loop l
told_of (OfSeat a) = an_access a

-- a cell's value; there always is one
abbrev pub cell_told : Value → Told
cell_told absent = a_text []
cell_told (number v) = a_number v
cell_told (mask m) = a_mask m
cell_told (text bs) = a_text bs

abbrev pub access_text : Access → List ℕ
access_text User = codes "USER"
access_text Admin = codes "ADMIN"

-- numbers and masks in their printed form, texts as they were typed; the command language has version 1.0
abbrev pub told_text : Told → List ℕ
told_text (a_number v) = printed v
told_text (a_mask m) = printed_mask m
told_text (a_text bs) = bs
told_text (a_count n) = numeral 10 n
told_text (a_version bs) = bs ++ codes ":1.0"
told_text (a_loop l) = loop_text l
told_text (an_access a) = access_text a

-- a question that is answered
abbrev pub answer_text : Question → Told → List ℕ
answer_text q t = ended (35 ∷ (echo_of q ++ (58 ∷ told_text t)))
