-- THE TABLE OF REFUSALS: on which ground a line is refused. Assumes nothing.
use Rattle.std.specs.Prelude.{◌≡◌, ℕ, Bool, true, false, cond, not, ◌&&◌, ◌||◌, ltb, List, [], ◌∷◌, drop, ℤ, pos, is_some, Some, None, Ok, Err, codes, Option, Result, int_lt, nat_lt}
use Rattle.request.specs.Bounds.{lawful_limit}
use Rattle.cells.specs.Roles.{writer_of}
use Rattle.cells.specs.declared.roles.Role.{Role}
use Rattle.cells.specs.declared.roles.Writer.{Writer}
use Rattle.cells.specs.declared.roles.Writer.TheVariants.{Nobody, Admin, User}
use Rattle.grammar.specs.Words.{same_word}
use Rattle.grammar.specs.declared.fields.Fields.{Fields}
use Rattle.request.specs.declared.commands.Command.{Command}
use Rattle.request.specs.declared.refusals.LineRefusal.{LineRefusal}
use Rattle.request.specs.declared.refusals.LineRefusal.TheVariants.{LongLine, NoCommand, FewFields, WrongField, NoSuch, NoNumber, PanelInRemote, SocketInLocal, NoMatch, NotAllowed, TripStanding, WhileOn, SameLoop, OtherLoop, WhileOff, OutsideRating, OutsideLimits, RateNotPositive, Unable}
use Rattle.request.specs.Facts.{Facts, is_panel, is_local, is_admin, same_loop, within}
use Rattle.request.specs.Forms.{Form, form, number_or_query, that, misworded, names_none, bad_number, bad_mask_or_text, no_number_in, malformed}
use Rattle.request.specs.declared.requests.Question.{Question}
use Rattle.request.specs.declared.requests.Request.{Request as Coded}
use Rattle.request.specs.Lines.{Line, parsed, asked, number_asked, requested}
use Rattle.request.specs.Requests.{Request, request_of, is_write, is_switch_on, is_save, loop_chosen, setpoint_of, cell_written, word_given, cell_read, rate_given, is_limit, is_password}

-- GROUNDS OF A LINE

-- a test of the form of a line's command, if it has one
abbrev pub of_form : Option Command → (Form → Bool) → Bool
of_form None test = false
of_form (Some c) test = test (form c)

abbrev pub too_long : Line → Bool
too_long l = nat_lt 1024 l.size

abbrev pub no_command : Line → Bool
no_command l = not (is_some l.command)

abbrev pub too_few : Line → Bool
too_few l = of_form l.command (λ m. ltb l.count m.fewest)

abbrev pub too_many : Line → Bool
too_many l = of_form l.command (λ m. ltb m.most l.count)

abbrev pub wrong_word : Line → Bool
wrong_word l = of_form l.command (λ m. misworded m.third l.count l.third || misworded m.second l.count l.second)

-- for a module of so many sensors
abbrev pub no_such : ℕ → Line → Bool
no_such sensors l = of_form l.command (λ m. names_none m.second sensors l.count l.second)

abbrev pub no_number : Line → Bool
no_number l = of_form l.command (λ m. no_number_in m.third l.second l.third || no_number_in m.second [] l.second)

abbrev pub bad_value : Line → Bool
bad_value l = of_form l.command (λ m. malformed m.third l.second l.third)

-- GROUNDS OF A REQUEST

-- a word matches LOCK, USER or the password, in any letter case; what is no text matches nothing
abbrev pub matched : Option (List ℕ) → List ℕ → Bool
matched None key = false
matched (Some w) key = same_word w (codes "LOCK") || (same_word w (codes "USER") || same_word w key)

-- who may write a cell
abbrev pub may_write : Writer → Bool → Bool
may_write Nobody admin = false
may_write Admin admin = admin
may_write User admin = true

abbrev pub panel_in_remote : Facts → Request → Bool
panel_in_remote c q = is_write q && (is_panel c.origin && not (is_local c.control))

abbrev pub socket_in_local : Facts → Request → Bool
socket_in_local c q = is_write q && (not (is_panel c.origin) && is_local c.control)

abbrev pub no_match : Facts → Request → Bool
no_match c q = that (word_given q) (λ w. not (matched w c.password))

-- the seat may not write the cell, or a USER reads the password
abbrev pub not_allowed : Facts → Request → Bool
not_allowed c q =
    that (cell_written q) (λ p. not (may_write (writer_of p.0) (is_admin c.access)))
    || that (cell_read q) (λ role. is_password role && not (is_admin c.access))

abbrev pub trip_standing : Facts → Request → Bool
trip_standing c q = is_switch_on q && c.tripped

-- switching on, choosing a loop, or writing a software limit
abbrev pub only_off : Request → Bool
only_off q = is_switch_on q || (is_some (loop_chosen q) || that (cell_written q) (λ p. is_limit p.0))

abbrev pub while_on : Facts → Request → Bool
while_on c q = only_off q && c.on

abbrev pub in_same_loop : Facts → Request → Bool
in_same_loop c q = that (loop_chosen q) (λ l. same_loop l c.loop)

abbrev pub in_other_loop : Facts → Request → Bool
in_other_loop c q = that (setpoint_of q) (λ p. not (same_loop p.0 c.loop))

abbrev pub while_off : Facts → Request → Bool
while_off c q = is_some (setpoint_of q) && not c.on

-- a setpoint outside the rated span, or a software limit that is not lawful
abbrev pub outside_rating : Facts → Request → Bool
outside_rating c q =
    that (setpoint_of q) (λ p. not (within c.rated p.0 p.1))
    || that (cell_written q) (λ p. is_limit p.0 && not (lawful_limit c.rated p.0 p.1))

abbrev pub outside_limits : Facts → Request → Bool
outside_limits c q = that (setpoint_of q) (λ p. not (within c.limits p.0 p.1))

abbrev pub rate_not_positive : Facts → Request → Bool
rate_not_positive c q = that (rate_given q) (λ v. not (int_lt (pos 0) v))

abbrev pub unable : Facts → Request → Bool
unable c q = is_save q && not c.able

-- THE TABLE

-- a ground of the line alone, for a module of so many sensors, or one of what it asks
pub data Ground : Type 0 where
  of_line : LineRefusal → (ℕ → Line → Bool) → Ground
  of_request : LineRefusal → (Facts → Request → Bool) → Ground

abbrev pub grounds : List Ground
grounds =
    of_line LongLine (λ n l. too_long l)
    ∷ of_line NoCommand (λ n l. no_command l)
    ∷ of_line FewFields (λ n l. too_few l)
    ∷ of_line WrongField (λ n l. too_many l)
    ∷ of_line WrongField (λ n l. wrong_word l)
    ∷ of_line NoSuch no_such
    ∷ of_line NoNumber (λ n l. no_number l)
    ∷ of_line WrongField (λ n l. bad_value l)
    ∷ of_request PanelInRemote panel_in_remote
    ∷ of_request SocketInLocal socket_in_local
    ∷ of_request NoMatch no_match
    ∷ of_request NotAllowed not_allowed
    ∷ of_request TripStanding trip_standing
    ∷ of_request WhileOn while_on
    ∷ of_request SameLoop in_same_loop
    ∷ of_request OtherLoop in_other_loop
    ∷ of_request WhileOff while_off
    ∷ of_request OutsideRating outside_rating
    ∷ of_request OutsideLimits outside_limits
    ∷ of_request RateNotPositive rate_not_positive
    ∷ of_request Unable unable
    ∷ []

-- THE FIRST THAT HOLDS

abbrev pub holds : Facts → Line → Ground → Bool
holds c l (of_line n test) = test c.sensors l
holds c l (of_request n test) = that (asked l) (λ q. test c q)

abbrev pub refusal_of : Ground → LineRefusal
refusal_of (of_line n test) = n
refusal_of (of_request n test) = n

abbrev pub first_of : Facts → Line → List Ground → Option LineRefusal
first_of c l [] = None
first_of c l (g ∷ gs) = cond (holds c l g) (Some (refusal_of g)) (first_of c l gs)

-- the ground on which a line is refused; none where it is accepted
unfoldable pub refusal : Facts → List ℕ → Option LineRefusal
refusal c bytes = first_of c (parsed bytes) grounds

-- THE SAME IN TWO STEPS: the grounds of the line, and then those of what it asks

abbrev pub first_of_line : List Ground → ℕ → Line → Option LineRefusal
first_of_line [] sensors l = None
first_of_line (of_line n test ∷ gs) sensors l = cond (test sensors l) (Some n) (first_of_line gs sensors l)
first_of_line (of_request n test ∷ gs) sensors l = first_of_line gs sensors l

abbrev pub first_of_request : List Ground → Facts → Request → Option LineRefusal
first_of_request [] c q = None
first_of_request (of_line n test ∷ gs) c q = first_of_request gs c q
first_of_request (of_request n test ∷ gs) c q = cond (test c q) (Some n) (first_of_request gs c q)

abbrev pub line_refusal : ℕ → Line → Option LineRefusal
line_refusal sensors l = first_of_line grounds sensors l

abbrev pub request_refusal : Facts → Request → Option LineRefusal
request_refusal c q = first_of_request grounds c q

-- the grounds on the second and third field, those past the first four of the table
abbrev pub field_refusal : ℕ → Command → ℕ → List ℕ → List ℕ → Option LineRefusal
field_refusal sensors c n f g = first_of_line (drop 4 grounds) sensors (record { size = 0; command = Some c; count = n; second = f; third = g })

-- the grounds on a value for a cell of this role
abbrev pub value_refusal : Role → List ℕ → Option LineRefusal
value_refusal role f = cond (bad_number role f) (Some NoNumber) (cond (bad_mask_or_text role f) (Some WrongField) None)

-- the grounds past those of control, which are the first ten of the table
abbrev pub further_refusal : Facts → Request → Option LineRefusal
further_refusal c q = first_of_request (drop 10 grounds) c q

-- WHAT A CALL ANSWERS

-- the value as f reads it, or the ground against it
abbrev pub Reads : {X Y : Type 0} → (X → Y) → Option LineRefusal → Option Y → Result X LineRefusal → Type 0
Reads f against wanted (Ok x) = (against ≡ None) × (wanted ≡ Some (f x))
Reads f against wanted (Err n) = against ≡ Some n

abbrev pub Admits : Option LineRefusal → Result (Unit {0}) LineRefusal → Type 0
Admits against (Ok u) = against ≡ None
Admits against (Err n) = against ≡ Some n

abbrev pub on_ground : Bool → LineRefusal → Option LineRefusal
on_ground b n = cond b (Some n) None

-- what a command with these fields asks of a module with so many sensors, or the first ground on them
abbrev pub ReadsFields : ℕ → Command → Fields → Result Coded LineRefusal → Type 0
ReadsFields sensors c f r = Reads request_of (field_refusal sensors c f.count f.second.now f.third.now) (requested c f.count f.second.now f.third.now) r

-- what a field asks that may be a number to set or the question mark, or the ground against it
abbrev pub ReadsNumber : Question → (ℤ → Request) → List ℕ → Result Coded LineRefusal → Type 0
ReadsNumber q set f r = Reads request_of (on_ground (no_number_in number_or_query [] f) NoNumber) (number_asked q set f) r
