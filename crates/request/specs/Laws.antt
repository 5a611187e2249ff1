-- THE LAW OF THE ORDER: a line is refused on the first ground of the table that holds. Assumes nothing.
use Rattle.std.specs.Prelude.{◌≡◌, ℕ, true, false, List, [], ◌∷◌, ◌++◌, Some, None}
use Rattle.request.specs.Facts.{Facts}
use Rattle.request.specs.Grounds.{Ground, of_line, of_request, grounds, holds, refusal_of, refusal}
use Rattle.request.specs.Lines.{Line, parsed, asked}
use Rattle.request.specs.Requests.{Request}
use Rattle.request.specs.declared.refusals.LineRefusal.{LineRefusal}

-- none of these grounds holds
abbrev pub NoneHolds : Facts → Line → List Ground → Type 0
NoneHolds c l [] = Unit {0}
NoneHolds c l (g ∷ gs) = (holds c l g ≡ false) × NoneHolds c l gs

-- none of these that are grounds of the line holds
abbrev pub NoLineGround : Facts → Line → List Ground → Type 0
NoLineGround c l [] = Unit {0}
NoLineGround c l (of_line n test ∷ gs) = (test c.sensors l ≡ false) × NoLineGround c l gs
NoLineGround c l (of_request n test ∷ gs) = NoLineGround c l gs

-- n is the refusal of a ground among these that holds, and none before it does
pub record First (c : Facts) (l : Line) (gs : List Ground) (n : LineRefusal) : Type 0 where
  pub before : List Ground
  pub row : Ground
  pub behind : List Ground
  pub table : gs ≡ before ++ (row ∷ behind)
  pub refused : refusal_of row ≡ n
  pub stands : holds c l row ≡ true
  pub free : NoneHolds c l before

-- a line is refused exactly so, and accepted exactly where no ground holds;
-- where no ground of the line holds it asks something, and only one thing
pub record InOrder (c : Facts) (bytes : List ℕ) : Type 0 where
  pub refused : (n : LineRefusal) → refusal c bytes ≡ Some n → First c (parsed bytes) grounds n
  pub stopped : (n : LineRefusal) → First c (parsed bytes) grounds n → refusal c bytes ≡ Some n
  pub accepted : refusal c bytes ≡ None → NoneHolds c (parsed bytes) grounds
  pub passed : NoneHolds c (parsed bytes) grounds → refusal c bytes ≡ None
  pub asks : NoLineGround c (parsed bytes) grounds → (q : Request) × (asked (parsed bytes) ≡ Some q)
  pub one : (p q : Request) → asked (parsed bytes) ≡ Some p → asked (parsed bytes) ≡ Some q → p ≡ q
