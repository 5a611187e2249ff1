-- The first ground that holds, as the code comes to it. Assumes nothing.
use Rattle.std.proofs.Common.{◌≡◌, ℕ, Bool, true, false, cond, List, [], ◌∷◌, Some, None, Option, refl, ap, ◌∙◌, arith}
use Rattle.request.specs.Facts.{Facts}
use Rattle.request.specs.Forms.{that}
use Rattle.request.specs.Grounds.{Ground, of_line, of_request, grounds, first_of, first_of_line, first_of_request, refusal, line_refusal, request_refusal}
use Rattle.request.specs.Lines.{Line, parsed, asked}
use Rattle.request.specs.Requests.{Request}
use Rattle.request.specs.declared.refusals.LineRefusal.{LineRefusal}

-- where no ground of the line holds, it is refused as its request is
passed-by : (b : Bool) (n : LineRefusal) (x y z : Option LineRefusal) → cond b (Some n) x ≡ None → (x ≡ None → y ≡ z) → cond b (Some n) y ≡ z
passed-by true n x y z e k = absurd (grind arith)
passed-by false n x y z e k = k e

decides : (gs : List Ground) (c : Facts) (l : Line) (q : Request) → asked l ≡ Some q → first_of_line gs c.sensors l ≡ None → first_of c l gs ≡ first_of_request gs c q
decides [] c l q a e = refl
decides (of_line n test ∷ gs) c l q a e = passed-by (test c.sensors l) n _ _ _ e (λ e'. decides gs c l q a e')
decides (of_request n test ∷ gs) c l q a e =
    ap (λ (o : Option Request). cond (that o (λ p. test c p)) (Some n) (first_of c l gs)) a
    ∙ ap (λ (r : Option LineRefusal). cond (test c q) (Some n) r) (decides gs c l q a e)

-- the grounds of a line stand before those of a request
abbrev only_requests : List Ground → Bool
only_requests [] = true
only_requests (of_line n test ∷ gs) = false
only_requests (of_request n test ∷ gs) = only_requests gs

abbrev lines_first : List Ground → Bool
lines_first [] = true
lines_first (of_line n test ∷ gs) = lines_first gs
lines_first (of_request n test ∷ gs) = only_requests gs

no_more : (gs : List Ground) (sensors : ℕ) (l : Line) → only_requests gs ≡ true → first_of_line gs sensors l ≡ None
no_more [] sensors l o = refl
no_more (of_line n test ∷ gs) sensors l o = absurd (grind arith)
no_more (of_request n test ∷ gs) sensors l o = no_more gs sensors l o

stopped_by : (b : Bool) (m n : LineRefusal) (x y : Option LineRefusal) → cond b (Some m) x ≡ Some n → (x ≡ Some n → y ≡ Some n) → cond b (Some m) y ≡ Some n
stopped_by true m n x y e k = e
stopped_by false m n x y e k = k e

stops : (gs : List Ground) (c : Facts) (l : Line) (n : LineRefusal) → lines_first gs ≡ true → first_of_line gs c.sensors l ≡ Some n → first_of c l gs ≡ Some n
stops [] c l n o e = e
stops (of_line m test ∷ gs) c l n o e = stopped_by (test c.sensors l) m n _ _ e (λ e'. stops gs c l n o e')
stops (of_request m test ∷ gs) c l n o e = let z = no_more gs c.sensors l o in absurd (grind arith)

pub by-line : (c : Facts) (bytes : List ℕ) (n : LineRefusal) → line_refusal c.sensors (parsed bytes) ≡ Some n → refusal c bytes ≡ Some n
unfolding refusal
by-line c bytes n e = stops grounds c (parsed bytes) n refl e

pub by-request : (c : Facts) (bytes : List ℕ) (q : Request) → line_refusal c.sensors (parsed bytes) ≡ None → asked (parsed bytes) ≡ Some q → refusal c bytes ≡ request_refusal c q
unfolding refusal
by-request c bytes q e a = decides grounds c (parsed bytes) q a e
