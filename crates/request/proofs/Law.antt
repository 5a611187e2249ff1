-- The law of the order of the grounds. Assumes nothing.
use Rattle.std.proofs.Common.{◌≡◌, ℕ, Bool, true, false, cond, List, [], ◌∷◌, ◌++◌, Some, None, refl, ap, ◌∙◌, arith}
use Rattle.std.proofs.lemmas.Bool.{cond-true, cond-false}
use Rattle.request.specs.Facts.{Facts}
use Rattle.request.specs.Grounds.{Ground, of_line, of_request, grounds, holds, refusal_of, first_of, first_of_line, refusal, line_refusal}
use Rattle.request.specs.Laws.{NoneHolds, NoLineGround, First, InOrder}
use Rattle.request.specs.Lines.{Line, parsed, asked}
use Rattle.request.specs.Requests.{Request}
use Rattle.request.specs.declared.refusals.LineRefusal.{LineRefusal}

module _ (c : Facts) (l : Line) where
  at_first : (b : Bool) (g : Ground) (gs : List Ground) (n : LineRefusal) → holds c l g ≡ b → cond b (Some (refusal_of g)) (first_of c l gs) ≡ Some n → (first_of c l gs ≡ Some n → First c l gs n) → First c l (g ∷ gs) n
  at_first true g gs n e d k = record { before = []; row = g; behind = gs; table = refl; refused = grind arith; stands = e; free = tt }
  at_first false g gs n e d k =
      let r : First c l gs n = k d in
      record { before = g ∷ r.before; row = r.row; behind = r.behind; table = ap (λ (t : List Ground). g ∷ t) r.table; refused = r.refused; stands = r.stands; free = (e, r.free) }

  is-first : (gs : List Ground) (n : LineRefusal) → first_of c l gs ≡ Some n → First c l gs n
  is-first [] n e = absurd (grind arith)
  is-first (g ∷ gs) n e = at_first (holds c l g) g gs n refl e (λ d. is-first gs n d)

  at_none : (b : Bool) (g : Ground) (gs : List Ground) → holds c l g ≡ b → cond b (Some (refusal_of g)) (first_of c l gs) ≡ None → (first_of c l gs ≡ None → NoneHolds c l gs) → (holds c l g ≡ false) × NoneHolds c l gs
  at_none true g gs e d k = absurd (grind arith)
  at_none false g gs e d k = (e, k d)

  is_none : (gs : List Ground) → first_of c l gs ≡ None → NoneHolds c l gs
  is_none [] e = tt
  is_none (g ∷ gs) e = at_none (holds c l g) g gs refl e (λ d. is_none gs d)

  -- and the other way round
  none-stops : (gs : List Ground) → NoneHolds c l gs → first_of c l gs ≡ None
  none-stops [] h = refl
  none-stops (g ∷ gs) h = cond-false _ _ _ h.0 ∙ none-stops gs h.1

  past : (before gs : List Ground) → NoneHolds c l before → first_of c l (before ++ gs) ≡ first_of c l gs
  past [] gs h = refl
  past (g ∷ before) gs h = cond-false _ _ _ h.0 ∙ past before gs h.1

  first_stops : (gs : List Ground) (n : LineRefusal) → First c l gs n → first_of c l gs ≡ Some n
  first_stops gs n f =
      ap (first_of c l) f.table ∙ past f.before (f.row ∷ f.behind) f.free ∙ cond-true _ _ _ f.stands ∙ ap Some f.refused

  no_line : (gs : List Ground) → NoLineGround c l gs → first_of_line gs c.sensors l ≡ None
  no_line [] h = refl
  no_line (of_line n test ∷ gs) h = cond-false _ _ _ h.0 ∙ no_line gs h.1
  no_line (of_request n test ∷ gs) h = no_line gs h

-- given that a line against which no ground of the line stands asks something
pub in_order : (c : Facts) (bytes : List ℕ) → (line_refusal c.sensors (parsed bytes) ≡ None → (q : Request) × (asked (parsed bytes) ≡ Some q)) → InOrder c bytes
unfolding refusal
in_order c bytes asks = record {
  refused = λ n e. is-first c (parsed bytes) grounds n e;
  stopped = λ n f. first_stops c (parsed bytes) grounds n f;
  accepted = λ e. is_none c (parsed bytes) grounds e;
  passed = λ h. none-stops c (parsed bytes) grounds h;
  asks = λ h. asks (no_line c (parsed bytes) grounds h);
  one = λ p q d e. cc;
}
