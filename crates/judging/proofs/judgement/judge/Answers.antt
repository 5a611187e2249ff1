use Rattle.std.proofs.Common.{ℕ, List, Some, None, Ok, Err, Option, Result, ◌≡◌, ◌∙◌, arith}
use Rattle.std.proofs.lemmas.Result.{err_from_is_err_and}
use Rattle.request.specs.Facts.{Facts, facts_of}
use Rattle.request.specs.Grounds.{Reads, line_refusal}
use Rattle.request.specs.Laws.{InOrder}
use Rattle.request.specs.Lines.{parsed, asked}
use Rattle.request.specs.Requests.{request_of}
use Rattle.request.specs.declared.refusals.LineRefusal.{LineRefusal}
use Rattle.request.specs.declared.requests.Request.{Request}
use Rattle.request.proofs.Law.{in_order}
use Rattle.request.proofs.Order.{by-line, by-request}
use Rattle.judging.proofs.judgement.judge.Goals as goal

pub never_both : {X : Type 0} (o : Option LineRefusal) (n : LineRefusal) → o ≡ None → o ≡ Some n → X
never_both o n e d = absurd (grind arith)

-- the order of the grounds, given what was read of the line
order : (c : Facts) (bytes : List ℕ) (r : Result Request LineRefusal) → Reads request_of (line_refusal c.sensors (parsed bytes)) (asked (parsed bytes)) r → InOrder c bytes
order c bytes (Ok q) h = in_order c bytes (λ e. (request_of q, h.1))
order c bytes (Err n) h = in_order c bytes (λ e. never_both _ n e h)

pub returns-in_err-request : goal.returns-in_err-request
returns-in_err-request c =
    let facts : Facts = facts_of c.args.c.now in
    let p = err_from_is_err_and c.from_residual.result c.from_residual.ensures.1 in
    record { cases = rw (p.1, p.2) (by-line facts c.args.line.now _ c.in_err-request.ensures.cases); order = order facts c.args.line.now _ c.read_line.ensures.cases }

pub returns-in_err-decide : goal.returns-in_err-decide
returns-in_err-decide c =
    let facts : Facts = facts_of c.args.c.now in
    let h = c.in_ok-request.ensures.cases in
    let p = err_from_is_err_and c.from_residual-in_err-decide.result c.from_residual-in_err-decide.ensures.1 in
    record { cases = rw (p.1, p.2) (by-request facts c.args.line.now _ h.0 h.1 ∙ c.in_err-decide.ensures.cases); order = order facts c.args.line.now _ c.read_line.ensures.cases }

pub returns : goal.returns
returns c =
    let facts : Facts = facts_of c.args.c.now in
    let h = c.in_ok-request.ensures.cases in
    record { cases = (by-request facts c.args.line.now _ h.0 h.1 ∙ c.in_ok-decide.ensures.cases, h.1); order = order facts c.args.line.now _ c.read_line.ensures.cases }
