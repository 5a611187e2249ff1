use Rattle.std.proofs.cmp.Tests.{cases_from_iff}
use Rattle.std.proofs.Common.{Decides, arith}
use Rattle.std.proofs.lemmas.Bool.Decides.{same_from_decides}
use Rattle.grammar.specs.Words.{SameWord}
use Rattle.grammar.proofs.Alike.{same-decides}
use Rattle.grammar.proofs.words.same_word.Goals as goal

pub returns : goal.returns
returns c =
    let h = (cases_from_iff c.eq_ignore_ascii_case.ensures.test) in
    let d : Decides c.eq_ignore_ascii_case.result (SameWord c.args.a.now c.args.b.now) = (λ e. grind arith, λ e. grind arith) in
    record { value = same_from_decides _ _ d (same-decides c.args.a.now c.args.b.now); exact = d }
