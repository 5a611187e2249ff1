use Rattle.std.proofs.Common.{ℕ, List, ◌++◌, ap, ◌∙◌}
use Rattle.grammar.specs.Numbers.{pointed}
use Rattle.grammar.specs.Texts.{bytes_of}
use Rattle.grammar.proofs.Shown.{trim_start}
use Rattle.grammar.proofs.numbers.print.push_shown.Goals as goal

pub returns : goal.returns
returns c = record { bytes = c.push_trimmed.ensures.bytes ∙ ap (λ (ds : List ℕ). bytes_of c.args.text.now ++ pointed ds) (trim_start c.args.n) }
