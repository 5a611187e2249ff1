use Rattle.std.proofs.Common.{ap, ◌∙◌}
use Rattle.std.proofs.Output.{has_written_of_eq}
use Rattle.grammar.specs.Texts.{shown_bytes}
use Rattle.grammar.specs.Numbers.{printed_parts}
use Rattle.grammar.proofs.Screen.{shown-spelled}
use Rattle.grammar.proofs.quantity.display.QuantityDisplay.fmt.Goals as goal

pub returns-clause-writes : goal.returns-clause-writes
returns-clause-writes g c = λ plain ok.
    has_written_of_eq _ _ _ _ _ (ap shown_bytes c.print_number.ensures.value ∙ shown-spelled (printed_parts c.args.self.now.millionths) c.print_number.ensures.canonical.lawful) (c.fmt.ensures.writes plain ok)
