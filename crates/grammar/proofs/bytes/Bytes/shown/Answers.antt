use Rattle.std.proofs.Common.{refl, ap, ◌∙◌}
use Rattle.grammar.specs.Texts.{shown_bytes}
use Rattle.grammar.proofs.Screen.{shown-or}
use Rattle.grammar.proofs.bytes.Bytes.shown.Goals as goal

pub returns : goal.returns
returns g c = record { value = ap (λ s. s.now) c.unwrap_or.ensures ∙ shown-or (λ s. s.now) _ _ _ _ c.from_utf8.ensures.cases refl ∙ ap shown_bytes c.as_bytes.ensures.value }
