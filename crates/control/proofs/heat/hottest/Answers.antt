use Rattle.std.proofs.Common.{◌≡◌, Option, map, List, ap, ◌∙◌}
use Rattle.std.proofs.lemmas.Iterator.{YieldsList-from_slice}
use Rattle.std.proofs.lemmas.Iterator.Consumers.{YieldsList-from_copied, reduce_from_yields_List}
use Rattle.std.specs.Option.{unwrap_or}
use Rattle.grammar.specs.Numbers.{millionths_of}
use Rattle.grammar.specs.declared.quantity.Quantity.{Quantity}
use Rattle.control.specs.Heat.{hottest_of}
use Rattle.control.proofs.Maxima.{value-of_greatest, is-hottest}
use Rattle.control.proofs.heat.hottest.Goals as goal

pub returns : goal.returns
returns c =
    let qs : List Quantity = c.args.temperatures.now in
    let none : Quantity = c.clamped-none.result in
    let items = YieldsList-from_copied {s = c.copied.result} (YieldsList-from_slice qs cc) in
    let greatest = reduce_from_yields_List _ c.copied.result c.max.result c.max.ensures.ran items in
    let value : c.unwrap_or.result.millionths ≡ hottest_of (map millionths_of qs) =
    ap millionths_of (c.unwrap_or.ensures ∙ ap (λ (q : Option Quantity). unwrap_or q none) greatest) ∙ value-of_greatest qs none c.clamped-none.ensures.value in
    record { value = value; law = is-hottest (map millionths_of qs) c.unwrap_or.result.millionths value }
