use Rattle.std.proofs.Common.{ap, ◌∙◌}
use Rattle.cells.specs.Contents.{number_in}
use Rattle.cells.proofs.Access.{number_back}
use Rattle.cells.proofs.reading.exchange_number.Goals as goal

pub returns-clause-value : goal.returns-clause-value
returns-clause-value g c =
    c.number.ensures.value ∙ ap number_in c.in_ok-get.ensures.value ∙ number_back c.args.cell c.args.value _ _ c.ranges.value c.set.ensures.after (g.met.S.CellStore.whole c.args.store.now).working
