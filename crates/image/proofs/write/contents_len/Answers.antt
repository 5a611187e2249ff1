use Rattle.std.proofs.Common.{◌∙◌, arith, rules}
use Rattle.std.proofs.lemmas.Iterator.{YieldsList-from_map, YieldsList-from_slice}
use Rattle.std.proofs.lemmas.Iterator.Consumers.{YieldsList-at, sum_by_from_yields_List, fits_by_from_yields_list}
use Rattle.image.proofs.Writing.{size_in, sizes-contents, contents-352}
use Rattle.image.proofs.write.contents_len.Goals as goal

-- Both answers have the chain. Tried as one lemma: no proof, since its statement has to name steps of iterators that only
-- the library itself can name.
pub sum-requires-clause-fits : goal.sum-requires-clause-fits
sum-requires-clause-fits c =
    let xs = c.args.cells.now.slots in
    fits_by_from_yields_list size_in xs c.map.result _ (YieldsList-from_map _ size_in (YieldsList-at c.map.ensures.source (YieldsList-from_slice xs cc)) c.map.ensures.closure (λ x r q k. search rules))
    (omega (arith, sizes-contents xs, contents-352 xs c.args.cells.now.kinded))

pub returns : goal.returns
returns c =
    let xs = c.args.cells.now.slots in
    let total = sum_by_from_yields_List size_in xs c.map.result c.sum.result c.sum.ensures.ran (YieldsList-from_map _ size_in (YieldsList-at c.map.ensures.source (YieldsList-from_slice xs cc)) c.map.ensures.closure (λ x r q k. search rules)) in
    record { value = total ∙ sizes-contents xs; bound = omega (arith, total, sizes-contents xs, contents-352 xs c.args.cells.now.kinded) }
