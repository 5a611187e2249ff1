use Rattle.std.proofs.Common.{ℕ, eqb, cond, arith, rules, tests}
use Rattle.std.proofs.lemmas.List.Sums.{count_by-le-length}
use Rattle.std.proofs.lemmas.Iterator.{YieldsList-from_map, YieldsList-from_slice}
use Rattle.std.proofs.lemmas.Iterator.Consumers.{YieldsList-at, sum_by_from_yields_List, fits_by_from_yields_list}
use Rattle.grammar.proofs.fields.count_colons.Goals as goal

abbrev one : ℕ → ℕ
one c = cond (eqb c 58) 1 0

pub sum-requires-clause-fits : goal.sum-requires-clause-fits
sum-requires-clause-fits c =
    let xs = c.args.line.now in
    fits_by_from_yields_list one xs c.map.result _ (YieldsList-from_map _ one (YieldsList-at c.map.ensures.source (YieldsList-from_slice xs cc)) c.map.ensures.closure (λ x r q k. search (rules, tests)))
    (omega (arith, count_by-le-length (λ c. eqb c 58) xs))

pub returns : goal.returns
returns c =
    let xs = c.args.line.now in
    let total = sum_by_from_yields_List one xs c.map.result c.sum.result c.sum.ensures.ran (YieldsList-from_map _ one (YieldsList-at c.map.ensures.source (YieldsList-from_slice xs cc)) c.map.ensures.closure (λ x r q k. search (rules, tests))) in
    record { value = total; bound = omega (arith, total, count_by-le-length (λ c. eqb c 58) xs) }
