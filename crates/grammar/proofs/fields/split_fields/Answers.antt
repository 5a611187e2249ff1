use Rattle.std.proofs.Common.{rules, ap, ◌∙◌, tests, refl, eqb, arith}
use Rattle.std.proofs.lemmas.List.{drop-drop}
use Rattle.std.proofs.lemmas.List.Splits.{length-slice_split}
use Rattle.std.proofs.lemmas.Iterator.Splits.{YieldsList-from_slice_split}
use Rattle.grammar.specs.Fields.{fields}
use Rattle.grammar.proofs.Splits.{fields-exactly, given-field, field-after}
use Rattle.grammar.proofs.fields.split_fields.Goals as goal

pub returns : goal.returns
unfolding fields
returns c =
    let one = given-field c.split-fields.result c.next.new.self c.next.result _ _ c.next.ensures.steps (λ s t k. k.1) refl
    (YieldsList-from_slice_split _ (λ b. eqb b 58) c.args.line.now c.split-fields.ensures.rest c.split-fields.ensures.done c.split-fields.ensures.closure (λ x r q k. search (rules, tests))) in
    let two = given-field _ c.next-2.new.self c.next-2.result _ _ c.next-2.ensures.steps (λ s t k. k.1) refl one.1 in
    let three = given-field _ c.next-3.new.self c.next-3.result _ _ c.next-3.ensures.steps (λ s t k. k.1) refl two.1 in
    record {
      first = ap (λ s. s.now) c.unwrap_or.ensures ∙ one.0;
      second = ap (λ s. s.now) c.unwrap_or-2.ensures ∙ two.0 ∙ field-after 1 (fields c.args.line.now) _ refl;
      third = ap (λ s. s.now) c.unwrap_or-3.ensures ∙ three.0 ∙ field-after 2 (fields c.args.line.now) _ (drop-drop 1 1 (fields c.args.line.now));
      len = omega (arith, c.count_colons.ensures.value, length-slice_split (λ b. eqb b 58) c.args.line.now);
      exact = fields-exactly c.args.line.now;
    }
