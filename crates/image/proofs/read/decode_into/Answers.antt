use Rattle.std.proofs.Common.{◌≡◌, ◌+◌, List, length, get_or, take, drop, set, Some, sym, refl, ap, ◌∙◌, subst, arith}
use Rattle.std.proofs.lemmas.List.{take_rest, length-take-le, length-drop}
use Rattle.cells.specs.Directory.{kinds}
use Rattle.cells.proofs.Listed.{listed_length, listed_kind}
use Rattle.cells.specs.Kinded.{values_in}
use Rattle.cells.specs.Values.{Value, slot_of}
use Rattle.cells.specs.declared.roles.Kind.{Kind}
use Rattle.cells.specs.declared.roles.Kind.TheVariants.{Number}
use Rattle.cells.specs.Sorts.{kinds-39, values-39}
use Rattle.image.specs.Image.{value_in, Pair}
use Rattle.image.proofs.Reading.{onto, rest, rest_more, rest_all, decoded-at, pair_is}
use Rattle.image.proofs.read.decode_into.Goals as goal

pub loop-i-preserved : goal.loop-i-preserved
loop-i-preserved c =
    let bs = c.args.bytes.now in
    let i = c.loop-i.i in
    let at = c.loop-i.at in
    let n = c.read.result.size in
    let us : List Value = values_in c.loop-i.cells.slots in
    let kind = c.kind-kind.ensures.value ∙ listed_kind c.all_roles-roles.result.now i _ _ c.all_roles-roles.ensures.value refl c.loop-i-test.true in
    let pair : Pair (get_or kinds i Number) i at n bs = subst (λ (k : Kind). Pair k i at n bs) kind (pair_is c.kind-kind.result bs i at c.read.result.offset n c.read.ensures.offset c.read.ensures.size c.loop-i.invariant.1 c.in_ok-content.ensures.cases.0) in
    let content : c.in_ok-content.content.now ≡ take n (drop at bs) = c.in_ok-content.ensures.cases.1 ∙ ap (take n) (take_rest bs at) in
    let size : length c.in_ok-content.content.now ≡ n = ap length content ∙ length-take-le n (drop at bs) (omega (arith, pair.within, length-drop at bs)) in
    let is : slot_of c.read_value.result ≡ value_in (get_or kinds i Number) (take n (drop at bs)) = c.read_value.ensures.value ∙ (λ t. value_in (kind t) (content t)) in
    let filled : values_in c.fill.new.self.slots ≡ set us i (slot_of c.read_value.result) = rw (← c.in_ok-ok.ensures.variant) at c.fill.ensures.after in
    let more = rest_more kinds bs i at n us (slot_of c.read_value.result) (omega (arith, kinds-39, listed_length _ c.all_roles-roles.ensures.value, c.loop-i-test.true)) (omega (arith, values-39 c.loop-i.cells.slots c.loop-i.cells.kinded, listed_length _ c.all_roles-roles.ensures.value, c.loop-i-test.true)) pair is in (
      c.loop-i.invariant.0 ∙ more ∙ (λ t. onto (take (i + 1) (sym filled t)) (rest kinds bs (i + 1) (at + sym size t))),
      omega (arith, pair.within, size),
    )

pub returns : goal.returns
returns c =
    let us : length (values_in c.loop-i.cells.slots) ≡ 39 = values-39 c.loop-i.cells.slots c.loop-i.cells.kinded in
    let last = listed_length _ c.all_roles-roles.ensures.value in
    record {
      value = sym (decoded-at kinds c.args.bytes.now 39 (Some (values_in c.loop-i.cells.slots)) kinds-39 c.requires.pairs
          (c.loop-i.invariant.0 ∙ rest_all kinds c.args.bytes.now c.loop-i.i c.loop-i.at (values_in c.loop-i.cells.slots) (omega (arith, kinds-39, last, c.loop-i-test.false)) (omega (arith, us, last, c.loop-i-test.false))));
    }
