use Rattle.std.proofs.Common.{rules, ◌≡◌, ℕ, List, Some, sym, ◌∙◌}
use Rattle.std.proofs.Math.Bool.{or-false}
use Rattle.request.specs.Forms.{index_of, cell_at}
use Rattle.request.specs.Grounds.{field_refusal, value_refusal}
use Rattle.request.specs.declared.commands.Command.TheVariants.{Mwg}
use Rattle.request.specs.declared.requests.Cell.{Cell}
use Rattle.reading.proofs.lines.read_cell_write.Goals as goal

-- once the cell is found, the grounds on its value are left
-- `e` and `d` stand in both answers: tried one lemma from the four facts, which proves and is longer
by_value : (n : ℕ) (f g : List ℕ) (k : ℕ) (c : Cell) → index_of f ≡ Some k → cell_at k ≡ Some c → field_refusal 0 Mwg n f g ≡ value_refusal c.role g
by_value n f g k c e d = simp (e, d, or-false)

pub returns-in_err-value : goal.returns-in_err-value
returns-in_err-value c =
    let e = sym c.read_index.ensures.value ∙ c.in_ok-index.ensures.ok_part in
    let d = sym c.find_cell.ensures.value ∙ c.in_ok-cell.ensures.ok_part in
    let h = by_value c.args.fields.now.count _ c.args.fields.now.third.now _ _ e d ∙ c.in_err-value.ensures.cases in
    search (rules, h)

pub returns : goal.returns
returns c =
    let e = sym c.read_index.ensures.value ∙ c.in_ok-index.ensures.ok_part in
    let d = sym c.find_cell.ensures.value ∙ c.in_ok-cell.ensures.ok_part in
    let h = c.in_ok-value.ensures.cases in
    record { cases = (by_value c.args.fields.now.count _ c.args.fields.now.third.now _ _ e d ∙ h.0, simp (e, d, h.1)) }
