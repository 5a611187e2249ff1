use Rattle.std.proofs.Common.{List, sym, subst}
use Rattle.cells.specs.Directory.{kinds}
use Rattle.cells.specs.Values.{Value}
use Rattle.image.specs.Image.{Means}
use Rattle.image.proofs.Meant.{cells-mean}
use Rattle.image.proofs.read.read_cells.Goals as goal

pub returns : goal.returns
returns c = record {
  value = c.decode.ensures.value;
  exact = subst (λ (x : List Value). Means kinds c.args.bytes.now x) (sym c.decode.ensures.value) (cells-mean c.args.bytes.now (λ i. (c.type_inv.bytes i).fits));
}
