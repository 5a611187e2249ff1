use Rattle.std.proofs.Common.{◌≡◌, ◌+◌, length, take}
use Rattle.cells.specs.Kinded.{values_in}
use Rattle.image.specs.Image.{contents, directory}
use Rattle.image.proofs.write.write_pairs.Given as goal

abbrev pub invariant-loop-slot : goal.invariant-loop-slot
invariant-loop-slot g l =
    (g.S.Sink.written l.out ≡ directory 156 (take l.slot-index (values_in l.slots))) × (l.at ≡ 156 + length (contents (take l.slot-index (values_in l.slots))))
