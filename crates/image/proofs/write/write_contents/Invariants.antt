use Rattle.std.proofs.Common.{◌≡◌, ◌++◌, take}
use Rattle.cells.specs.Kinded.{values_in}
use Rattle.image.specs.Image.{contents}
use Rattle.image.proofs.write.write_contents.Given as goal

abbrev pub invariant-loop-slot : goal.invariant-loop-slot
invariant-loop-slot g l =
    (g.S.Sink.written l.out ≡ g.S.Sink.written l.initial.out ++ contents (take l.slot-index (values_in l.slots)))
