use Rattle.std.proofs.Common.{◌≡◌, ◌≤◌, length, take}
use Rattle.cells.specs.Kinded.{values_in}
use Rattle.cells.specs.Directory.{kinds}
use Rattle.image.proofs.Reading.{onto, rest}
use Rattle.image.proofs.read.decode_into.Given as goal

abbrev pub invariant-loop-i : goal.invariant-loop-i
invariant-loop-i l =
    (rest kinds l.bytes 0 156 ≡ onto (take l.i (values_in l.cells.slots)) (rest kinds l.bytes l.i l.at)) × (l.at ≤ length l.bytes)
