use Rattle.std.proofs.Common.{arith}
use Rattle.std.proofs.lemmas.Int.{to_z-of_z}
use Rattle.control.proofs.ramp.Ramp.position.Goals as goal

pub returns : goal.returns
returns c = record { value = grind (arith, to_z-of_z) }
