-- The names of the loops. Assumes nothing.
use Rattle.std.specs.Prelude.{ℕ, List, codes}
use Rattle.power.specs.declared.loops.Loop.{Loop}
use Rattle.power.specs.declared.loops.Loop.TheVariants.{I, V}

abbrev pub loop_text : Loop → List ℕ
loop_text I = codes "I"
loop_text V = codes "V"
