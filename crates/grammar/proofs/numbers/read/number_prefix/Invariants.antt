use Rattle.std.proofs.Common.{◌≡◌, ℕ, List, ◌++◌, take}
use Rattle.grammar.specs.Numbers.{number_of}
use Rattle.grammar.specs.Scans.{read_from}
use Rattle.grammar.proofs.numbers.read.number_prefix.Given as goal

abbrev pub invariant-loop-i : goal.invariant-loop-i
invariant-loop-i l = (cs : List ℕ) → read_from l.scan cs ≡ number_of (take l.i l.text ++ cs)
