use Rattle.std.proofs.Common.{◌≡◌, drop}
use Rattle.grammar.specs.Numbers.{number_of}
use Rattle.grammar.specs.Scans.{read_from}
use Rattle.grammar.proofs.numbers.read.read_number.Given as goal

abbrev pub invariant-loop-c : goal.invariant-loop-c
invariant-loop-c l = read_from l.scan (drop l.c-index l.text) ≡ number_of l.text
