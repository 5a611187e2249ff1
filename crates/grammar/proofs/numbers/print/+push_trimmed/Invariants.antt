use Rattle.grammar.proofs.numbers.print.+push_trimmed.Given as goal

abbrev pub decreases-push_trimmed : goal.decreases-push_trimmed
decreases-push_trimmed l = l.k
