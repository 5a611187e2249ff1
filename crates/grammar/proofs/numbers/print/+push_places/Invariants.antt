use Rattle.grammar.proofs.numbers.print.+push_places.Given as goal

abbrev pub decreases-push_places : goal.decreases-push_places
decreases-push_places l = l.k
