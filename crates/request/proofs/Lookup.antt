-- Looking a word up among the names of commands. Assumes nothing.
use Rattle.std.proofs.Common.{◌≡◌, ℕ, ◌≤◌, cond, List, [], ◌∷◌, length, drop, Some, None, refl, ap}
use Rattle.std.proofs.lemmas.List.{drop_all}
use Rattle.std.specs.List.{find}
use Rattle.grammar.specs.Words.{same_word}
use Rattle.request.specs.Commands.{name_of, named_among}
use Rattle.request.specs.declared.commands.Command.{Command}

pub find-named : (w : List ℕ) (cs : List Command) → find (λ c. same_word w (name_of c)) cs ≡ named_among cs w
find-named w [] = refl
find-named w (c ∷ cs) = ap (cond (same_word w (name_of c)) (Some c)) (find-named w cs)

pub none_left : (cs : List Command) (w : List ℕ) (i : ℕ) → length cs ≤ i → named_among (drop i cs) w ≡ None
none_left cs w i h = ap (λ (t : List Command). named_among t w) (drop_all i cs h)
