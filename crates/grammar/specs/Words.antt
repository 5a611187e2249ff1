-- Words compare without letter case. Assumes nothing.
use Rattle.std.specs.Prelude.{◌≡◌, ℕ, Bool, true, false, ◌&&◌, List, [], ◌∷◌, map, ◌==◌}
use Rattle.std.specs.Char.{to_ascii_lowercase}

-- the rule: the same bytes, once every letter A to Z is made lower-case
abbrev pub SameWord : List ℕ → List ℕ → Type 0
SameWord a b = map to_ascii_lowercase a ≡ map to_ascii_lowercase b

-- the same, computed
abbrev pub same_word : List ℕ → List ℕ → Bool
same_word [] [] = true
same_word [] (y ∷ ys) = false
same_word (x ∷ xs) [] = false
same_word (x ∷ xs) (y ∷ ys) = to_ascii_lowercase x == to_ascii_lowercase y && same_word xs ys
