-- Words without letter case. Assumes nothing.
use Rattle.std.proofs.Common.{◌≡◌, ℕ, eqb, List, [], ◌∷◌, map, Decides, refl, arith}
use Rattle.std.specs.Char.{to_ascii_lowercase}
use Rattle.std.proofs.lemmas.Bool.{and_parts, and_from, eqb-true, eq-eqb, false≢true}
use Rattle.grammar.specs.Words.{SameWord, same_word}

pub same-decides : (a b : List ℕ) → Decides (same_word a b) (SameWord a b)
same-decides [] [] = (λ _. refl, λ _. refl)
same-decides [] (y ∷ ys) = (λ e. absurd (false≢true e), λ e. absurd (let z : ◌≡◌ {A = ℕ} 0 1 = cc in omega arith))
same-decides (x ∷ xs) [] = (λ e. absurd (false≢true e), λ e. absurd (let z : ◌≡◌ {A = ℕ} 0 1 = cc in omega arith))
same-decides (x ∷ xs) (y ∷ ys) = (
  λ e. let p = and_parts (eqb (to_ascii_lowercase x) (to_ascii_lowercase y)) (same_word xs ys) e in (λ t. eqb-true (to_ascii_lowercase x) (to_ascii_lowercase y) p.0 t ∷ (same-decides xs ys).0 p.1 t),
  λ e. and_from _ _ (eq-eqb (to_ascii_lowercase x) (to_ascii_lowercase y) (let h : to_ascii_lowercase x ≡ to_ascii_lowercase y = cc in h)) ((same-decides xs ys).1 (let h : map to_ascii_lowercase xs ≡ map to_ascii_lowercase ys = cc in h)),
)
