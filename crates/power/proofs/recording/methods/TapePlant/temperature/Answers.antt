use Rattle.std.proofs.Common.{◌≡◌, ℕ, zero, suc, List, [], ◌∷◌, length, ℤ, pos, slice_index_or, refl, arith}
use Rattle.std.proofs.lemmas.Grind.{common_steps}
use Rattle.power.specs.Recordings.{sensed}
use Rattle.power.proofs.recording.methods.TapePlant.temperature.Goals as goal

-- the four readings kept in range, and 0 past them
listed : (ts : List ℤ) (k : ℕ) → length ts ≡ 4 → slice_index_or (sensed ts 0 ∷ sensed ts 1 ∷ sensed ts 2 ∷ sensed ts 3 ∷ []) k (pos 0) ≡ sensed ts k
listed ts zero h = refl
listed ts (suc zero) h = refl
listed ts (suc (suc zero)) h = refl
listed ts (suc (suc (suc zero))) h = refl
listed ts (suc (suc (suc (suc k)))) h = grind (arith, common_steps)

pub returns : goal.returns
returns c = record { value = grind (arith, common_steps, listed) }
