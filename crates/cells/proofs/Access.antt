-- What is read after a write. Assumes nothing.
use Rattle.std.proofs.Common.{◌≡◌, ℕ, ◌<◌, true, false, cond, ltb, List, length, get_or, set, ℤ, Some, sym, refl, ap, ◌∙◌, ⊎_elim, arith, w64, of_z, to_z}
use Rattle.std.specs.Prelude.{FitsSigned}
use Rattle.std.proofs.lemmas.Int.{to_z-of_z}
use Rattle.std.proofs.lemmas.List.{get_or-set_same, get_or-set_other}
use Rattle.std.proofs.lemmas.Bool.{cases_Bool, and_parts, ltb-true, cond-true, cond-false, cond_both}
use Rattle.std.proofs.lemmas.Bool.Decides.{nat_tests}
use Rattle.cells.specs.Values.{Value, absent, number}
use Rattle.cells.specs.Directory.{place, kinds}
use Rattle.cells.specs.Contents.{Contents, Wrote, takes, put, at, same_kind, number_in}
use Rattle.cells.specs.declared.roles.Kind.{Kind}
use Rattle.cells.specs.declared.roles.Kind.TheVariants.{Number}

pub place-apart : (c d : ℕ) → place c < 39 → place c ≡ place d → c ≡ d
place-apart c d l e = grind (arith, nat_tests)

pub at-put-same : (k : Kind) (vs : List Value) (c : ℕ) (v : Value) → length vs ≡ 39 → takes k c ≡ true → at (put k vs c v) c ≡ v
at-put-same k vs c v n t =
    let l : place c < 39 = ltb-true (place c) 39 (and_parts (ltb (place c) 39) (same_kind (get_or kinds (place c) Number) k) t).0 in
    ap (λ (x : List Value). get_or x (place c) absent) (cond-true (takes k c) (set vs (place c) v) vs t) ∙ get_or-set_same vs (place c) v absent (omega (arith, n, l))

pub at-put-other : (k : Kind) (vs : List Value) (c d : ℕ) (v : Value) → (c ≡ d → ⊥) → at (put k vs c v) d ≡ at vs d
at-put-other k vs c d v ne =
    cond_both (takes k c) (set vs (place c) v) vs (λ x. get_or x (place d) absent ≡ get_or vs (place d) absent)
    (λ t.
    let l : place c < 39 = ltb-true (place c) 39 (and_parts (ltb (place c) 39) (same_kind (get_or kinds (place c) Number) k) t).0 in
    get_or-set_other vs (place c) (place d) v absent (λ e. ne (place-apart c d l (sym e))))
    (λ t. refl)

pub put-none : (k : Kind) (vs : List Value) (c : ℕ) (v : Value) → takes k c ≡ false → put k vs c v ≡ vs
put-none k vs c v f = cond-false (takes k c) (set vs (place c) v) vs f

-- the number that is read back after one was written
pub read_back : (vs : List Value) (c : ℕ) (z : ℤ) → length vs ≡ 39 → number_in (at (put Number vs c (number z)) c) ≡ cond (takes Number c) (Some z) (number_in (at vs c))
read_back vs c z n =
    ⊎_elim
    (λ (t : takes Number c ≡ true). ap number_in (at-put-same Number vs c (number z) n t) ∙ sym (cond-true (takes Number c) (Some z) (number_in (at vs c)) t))
    (λ (f : takes Number c ≡ false). ap (λ (x : List Value). number_in (at x c)) (put-none Number vs c (number z) f) ∙ sym (cond-false (takes Number c) (Some z) (number_in (at vs c)) f))
    (cases_Bool (takes Number c))

-- a number that was written, which the code holds in 64 bits
module _ (c : ℕ) (z : ℤ) (m n : Contents) (f : FitsSigned w64 z) (w : Wrote Number c (number (to_z w64 (of_z w64 z))) m n) where
  working_now : n.working ≡ put Number m.working c (number z)
  working_now = w.working ∙ ap (λ (x : ℤ). put Number m.working c (number x)) (to_z-of_z w64 z f)

  pub number_back : length m.working ≡ 39 → number_in (at n.working c) ≡ cond (takes Number c) (Some z) (number_in (at m.working c))
  number_back l = ap (λ (x : List Value). number_in (at x c)) working_now ∙ read_back m.working c z l

  pub others_kept : (d : ℕ) → (c ≡ d → ⊥) → at n.working d ≡ at m.working d
  others_kept d ne = ap (λ (x : List Value). at x d) working_now ∙ at-put-other Number m.working c d (number z) ne
