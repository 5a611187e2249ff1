-- The fields of a line: how they grow with its front, and that they alone make it up. Assumes nothing.
use Rattle.std.proofs.Common.{◌≡◌, ℕ, zero, suc, ◌+◌, ◌≤◌, Bool, true, false, cond, eqb, List, [], ◌∷◌, ◌++◌, length, drop, Option, Some, None, subst, sym, refl, ap, ◌∙◌, arith, get_or-drop}
use Rattle.std.specs.Borrow.{Bor}
use Rattle.std.specs.Option.{unwrap_or}
use Rattle.std.specs.Str.Iter.{LacksByte}
use Rattle.std.proofs.lemmas.Iterator.{YieldsList}
use Rattle.std.specs.List.{All, slice_split, onto_first, join_with_byte, AllByRecursion}
use Rattle.std.proofs.lemmas.Bool.{ne_eqb, cond-false}
use Rattle.std.proofs.lemmas.List.{get_or_default}
use Rattle.std.proofs.lemmas.List.Splits.{slice_split_none, slice_split_at, length-slice_split, join_with_byte-slice_split}
use Rattle.grammar.specs.Fields.{fields, field, ExactFields}

-- the field after the first ones
pub field-after : (k : ℕ) (fs gs : List (List ℕ)) → gs ≡ drop k fs → field 0 gs ≡ field k fs
field-after k fs gs e = ap (field 0) e ∙ get_or-drop k fs 0 [] ∙ (let e : k + 0 ≡ k = omega arith in ap (λ j. field j fs) e)

-- what `next` gives of an iterator over fields: the first that is left or else an empty one, and after it the others are left
pub given-field : {S : Type 0} {steps : S → Option (Bor (List ℕ)) → S → Type 0} (s t : S) (r : Option (Bor (List ℕ))) (d : Bor (List ℕ)) (fs : List (List ℕ)) → steps s r t → ((s t : S) → steps s None t → t ≡ s) → d.now ≡ [] → YieldsList steps (λ x. x.now) s fs
    → ((unwrap_or r d).now ≡ field 0 fs) × YieldsList steps (λ x. x.now) t (drop 1 fs)
given-field {steps = steps} s t None d [] k stays e y = (e, subst (λ u. YieldsList steps (λ x. x.now) u []) (sym (stays s t k)) y)
given-field s t None d (f ∷ fs) k stays e y = let m = y.runs in absurd (m.0 t k)
given-field s t (Some x) d [] k stays e y = let m = y.runs in absurd (m x t k)
given-field s t (Some x) d (f ∷ fs) k stays e y = let m = y.runs in let n = m.1 x t k in (n.0, record { runs = n.1 })

-- THE LAW OF THE FIELDS

lacks-more : (c : ℕ) (f : List ℕ) → eqb c 58 ≡ false → LacksByte 58 f → LacksByte 58 (c ∷ f)
lacks-more c f ne h zero l e = cc
lacks-more c f ne h (suc k) l e = h k (omega arith) e

onto-lacks : (b : Bool) (c : ℕ) (fs : List (List ℕ)) → eqb c 58 ≡ b → AllByRecursion (LacksByte 58) fs → AllByRecursion (LacksByte 58) (cond b ([] ∷ fs) (onto_first c fs))
onto-lacks true c fs e h = (λ k l. absurd (omega arith), h)
onto-lacks false c [] e h = (lacks-more c [] e (λ k l. absurd (omega arith)), tt)
onto-lacks false c (f ∷ fs) e h = (lacks-more c f e h.0, h.1)

no_colon : (s : List ℕ) → AllByRecursion (LacksByte 58) (slice_split (λ c. eqb c 58) s)
no_colon [] = (λ k l. absurd (omega arith), tt)
no_colon (c ∷ cs) = onto-lacks (eqb c 58) c _ refl (no_colon cs)

lacking : (f : List ℕ) → LacksByte 58 f → All (λ c. eqb c 58 ≡ false) f
lacking f h k d l = ne_eqb _ 58 (λ e. h k l (get_or_default f k 0 d l ∙ e))

-- a line has a first field
pub first_field : (s : List ℕ) → (f : List ℕ) × (fs : List (List ℕ)) × (fields s ≡ f ∷ fs)
unfolding fields
first_field [] = ([], [], refl)
first_field (c ∷ cs) = first (eqb c 58) (first_field cs)
  where
    first : (b : Bool) → (f : List ℕ) × (fs : List (List ℕ)) × (fields cs ≡ f ∷ fs) → (f : List ℕ) × (fs : List (List ℕ)) × (cond b ([] ∷ fields cs) (onto_first c (fields cs)) ≡ f ∷ fs)
    first true r = ([], fields cs, refl)
    first false r = (c ∷ r.0, r.1, ap (onto_first c) r.2)

pub at_other : (c : ℕ) (cs : List ℕ) → (c ≡ 58 → ⊥) → fields (c ∷ cs) ≡ onto_first c (fields cs)
unfolding fields
at_other c cs e = cond-false _ _ _ (ne_eqb c 58 e)

pub join_front : (c : ℕ) (f : List ℕ) (fs : List (List ℕ)) → join_with_byte 58 ((c ∷ f) ∷ fs) ≡ c ∷ join_with_byte 58 (f ∷ fs)
join_front c f [] = refl
join_front c f (g ∷ gs) = refl

pub lacks_rest : (c : ℕ) (f : List ℕ) → LacksByte 58 (c ∷ f) → LacksByte 58 f
lacks_rest c f h k l e = h (suc k) (omega arith) e

pub one_field : (f : List ℕ) → LacksByte 58 f → fields f ≡ f ∷ []
unfolding fields
one_field f h = slice_split_none (λ c. eqb c 58) f (lacking f h)

pub next_field : (f s : List ℕ) → LacksByte 58 f → fields (f ++ (58 ∷ s)) ≡ f ∷ fields s
unfolding fields
next_field f s h = slice_split_at (λ c. eqb c 58) f 58 s (lacking f h) refl

rejoined-fields : (fs : List (List ℕ)) → 1 ≤ length fs → AllByRecursion (LacksByte 58) fs → fields (join_with_byte 58 fs) ≡ fs
rejoined-fields [] some h = absurd (omega arith)
rejoined-fields (f ∷ []) some h = one_field f h.0
rejoined-fields (f ∷ g ∷ gs) some h = next_field f (join_with_byte 58 (g ∷ gs)) h.0 ∙ ap (λ (x : List (List ℕ)). f ∷ x) (rejoined-fields (g ∷ gs) (omega arith) h.1)

pub fields-exactly : (s : List ℕ) → ExactFields s
unfolding fields
fields-exactly s = record {
  split = record { some = omega (arith, length-slice_split (λ c. eqb c 58) s); whole = join_with_byte-slice_split 58 s; no_colon = no_colon s };
  only = λ fs r. sym (rejoined-fields fs r.some r.no_colon) ∙ ap fields r.whole;
}
