-- The greatest of some quantities. Assumes nothing.
use Rattle.std.proofs.Common.{◌≡◌, Bool, true, false, cond, map, List, [], ◌∷◌, ℤ, pos, fold, sym, refl, ap, ◌∙◌, ⊎_elim, arith}
use Rattle.std.proofs.ByRecursion.{has_append_right, folded_max_z_bounds, folded_max_z_reached}
use Rattle.std.proofs.lemmas.Int.{ints}
use Rattle.std.specs.Int.{int_max}
use Rattle.std.specs.List.{ContainsAt as Has, reduce}
use Rattle.std.specs.Option.{unwrap_or}
use Rattle.std.specs.Ordering.{int_cmp, max_by_ordering}
use Rattle.grammar.specs.Numbers.{millionths_of}
use Rattle.grammar.specs.declared.quantity.Quantity.{Quantity}
use Rattle.control.specs.Heat.{hottest_of, Hottest}

pub either_way : (b : Bool) (x : ℤ) → cond b x x ≡ x
either_way true x = refl
either_way false x = refl

-- of two quantities, the one that counts more
abbrev greater : Quantity → Quantity → Quantity
greater p q = max_by_ordering (int_cmp p.millionths q.millionths) p q

greater-counts : (p q : Quantity) → (greater p q).millionths ≡ int_max p.millionths q.millionths
greater-counts p q = grind (arith, ints)

fold-counts : (q : Quantity) (qs : List Quantity) → (fold greater q qs).millionths ≡ fold int_max q.millionths (map millionths_of qs)
fold-counts q [] = refl
fold-counts q (p ∷ qs) = fold-counts (greater q p) qs ∙ ap (λ (t : ℤ). fold int_max t (map millionths_of qs)) (greater-counts q p)

-- z is what there is where there are none
pub value-of_greatest : (qs : List Quantity) (z : Quantity) → z.millionths ≡ pos 0 → (unwrap_or (reduce greater qs) z).millionths ≡ hottest_of (map millionths_of qs)
value-of_greatest [] z e = e
value-of_greatest (q ∷ qs) z e = fold-counts q qs

has-first : (t r : ℤ) (ts : List ℤ) → r ≡ t → Has (t ∷ ts) r
has-first t r ts e = (0, omega arith, λ d. sym e)

-- the greatest of some is among them, and above all others
pub is-hottest : (ts : List ℤ) (r : ℤ) → r ≡ hottest_of ts → Hottest ts r
is-hottest [] r e = record { among = λ h. absurd (omega arith); above = tt }
is-hottest (t ∷ ts) r e = record {
  among = λ h. ⊎_elim (has-first t r ts) (has_append_right (t ∷ []) ts r) (folded_max_z_reached t ts r e);
  above = folded_max_z_bounds t ts r e;
}
