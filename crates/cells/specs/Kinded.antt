-- Values of the kinds of their cells. Assumes nothing.
use Rattle.std.specs.Prelude.{◌^◌, Bool, true, false, ◌&&◌, List, [], ◌∷◌, Option, map, length, nat_le, nat_lt}
use Rattle.std.specs.Int.Signed.{mag}
use Rattle.cells.specs.Values.{Value, absent, number, mask, text, slot_of}
use Rattle.cells.specs.declared.roles.Kind.{Kind}
use Rattle.cells.specs.declared.roles.Kind.TheVariants.{Number, Mask, Text}
use Rattle.cells.specs.declared.stored.Stored.{Stored}

-- what a cell of a kind can hold, lawful or not: nothing, or any number of 64 bits, any mask of 32 bits, any text of 1 to 24 bytes
abbrev pub fits : Kind → Value → Bool
fits k absent = true
fits Number (number z) = nat_lt (mag z) (2 ^ 63)
fits Number (mask m) = false
fits Number (text bs) = false
fits Mask (number z) = false
fits Mask (mask m) = nat_lt m (2 ^ 32)
fits Mask (text bs) = false
fits Text (number z) = false
fits Text (mask m) = false
fits Text (text bs) = nat_lt 0 (length bs) && nat_le (length bs) 24

-- each value fits the kind beside it, and there are as many
abbrev pub kinded : List Kind → List Value → Bool
kinded [] [] = true
kinded [] (v ∷ vs) = false
kinded (k ∷ ks) [] = false
kinded (k ∷ ks) (v ∷ vs) = fits k v && kinded ks vs

-- what the slots of an array stand for
abbrev pub values_in : List (Option Stored) → List Value
values_in = map slot_of
