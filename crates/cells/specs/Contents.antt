-- What a store of cells means, and what its calls do. Assumes nothing.
use Rattle.std.specs.Prelude.{◌≡◌, ℕ, Bool, true, false, cond, ◌&&◌, List, [], length, ℤ, Some, None, Option, nat_lt, slice_index_or, slice_set}
use Rattle.cells.specs.Directory.{cell_count, place, kinds}
use Rattle.cells.specs.Values.{Value, absent, number, mask, text}
use Rattle.cells.specs.declared.roles.Kind.{Kind}
use Rattle.cells.specs.declared.roles.Kind.TheVariants.{Number, Mask, Text}

-- the working and the saved values, one for each cell in the order of the directory, and whether the store can save
pub record Contents : Type 0 where
  pub working : List Value
  pub saved : List Value
  pub able : Bool

-- there is a value for each cell
pub record Whole (m : Contents) : Type 0 where
  pub working : length m.working ≡ cell_count
  pub saved : length m.saved ≡ cell_count

abbrev pub same_kind : Kind → Kind → Bool
same_kind Number Number = true
same_kind Number Mask = false
same_kind Number Text = false
same_kind Mask Number = false
same_kind Mask Mask = true
same_kind Mask Text = false
same_kind Text Number = false
same_kind Text Mask = false
same_kind Text Text = true

-- there is such a cell, and it is of this kind
abbrev pub takes : Kind → ℕ → Bool
takes k c = nat_lt (place c) cell_count && same_kind (slice_index_or kinds (place c) Number) k

-- the value of a cell among these; what is no cell is absent
abbrev pub at : List Value → ℕ → Value
at vs c = slice_index_or vs (place c) absent

-- the values after a write; into no cell, or a cell of another kind, it does nothing
abbrev pub put : Kind → List Value → ℕ → Value → List Value
put k vs c v = cond (takes k c) (slice_set vs (place c) v) vs

-- what a question of each kind reads
abbrev pub number_in : Value → Option ℤ
number_in absent = None
number_in (number z) = Some z
number_in (mask m) = None
number_in (text bs) = None

abbrev pub mask_in : Value → Option ℕ
mask_in absent = None
mask_in (number z) = None
mask_in (mask m) = Some m
mask_in (text bs) = None

abbrev pub text_in : Value → List ℕ
text_in absent = []
text_in (number z) = []
text_in (mask m) = []
text_in (text bs) = bs

-- a write sets one working value; whether the store is able after one that took is left open
pub record Wrote (k : Kind) (c : ℕ) (v : Value) (m n : Contents) : Type 0 where
  pub working : n.working ≡ put k m.working c v
  pub saved : n.saved ≡ m.saved
  pub nothing : takes k c ≡ false → n ≡ m

-- a save is refused exactly when the store is not able, and then nothing changes; otherwise saved becomes working
pub record Saved (ok : Bool) (m n : Contents) : Type 0 where
  pub exactly : ok ≡ m.able
  pub working : n.working ≡ m.working
  pub saved : n.saved ≡ cond ok m.working m.saved
  pub refused : ok ≡ false → n ≡ m

-- a reload makes working the saved values
pub record Reloaded (m n : Contents) : Type 0 where
  pub working : n.working ≡ m.saved
  pub saved : n.saved ≡ m.saved
