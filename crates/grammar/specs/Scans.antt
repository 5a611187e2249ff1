-- A number that is being read byte by byte: what its bytes so far let the rest still become. Assumes nothing.
use Rattle.std.specs.Prelude.{◌≡◌, ℕ, List, ◌∷◌, ℤ, Some, None, Option}
use Rattle.std.specs.Option.{option_map}
use Rattle.grammar.specs.Numbers.{signed, after_point, before_point, number_of}
use Rattle.grammar.specs.declared.numbers.scan.Scan.{Scan}
use Rattle.grammar.specs.declared.numbers.scan.Scan.TheVariants.{Start, Whole, Fraction}

-- the number that the bytes so far and these bytes after them write
abbrev pub read_from : Scan → List ℕ → Option ℤ
read_from Start cs = number_of cs
read_from (Whole d) cs = option_map (signed d.minus) (before_point d.count d.n cs)
read_from (Fraction d) cs = option_map (signed d.minus) (after_point d.count d.n cs)

-- the step at one byte: refused where no bytes after it make a number, else any bytes read as they did before it
abbrev pub Steps : Scan → ℕ → Option Scan → Type 0
Steps s c None = (cs : List ℕ) → read_from s (c ∷ cs) ≡ None
Steps s c (Some t) = (cs : List ℕ) → read_from s (c ∷ cs) ≡ read_from t cs
