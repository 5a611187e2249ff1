-- The image of cells: a pair of offset and length for each, then the contents. Assumes nothing.
use Rattle.std.specs.Prelude.{◌≡◌, ℕ, ◌+◌, ◌*◌, ◌/◌, ◌%◌, ◌≤◌, Bool, true, cond, ◌&&◌, ◌||◌, List, [], ◌∷◌, ◌++◌, length, take, drop, replicate, Some, None, Option, ◌==◌, nat_le, slice_index}
use Rattle.std.specs.Int.{w64}
use Rattle.std.proofs.Common.{of_z, to_z}
use Rattle.cells.specs.Values.{Value, absent, number, mask, text, spoken}
use Rattle.cells.specs.Kinded.{kinded}
use Rattle.cells.specs.declared.roles.Kind.{Kind}
use Rattle.cells.specs.declared.roles.Kind.TheVariants.{Number, Mask, Text}

-- high byte first
abbrev pub be16 : ℕ → List ℕ
be16 n = (n / 256 % 256) ∷ (n % 256) ∷ []

abbrev pub be32 : ℕ → List ℕ
be32 n = (n / 16777216 % 256) ∷ (n / 65536 % 256) ∷ (n / 256 % 256) ∷ (n % 256) ∷ []

abbrev pub be64 : ℕ → List ℕ
be64 n =
    (n / 72057594037927936 % 256) ∷ (n / 281474976710656 % 256) ∷ (n / 1099511627776 % 256) ∷ (n / 4294967296 % 256) ∷ (n / 16777216 % 256) ∷ (n / 65536 % 256) ∷ (n / 256 % 256) ∷ (n % 256) ∷ []

-- the bytes of a value: none for what is absent
abbrev pub content : Value → List ℕ
content absent = []
content (number z) = be64 (of_z w64 z)
content (mask m) = be32 m
content (text bs) = bs

abbrev pub contents : List Value → List ℕ
contents [] = []
contents (v ∷ vs) = content v ++ contents vs

-- the pairs, where the contents of the first value start at `at`
abbrev pub directory : ℕ → List Value → List ℕ
directory at [] = []
directory at (v ∷ vs) = be16 at ++ (be16 (length (content v)) ++ directory (at + length (content v)) vs)

-- THE IMAGE: the contents start after the pairs, of four bytes each
abbrev pub encoded : List Value → List ℕ
encoded vs = directory (4 * length vs) vs ++ contents vs

-- reading it back

abbrev pub from16 : List ℕ → ℕ → ℕ
from16 bs i = slice_index bs i * 256 + slice_index bs (i + 1)

abbrev pub from32 : List ℕ → ℕ
from32 bs = slice_index bs 0 * 16777216 + slice_index bs 1 * 65536 + slice_index bs 2 * 256 + slice_index bs 3

abbrev pub from64 : List ℕ → ℕ
from64 bs =
    slice_index bs 0 * 72057594037927936 + slice_index bs 1 * 281474976710656 + slice_index bs 2 * 1099511627776 + slice_index bs 3 * 4294967296 + slice_index bs 4 * 16777216 + slice_index bs 5 * 65536 + slice_index bs 6 * 256 + slice_index bs 7

-- whether a cell of this kind may have this length
abbrev pub sized : Kind → ℕ → Bool
sized Number n = n == 0 || n == 8
sized Mask n = n == 0 || n == 4
sized Text n = nat_le n 24

abbrev pub present : Kind → List ℕ → Value
present Number bs = number (to_z w64 (from64 bs))
present Mask bs = mask (from32 bs)
present Text bs = spoken bs

abbrev pub value_in : Kind → List ℕ → Value
value_in k bs = cond (length bs == 0) absent (present k bs)

abbrev pub after : Value → Option (List Value) → Option (List Value)
after v None = None
after v (Some vs) = Some (v ∷ vs)

-- whether a pair of this offset and length is one of a cell of this kind, whose contents are to start at `at`, with so many bytes left
abbrev pub agrees : Kind → (offset size at left : ℕ) → Bool
agrees k offset size at left = offset == at && (sized k size && nat_le size left)

abbrev pub lawful : Kind → ℕ → List ℕ → List ℕ → Bool
lawful k at ps cs = agrees k (from16 ps 0) (from16 ps 2) at (length cs)

-- cells of these kinds, from the pairs ps and the contents cs, which start at `at`
abbrev pub parse : List Kind → ℕ → List ℕ → List ℕ → Option (List Value)
parse [] at ps cs = Some []
parse (k ∷ ks) at ps cs =
    cond (lawful k at ps cs)
    (after (value_in k (take (from16 ps 2) cs)) (parse ks (at + from16 ps 2) (drop 4 ps) (drop (from16 ps 2) cs)))
    None

abbrev pub or_absent : ℕ → Option (List Value) → List Value
or_absent n None = replicate n absent
or_absent n (Some vs) = vs

-- the cells that bytes mean
unfoldable pub decoded : List Kind → List ℕ → List Value
decoded ks bytes =
    cond (nat_le (4 * length ks) (length bytes))
    (or_absent (length ks) (parse ks (4 * length ks) bytes (drop (4 * length ks) bytes)))
    (replicate (length ks) absent)

-- what a pair tells where it is lawful
pub record Pair (k : Kind) (i at n : ℕ) (bytes : List ℕ) : Type 0 where
  pub is : lawful k at (drop (4 * i) bytes) (drop at bytes) ≡ true
  pub size : n ≡ from16 (drop (4 * i) bytes) 2
  pub kind : sized k n ≡ true
  pub within : at + n ≤ length bytes

-- these bytes begin with the image of these cells
pub record ImageOf (ks : List Kind) (bytes : List ℕ) (vs : List Value) : Type 0 where
  pub kind : kinded ks vs ≡ true
  pub rest : List ℕ
  pub starts : bytes ≡ encoded vs ++ rest

-- WHAT BYTES MEAN: the cells with whose image they begin, and all absent where there are none
pub record Means (ks : List Kind) (bytes : List ℕ) (vs : List Value) : Type 0 where
  pub is : (ws : List Value) → ImageOf ks bytes ws → vs ≡ ws
  pub none : ((ws : List Value) → ImageOf ks bytes ws → ⊥) → vs ≡ replicate (length ks) absent
