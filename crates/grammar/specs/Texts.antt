-- Texts: what a short text holds, and which bytes make a text that a person may type. Assumes nothing.
use Rattle.std.specs.Prelude.{◌≡◌, ℕ, ◌≤◌, Bool, cond, codes, not, ◌&&◌, List, length, take, ◌==◌, nat_le}
use Rattle.std.specs.Int.{IsInRange, is_in_range}
use Rattle.std.specs.List.{AllByRecursion, list_all}
use Rattle.std.specs.Str.{is_utf8}
use Rattle.grammar.specs.declared.bytes.Bytes.{Bytes}

-- the bytes that a short text holds
abbrev pub bytes_of : {n : ℕ} → Bytes n → List ℕ
bytes_of t = take t.len t.bytes

-- what is shown of bytes: themselves where they are text, else a note
abbrev pub shown_bytes : List ℕ → List ℕ
shown_bytes bs = cond (is_utf8 bs) bs (codes "(not text)")

-- the rule for one byte of a text: from 32 to 126, and neither a colon nor a question mark
pub record TextByte (c : ℕ) : Type 0 where
  pub printable : IsInRange 32 126 c
  pub no_colon : c ≡ 58 → ⊥
  pub no_question : c ≡ 63 → ⊥

-- the rule for a text: 1 to 24 such bytes
pub record IsText (bs : List ℕ) : Type 0 where
  pub some : 1 ≤ length bs
  pub few : length bs ≤ 24
  pub bytes : AllByRecursion TextByte bs

-- the same, computed
abbrev pub text_byte : ℕ → Bool
text_byte c = is_in_range 32 126 c && (not (c == 58) && not (c == 63))

abbrev pub is_text : List ℕ → Bool
is_text bs = nat_le 1 (length bs) && (nat_le (length bs) 24 && list_all text_byte bs)
