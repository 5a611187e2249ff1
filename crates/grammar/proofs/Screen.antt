-- What is shown of bytes. Assumes nothing.
use Rattle.std.proofs.Common.{◌≡◌, ℕ, Bool, true, false, List, [], ◌∷◌, Result, Ok, Err, codes, sym, refl, ◌∙◌, arith, rules}
use Rattle.std.proofs.lemmas.Bool.{cond-true, cond-false}
use Rattle.std.proofs.lemmas.Fmt.{IsAscii-from_digits}
use Rattle.std.proofs.lemmas.Str.{IsUtf8-from_is_utf8, is_utf8-from_IsUtf8, IsUtf8-from_ascii, IsAscii-append}
use Rattle.std.proofs.lemmas.Str.Ascii.{IsAscii-from_all, IsAscii-nil, IsAscii-cons}
use Rattle.std.specs.Prelude.{MatchResult}
use Rattle.std.specs.Result.{result_unwrap_or}
use Rattle.std.specs.Str.{IsAscii, IsUtf8, is_utf8}
use Rattle.grammar.specs.Numbers.{Parts, Lawful, sign_text, pointed, spelled}
use Rattle.grammar.specs.Texts.{shown_bytes}

pub shown-text : (bs : List ℕ) → IsUtf8 bs → shown_bytes bs ≡ bs
shown-text bs h = cond-true _ _ _ (is_utf8-from_IsUtf8 bs h)

by_test : (bs : List ℕ) (b : Bool) → is_utf8 bs ≡ b → (IsUtf8 bs → ⊥) → shown_bytes bs ≡ codes "(not text)"
by_test bs true e h = absurd (h (IsUtf8-from_is_utf8 bs e))
by_test bs false e h = cond-false _ _ _ e

pub shown-note : (bs : List ℕ) → (IsUtf8 bs → ⊥) → shown_bytes bs ≡ codes "(not text)"
shown-note bs h = by_test bs (is_utf8 bs) refl h

-- numbers are text
ascii-sign : (minus : Bool) → IsAscii (sign_text minus)
ascii-sign true = IsAscii-from_all (sign_text true) (search rules)
ascii-sign false = IsAscii-nil

ascii-pointed : (ds : List ℕ) → IsAscii ds → IsAscii (pointed ds)
ascii-pointed [] h = h
ascii-pointed (d ∷ ds) h = IsAscii-cons 46 (d ∷ ds) (omega arith) h

pub ascii-spelled : (p : Parts) → Lawful p → IsAscii (spelled p)
ascii-spelled p l =
    IsAscii-append (sign_text p.minus) _ (ascii-sign p.minus) (IsAscii-append p.whole _ (IsAscii-from_digits p.whole l.whole_digits) (ascii-pointed p.fraction (IsAscii-from_digits p.fraction l.fraction_digits)))

pub shown-spelled : (p : Parts) → Lawful p → shown_bytes (spelled p) ≡ spelled p
shown-spelled p l = shown-text (spelled p) (IsUtf8-from_ascii (spelled p) (ascii-spelled p l))

-- what `unwrap_or` gives
pub shown-or : {S E : Type 0} (now : S → List ℕ) (note : S) (bs : List ℕ) (V : E → Type 0) (r : Result S E) → MatchResult r (λ s. (now s ≡ bs) × IsUtf8 bs) (λ e. (IsUtf8 bs → ⊥) × V e) → now note ≡ codes "(not text)" → now (result_unwrap_or r note) ≡ shown_bytes bs
shown-or now note bs V (Ok s) h n = h.0 ∙ sym (shown-text bs h.1)
shown-or now note bs V (Err e) h n = n ∙ sym (shown-note bs h.0)
