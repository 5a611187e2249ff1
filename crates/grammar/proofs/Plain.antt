-- Texts. Assumes nothing.
use Rattle.std.proofs.Common.{◌≡◌, ℕ, Bool, ◌&&◌, leb, List, length, Decides, sym, subst, refl, arith}
use Rattle.std.specs.List.{AllByRecursion, list_all}
use Rattle.std.proofs.ByRecursion.{Decides-by_and}
use Rattle.std.proofs.lemmas.Bool.{and_parts, and_from, leb-true, le-leb}
use Rattle.std.proofs.lemmas.Bool.Decides.{nat_tests}
use Rattle.grammar.specs.Texts.{TextByte, IsText, text_byte, is_text}

byte-decides : (c : ℕ) → Decides (text_byte c) (TextByte c)
byte-decides c = (
  λ e. record { printable = (grind (arith, nat_tests), grind (arith, nat_tests)); no_colon = λ z. grind (arith, nat_tests); no_question = λ z. grind (arith, nat_tests) },
  λ r. let p = r.printable in let q = r.no_colon in let s = r.no_question in grind (arith, nat_tests),
)

bytes_decides : (bs : List ℕ) → Decides (list_all text_byte bs) (AllByRecursion TextByte bs)
bytes_decides bs = Decides-by_and text_byte TextByte (list_all text_byte) byte-decides refl (λ _ _. refl) bs

pub text-decides : (bs : List ℕ) → Decides (is_text bs) (IsText bs)
text-decides bs = (
  λ e. let p = and_parts (leb 1 (length bs)) (leb (length bs) 24 && list_all text_byte bs) e in
      let q = and_parts (leb (length bs) 24) (list_all text_byte bs) p.1 in
      record { some = leb-true 1 _ p.0; few = leb-true _ 24 q.0; bytes = (bytes_decides bs).0 q.1 },
  λ r. and_from _ _ (le-leb 1 _ r.some) (and_from _ _ (le-leb _ 24 r.few) ((bytes_decides bs).1 r.bytes)),
)

pub text_decided : (bs : List ℕ) (b : Bool) → b ≡ is_text bs → Decides b (IsText bs)
text_decided bs b e = subst (λ (a : Bool). Decides a (IsText bs)) (sym e) (text-decides bs)
