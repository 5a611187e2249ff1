-- What is read was written. Assumes nothing.
use Rattle.std.proofs.Common.{◌≡◌, ℕ, suc, ◌+◌, ◌*◌, ◌^◌, ◌<◌, ◌≤◌, true, ◌&&◌, eqb, ltb, leb, List, [], ◌∷◌, ◌++◌, length, get_or, take, drop, Some, None, Option, sym, refl, ap, ◌∙◌, subst, inl, inr, arith, w64, to_z}
use lib.Signed.{mag}
use mir.Facts.{sfits_to_z}
use Rattle.std.proofs.lemmas.List.{take-append-drop, length-take-le, append_assoc, nil_from_length, get_or-take, get_or-drop, get_or_past}
use Rattle.std.proofs.lemmas.Int.{of_z-to_z}
use Rattle.std.proofs.lemmas.Bool.{and_parts, and_from, or_cases, leb-true, eqb-true, lt-ltb, cond-false, cond_both, ne_eqb, cases_lt}
use Rattle.cells.specs.Values.{Value, absent, text}
use Rattle.cells.specs.Kinded.{fits, kinded}
use Rattle.image.specs.Image.{be16, be64, from32, from64, content, contents, directory, sized, value_in, after, lawful, parse}
use Rattle.cells.specs.declared.roles.Kind.{Kind}
use Rattle.cells.specs.declared.roles.Kind.TheVariants.{Number, Mask, Text}
use Rattle.image.specs.Bytes.{be16-from16, be32-from32, be64-from64, from64-small, from32-small}

abbrev pub Bytes : List ℕ → Type 0
Bytes bs = (i : ℕ) → get_or bs i 0 < 256

abbrev Back : Kind → List ℕ → Type 0
Back k t = (content (value_in k t) ≡ t) × (fits k (value_in k t) ≡ true)

eight : (t : List ℕ) → length t ≡ 8 → t ≡ get_or t 0 0 ∷ get_or t 1 0 ∷ get_or t 2 0 ∷ get_or t 3 0 ∷ get_or t 4 0 ∷ get_or t 5 0 ∷ get_or t 6 0 ∷ get_or t 7 0 ∷ []
eight [] e = absurd (omega arith)
eight (a ∷ []) e = absurd (omega arith)
eight (a ∷ b ∷ []) e = absurd (omega arith)
eight (a ∷ b ∷ c ∷ []) e = absurd (omega arith)
eight (a ∷ b ∷ c ∷ d ∷ []) e = absurd (omega arith)
eight (a ∷ b ∷ c ∷ d ∷ f ∷ []) e = absurd (omega arith)
eight (a ∷ b ∷ c ∷ d ∷ f ∷ g ∷ []) e = absurd (omega arith)
eight (a ∷ b ∷ c ∷ d ∷ f ∷ g ∷ h ∷ []) e = absurd (omega arith)
eight (a ∷ b ∷ c ∷ d ∷ f ∷ g ∷ h ∷ i ∷ []) e = refl
eight (a ∷ b ∷ c ∷ d ∷ f ∷ g ∷ h ∷ i ∷ j ∷ t) e = absurd (omega arith)

four : (t : List ℕ) → length t ≡ 4 → t ≡ get_or t 0 0 ∷ get_or t 1 0 ∷ get_or t 2 0 ∷ get_or t 3 0 ∷ []
four [] e = absurd (omega arith)
four (a ∷ []) e = absurd (omega arith)
four (a ∷ b ∷ []) e = absurd (omega arith)
four (a ∷ b ∷ c ∷ []) e = absurd (omega arith)
four (a ∷ b ∷ c ∷ d ∷ []) e = refl
four (a ∷ b ∷ c ∷ d ∷ f ∷ t) e = absurd (omega arith)

back-number : (a b c d e f g h : ℕ) → a < 256 → b < 256 → c < 256 → d < 256 → e < 256 → f < 256 → g < 256 → h < 256 → Back Number (a ∷ b ∷ c ∷ d ∷ e ∷ f ∷ g ∷ h ∷ [])
back-number a b c d e f g h la lb lc ld le lf lg lh =
    let n : ℕ = from64 (a ∷ b ∷ c ∷ d ∷ e ∷ f ∷ g ∷ h ∷ []) in
    let s : n < 2 ^ 64 = from64-small a b c d e f g h la lb lc ld le lf lg lh in
    (ap be64 (of_z-to_z w64 n s) ∙ be64-from64 a b c d e f g h la lb lc ld le lf lg lh, lt-ltb (mag (to_z w64 n)) (2 ^ 63) (sfits_to_z {w = w64} {n = n} (record { fits = s })).sfits)

back-mask : (a b c d : ℕ) → a < 256 → b < 256 → c < 256 → d < 256 → Back Mask (a ∷ b ∷ c ∷ d ∷ [])
back-mask a b c d la lb lc ld =
    (be32-from32 a b c d la lb lc ld, lt-ltb (from32 (a ∷ b ∷ c ∷ d ∷ [])) (2 ^ 32) (from32-small a b c d la lb lc ld))

pub back : (k : Kind) (t : List ℕ) → Bytes t → sized k (length t) ≡ true → Back k t
back Number t p e =
    elim (or_cases (eqb (length t) 0) (eqb (length t) 8) e) [
      | inl z ↦ subst (Back Number) (sym (nil_from_length t (eqb-true _ _ z))) (refl, refl)
      | inr z ↦ subst (Back Number) (sym (eight t (eqb-true _ _ z))) (back-number _ _ _ _ _ _ _ _ (p 0) (p 1) (p 2) (p 3) (p 4) (p 5) (p 6) (p 7))
    ]
back Mask t p e =
    elim (or_cases (eqb (length t) 0) (eqb (length t) 4) e) [
      | inl z ↦ subst (Back Mask) (sym (nil_from_length t (eqb-true _ _ z))) (refl, refl)
      | inr z ↦ subst (Back Mask) (sym (four t (eqb-true _ _ z))) (back-mask _ _ _ _ (p 0) (p 1) (p 2) (p 3))
    ]
back Text [] p e = (refl, refl)
back Text (b ∷ bs) p e =
    let v : value_in Text (b ∷ bs) ≡ text (b ∷ bs) = cond-false (eqb (length (b ∷ bs)) 0) absent (text (b ∷ bs)) (ne_eqb (length (b ∷ bs)) 0 (λ q. omega arith)) in
    (ap content v, ap (fits Text) v ∙ and_from (ltb 0 (length (b ∷ bs))) (leb (length (b ∷ bs)) 24) (lt-ltb 0 (length (b ∷ bs)) (omega arith)) e)

-- what a successful reading tells
pub record Read (ks : List Kind) (at : ℕ) (ps cs : List ℕ) (vs : List Value) : Type 0 where
  pub kind : kinded ks vs ≡ true
  pub pairs : ps ≡ directory at vs ++ drop (4 * length ks) ps
  pub rest : List ℕ
  pub body : cs ≡ contents vs ++ rest

abbrev pub Told : List Kind → ℕ → List ℕ → List ℕ → Option (List Value) → Type 0
Told ks at ps cs None = Unit {0}
Told ks at ps cs (Some vs) = Read ks at ps cs vs

module _ (k : Kind) (ks : List Kind) (at : ℕ) (a b c d : ℕ) (ps cs : List ℕ) (la : a < 256) (lb : b < 256) (lc : c < 256) (ld : d < 256) (pc : Bytes cs) (ok : lawful k at (a ∷ b ∷ c ∷ d ∷ ps) cs ≡ true) where
  told-step : (o : Option (List Value)) → Told ks (at + (c * 256 + d)) ps (drop (c * 256 + d) cs) o → Told (k ∷ ks) at (a ∷ b ∷ c ∷ d ∷ ps) cs (after (value_in k (take (c * 256 + d) cs)) o)
  told-step None r = tt
  told-step (Some ws) r =
      let n : ℕ = c * 256 + d in
      let w = and_parts (eqb (a * 256 + b) at) (sized k n && leb n (length cs)) ok in
      let u = and_parts (sized k n) (leb n (length cs)) w.1 in
      let l : n ≤ length cs = leb-true n (length cs) u.1 in
      let t : List ℕ = take n cs in
      let tn : length t ≡ n = length-take-le n cs l in
      let v : Value = value_in k t in
      let f = back k t (λ i. elim (cases_lt i n) [ inl h ↦ subst (λ (x : ℕ). x < 256) (sym (get_or-take n cs i 0 h)) (pc i) | inr h ↦ subst (λ (x : ℕ). x < 256) (sym (get_or_past t i 0 (omega (arith, tn, h)))) (omega arith) ]) (ap (sized k) tn ∙ u.0) in
      let cn : length (content v) ≡ n = ap length f.0 ∙ tn in
      let e1 : a ∷ b ∷ [] ≡ be16 at = sym (be16-from16 a b la lb) ∙ ap be16 (eqb-true (a * 256 + b) at w.0) in
      let e2 : c ∷ d ∷ [] ≡ be16 (length (content v)) = sym (be16-from16 c d lc ld) ∙ ap be16 (sym cn) in
      let m : 4 * length (k ∷ ks) ≡ suc (suc (suc (suc (4 * length ks)))) = omega arith in
      record {
        kind = and_from (fits k v) (kinded ks ws) f.1 r.kind;
        pairs =
            ap (λ (x : List ℕ). a ∷ b ∷ c ∷ d ∷ x) r.pairs
            ∙ ap (λ (x : List ℕ). x ++ (c ∷ d ∷ (directory (at + n) ws ++ drop (4 * length ks) ps))) e1
            ∙ ap (λ (x : List ℕ). be16 at ++ (x ++ (directory (at + n) ws ++ drop (4 * length ks) ps))) e2
            ∙ ap (λ (j : ℕ). be16 at ++ (be16 (length (content v)) ++ (directory (at + j) ws ++ drop (4 * length ks) ps))) (sym cn)
            ∙ ap (λ (j : ℕ). directory at (v ∷ ws) ++ drop j (a ∷ b ∷ c ∷ d ∷ ps)) (sym m);
        rest = r.rest;
        body =
            sym (take-append-drop n cs)
            ∙ ap (λ (x : List ℕ). x ++ drop n cs) (sym f.0)
            ∙ ap (λ (x : List ℕ). content v ++ x) r.body
            ∙ sym (append_assoc (content v) (contents ws) r.rest);
      }

pub parse-sound : (ks : List Kind) (at : ℕ) (ps cs : List ℕ) → Bytes ps → Bytes cs → 4 * length ks ≤ length ps → Told ks at ps cs (parse ks at ps cs)
parse-sound [] at ps cs pp pc l = record { kind = refl; pairs = refl; rest = cs; body = refl }
parse-sound (k ∷ ks) at [] cs pp pc l = absurd (omega arith)
parse-sound (k ∷ ks) at (a ∷ []) cs pp pc l = absurd (omega arith)
parse-sound (k ∷ ks) at (a ∷ b ∷ []) cs pp pc l = absurd (omega arith)
parse-sound (k ∷ ks) at (a ∷ b ∷ c ∷ []) cs pp pc l = absurd (omega arith)
parse-sound (k ∷ ks) at (a ∷ b ∷ c ∷ d ∷ ps) cs pp pc l =
    let n : ℕ = c * 256 + d in
    cond_both (lawful k at (a ∷ b ∷ c ∷ d ∷ ps) cs) (after (value_in k (take n cs)) (parse ks (at + n) ps (drop n cs))) None (Told (k ∷ ks) at (a ∷ b ∷ c ∷ d ∷ ps) cs)
    (λ ok. told-step k ks at a b c d ps cs (pp 0) (pp 1) (pp 2) (pp 3) pc ok (parse ks (at + n) ps (drop n cs))
    (parse-sound ks (at + n) ps (drop n cs) (λ i. pp (suc (suc (suc (suc i))))) (λ i. subst (λ (x : ℕ). x < 256) (sym (get_or-drop n cs i 0)) (pc (n + i))) (omega arith)))
    (λ _. tt)
