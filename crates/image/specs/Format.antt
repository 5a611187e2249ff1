-- The image format: what is written is read back. Assumes nothing.
use Rattle.std.specs.Prelude.{◌≡◌, ℕ, suc, ◌+◌, ◌*◌, ◌^◌, ◌<◌, ◌≤◌, true, leb, List, [], ◌∷◌, ◌++◌, length, take, drop, ℤ, pos, negsuc, Some, None, Option, FitsSigned, ◌==◌, nat_le, nat_lt, refl}
use Rattle.std.proofs.Common.{ap, ◌∙◌, arith, of_z, to_z}
use Rattle.std.specs.Int.{w64}
use Rattle.std.proofs.lemmas.List.{take_at, drop_at, append_assoc, length-append, length-replicate}
use Rattle.std.proofs.lemmas.Int.{to_z-of_z}
use Rattle.std.proofs.lemmas.Bool.{and_parts, and_from, false≢true, ltb-true, eq-eqb, ne_eqb, le-leb, cond-true, cond-false, cond_both}
use Rattle.cells.specs.Values.{Value, absent, number, mask, text}
use Rattle.cells.specs.Kinded.{fits, kinded}
use Rattle.image.specs.Image.{from16, content, contents, directory, encoded, sized, value_in, after, lawful, parse, or_absent, decoded}
use Rattle.cells.specs.declared.roles.Kind.{Kind}
use Rattle.cells.specs.declared.roles.Kind.TheVariants.{Number, Mask, Text}
use Rattle.image.specs.Bytes.{from16-be16, from32-be32, from64-be64}
use Rattle.cells.specs.Sorts.{kinded-length}

sfits-from : (z : ℤ) → fits Number (number z) ≡ true → FitsSigned w64 z
sfits-from z e = record { sfits = ltb-true _ _ e }

of_z-small : (z : ℤ) → FitsSigned w64 z → of_z w64 z < 2 ^ 64
of_z-small (pos n) f = omega (arith, f.sfits)
of_z-small (negsuc n) f = omega (arith, f.sfits)

pub value-content : (k : Kind) (v : Value) → fits k v ≡ true → value_in k (content v) ≡ v
value-content k absent e = refl
value-content Number (number z) e =
    let f = sfits-from z e in
    ap number (ap (to_z w64) (from64-be64 (of_z w64 z) (of_z-small z f)) ∙ to_z-of_z w64 z f)
value-content Number (mask m) e = absurd (false≢true e)
value-content Number (text bs) e = absurd (false≢true e)
value-content Mask (number z) e = absurd (false≢true e)
value-content Mask (mask m) e = ap mask (from32-be32 m (ltb-true _ _ e))
value-content Mask (text bs) e = absurd (false≢true e)
value-content Text (number z) e = absurd (false≢true e)
value-content Text (mask m) e = absurd (false≢true e)
value-content Text (text []) e = absurd (false≢true e)
value-content Text (text (b ∷ bs)) e = cond-false (length (b ∷ bs) == 0) absent (text (b ∷ bs)) (ne_eqb (length (b ∷ bs)) 0 (λ q. omega arith))

pub sized-content : (k : Kind) (v : Value) → fits k v ≡ true → sized k (length (content v)) ≡ true
sized-content Number absent e = refl
sized-content Mask absent e = refl
sized-content Text absent e = refl
sized-content Number (number z) e = refl
sized-content Number (mask m) e = absurd (false≢true e)
sized-content Number (text bs) e = absurd (false≢true e)
sized-content Mask (number z) e = absurd (false≢true e)
sized-content Mask (mask m) e = refl
sized-content Mask (text bs) e = absurd (false≢true e)
sized-content Text (number z) e = absurd (false≢true e)
sized-content Text (mask m) e = absurd (false≢true e)
sized-content Text (text bs) e = (and_parts (nat_lt 0 (length bs)) (nat_le (length bs) 24) e).1

-- one cell is read
pub parse-step : (k : Kind) (ks : List Kind) (at : ℕ) (ps cs : List ℕ) (n : ℕ) (v : Value) (o : Option (List Value)) → from16 ps 0 ≡ at → from16 ps 2 ≡ n → sized k n ≡ true → n ≤ length cs → value_in k (take n cs) ≡ v → parse ks (at + n) (drop 4 ps) (drop n cs) ≡ o → parse (k ∷ ks) at ps cs ≡ after v o
parse-step k ks at ps cs n v o a e s l hv ho =
    cond-true (lawful k at ps cs) _ _
    (and_from (from16 ps 0 == at) _ (eq-eqb (from16 ps 0) at a)
    (and_from (sized k (from16 ps 2)) (nat_le (from16 ps 2) (length cs)) (ap (sized k) e ∙ s) (le-leb (from16 ps 2) (length cs) (omega (arith, e)))))
    ∙ ap (λ (m : ℕ). after (value_in k (take m cs)) (parse ks (at + m) (drop 4 ps) (drop m cs))) e
    ∙ ap (λ (x : Value). after x (parse ks (at + n) (drop 4 ps) (drop n cs))) hv
    ∙ ap (after v) ho

pub parse-written : (ks : List Kind) (vs : List Value) (at : ℕ) (ps cs : List ℕ) → kinded ks vs ≡ true → at + length (contents vs) < 65536 → parse ks at (directory at vs ++ ps) (contents vs ++ cs) ≡ Some vs
parse-written [] [] at ps cs e l = refl
parse-written [] (v ∷ vs) at ps cs e l = absurd (false≢true e)
parse-written (k ∷ ks) [] at ps cs e l = absurd (false≢true e)
parse-written (k ∷ ks) (v ∷ vs) at ps cs e l =
    let w = and_parts (fits k v) (kinded ks vs) e in
    let n : ℕ = length (content v) in
    let r : List ℕ = contents vs ++ cs in
    let l' : at + (n + length (contents vs)) < 65536 = omega (arith, l, length-append (content v) (contents vs)) in
    let back : (content v ++ contents vs) ++ cs ≡ content v ++ r = append_assoc (content v) (contents vs) cs in
    ap (parse (k ∷ ks) at (directory at (v ∷ vs) ++ ps)) back
    ∙ parse-step k ks at (directory at (v ∷ vs) ++ ps) (content v ++ r) n v (Some vs)
    (from16-be16 at [] (omega arith))
    (from16-be16 n [] (omega arith))
    (sized-content k v w.0)
    (omega (arith, length-append (content v) r))
    (ap (value_in k) (take_at (content v) r n refl) ∙ value-content k v w.0)
    (ap (parse ks (at + n) (directory (at + n) vs ++ ps)) (drop_at (content v) r n refl)
    ∙ parse-written ks vs (at + n) ps cs w.1 (omega arith))

pub directory-length : (at : ℕ) (vs : List Value) → length (directory at vs) ≡ 4 * length vs
directory-length at [] = refl
directory-length at (v ∷ vs) = omega (arith, directory-length (at + length (content v)) vs)

pub encoded-length : (vs : List Value) → length (encoded vs) ≡ 4 * length vs + length (contents vs)
encoded-length vs = omega (arith, length-append (directory (4 * length vs) vs) (contents vs), directory-length (4 * length vs) vs)

-- WHAT IS WRITTEN IS READ BACK
pub decoded-encoded : (ks : List Kind) (vs : List Value) (rest : List ℕ) → kinded ks vs ≡ true → length (encoded vs) < 65536 → decoded ks (encoded vs ++ rest) ≡ vs
unfolding decoded
decoded-encoded ks vs rest e l =
    let n : ℕ = 4 * length vs in
    let d : List ℕ = directory n vs in
    let r : List ℕ = contents vs ++ rest in
    let same : length vs ≡ length ks = kinded-length ks vs e in
    let split : encoded vs ++ rest ≡ d ++ r = append_assoc d (contents vs) rest in
    let long : leb n (length (d ++ r)) ≡ true = le-leb n (length (d ++ r)) (omega (arith, length-append d r, directory-length n vs)) in
    let read : parse ks n (d ++ r) (drop n (d ++ r)) ≡ Some vs = ap (parse ks n (d ++ r)) (drop_at d r n (directory-length n vs)) ∙ parse-written ks vs n r rest e (omega (arith, l, encoded-length vs)) in
    rw (← same) (rw split (cond-true (nat_le n (length (d ++ r))) _ _ long ∙ ap (or_absent (length vs)) read))

abbrev Long : ℕ → Option (List Value) → Type 0
Long n None = Unit {0}
Long n (Some vs) = length vs ≡ n

long_after : (n : ℕ) (v : Value) (o : Option (List Value)) → Long n o → Long (suc n) (after v o)
long_after n v None h = tt
long_after n v (Some vs) h = ap suc h

parse-long : (ks : List Kind) (at : ℕ) (ps cs : List ℕ) → Long (length ks) (parse ks at ps cs)
parse-long [] at ps cs = refl
parse-long (k ∷ ks) at ps cs =
    cond_both (lawful k at ps cs) _ None (Long (length (k ∷ ks)))
    (λ _. long_after (length ks) _ _ (parse-long ks (at + from16 ps 2) (drop 4 ps) (drop (from16 ps 2) cs)))
    (λ _. tt)

or_absent-long : (n : ℕ) (o : Option (List Value)) → Long n o → length (or_absent n o) ≡ n
or_absent-long n None h = length-replicate n absent
or_absent-long n (Some vs) h = h

pub decoded-length : (ks : List Kind) (bytes : List ℕ) → length (decoded ks bytes) ≡ length ks
unfolding decoded
decoded-length ks bytes =
    cond_both (nat_le (4 * length ks) (length bytes)) _ _ (λ (x : List Value). length x ≡ length ks)
    (λ _. or_absent-long (length ks) _ (parse-long ks (4 * length ks) bytes (drop (4 * length ks) bytes)))
    (λ _. length-replicate (length ks) absent)
