-- The bytes mean what they begin with. Assumes nothing.
use Rattle.std.proofs.Common.{◌≡◌, ℕ, ◌+◌, ◌*◌, ◌<◌, true, leb, List, ◌++◌, length, drop, replicate, Some, None, Option, sym, refl, ap, ◌∙◌, subst, arith}
use Rattle.std.proofs.lemmas.List.{append_assoc, get_or-drop}
use Rattle.std.proofs.lemmas.Bool.{cond_both, leb-true}
use Rattle.cells.specs.Values.{Value, absent}
use Rattle.cells.specs.Kinded.{kinded}
use Rattle.cells.specs.Directory.{kinds}
use Rattle.image.specs.Image.{contents, directory, encoded, parse, or_absent, decoded, ImageOf, Means}
use Rattle.cells.specs.declared.roles.Kind.{Kind}
use Rattle.cells.specs.Sorts.{kinded-length, kinds-39}
use Rattle.image.specs.Format.{encoded-length, decoded-encoded}
use Rattle.image.proofs.Writing.{most, most-352, at_most}
use Rattle.image.proofs.Sound.{Bytes, Told, parse-sound}

none_read : (ks : List Kind) (bytes : List ℕ) (o : Option (List Value)) → Told ks (4 * length ks) bytes (drop (4 * length ks) bytes) o → ((ws : List Value) → ImageOf ks bytes ws → ⊥) → or_absent (length ks) o ≡ replicate (length ks) absent
none_read ks bytes None t never = refl
none_read ks bytes (Some vs) t never =
    let n : ℕ = 4 * length ks in
    let m : n ≡ 4 * length vs = ap (λ (j : ℕ). 4 * j) (sym (kinded-length ks vs t.kind)) in
    let e : bytes ≡ encoded vs ++ t.rest =
    t.pairs ∙ ap (λ (x : List ℕ). directory n vs ++ x) t.body
    ∙ sym (append_assoc (directory n vs) (contents vs) t.rest)
    ∙ ap (λ (j : ℕ). (directory j vs ++ contents vs) ++ t.rest) m in
    absurd (never vs (record { kind = t.kind; rest = t.rest; starts = e }))

pub decoded-means : (ks : List Kind) (bytes : List ℕ) → Bytes bytes → 4 * length ks + most ks < 65536 → Means ks bytes (decoded ks bytes)
unfolding decoded
decoded-means ks bytes p l =
    record {
      is = λ ws im. ap (decoded ks) im.starts ∙ decoded-encoded ks ws im.rest im.kind (omega (arith, l, encoded-length ws, at_most ks ws im.kind, kinded-length ks ws im.kind));
      none = λ never.
          cond_both (leb (4 * length ks) (length bytes)) (or_absent (length ks) (parse ks (4 * length ks) bytes (drop (4 * length ks) bytes))) (replicate (length ks) absent) (λ (x : List Value). x ≡ replicate (length ks) absent)
          (λ le. none_read ks bytes (parse ks (4 * length ks) bytes (drop (4 * length ks) bytes))
          (parse-sound ks (4 * length ks) bytes (drop (4 * length ks) bytes) p (λ i. subst (λ (x : ℕ). x < 256) (sym (get_or-drop (4 * length ks) bytes i 0)) (p (4 * length ks + i))) (leb-true _ _ le)) never)
          (λ _. refl);
    }

pub cells-mean : (bytes : List ℕ) → Bytes bytes → Means kinds bytes (decoded kinds bytes)
cells-mean bytes p = decoded-means kinds bytes p (omega (arith, kinds-39, most-352))

short-image : (ws : List Value) → kinded kinds ws ≡ true → length (encoded ws) < 65536
short-image ws e = omega (arith, kinds-39, most-352, encoded-length ws, at_most kinds ws e, kinded-length kinds ws e)

-- bytes that begin with an image mean its cells
pub written-means : (vs : List Value) (rest : List ℕ) → kinded kinds vs ≡ true → Means kinds (encoded vs ++ rest) vs
written-means vs rest e =
    record {
      is = λ ws im. sym (decoded-encoded kinds vs rest e (short-image vs e)) ∙ ap (decoded kinds) im.starts ∙ decoded-encoded kinds ws im.rest im.kind (short-image ws im.kind);
      none = λ never. absurd (never vs (record { kind = e; rest = rest; starts = refl }));
    }
