use Rattle.std.proofs.Common.{◌≡◌, ℕ, ◌≤◌, true, List, ◌++◌, length, drop, vec_items, vec_len, sym, refl, ap, ◌∙◌, subst, arith, length-drop}
use Rattle.std.proofs.lemmas.List.{length-append, with_items_is}
use Rattle.std.proofs.lemmas.Bool.{le-leb, both_ways}
use Rattle.cells.specs.Directory.{kinds}
use Rattle.cells.specs.Kinded.{values_in}
use Rattle.cells.specs.Values.{Value}
use Rattle.image.specs.Image.{encoded, decoded, Means}
use Rattle.image.specs.Format.{decoded-encoded}
use Rattle.image.proofs.Meant.{written-means}
use Rattle.image.proofs.Writing.{image-508}
use Rattle.image.proofs.store.ImageStoreCellStore.save.Goals as goal

pub write_image-requires-clause-space : goal.write_image-requires-clause-space
write_image-requires-clause-space c = omega (arith, image-508 c.args.self.now.working.slots c.args.self.now.working.kinded)

-- the image put in front of the bytes
laid : (last made w enc slice items : List ℕ) → last ≡ made ++ drop (length made) slice → made ≡ w → w ≡ enc → slice ≡ items → last ≡ enc ++ drop (length enc) items
laid last made w enc slice items o b a s = cc

pub returns : goal.returns
returns c =
    let slots = c.args.self.now.working.slots in
    let kind = c.args.self.now.working.kinded in
    let vs : List Value = values_in slots in
    let enc : List ℕ = encoded vs in
    let items : List ℕ = vec_items c.args.self.now.image in
    let last : List ℕ = c.overlay.new.image in
    let short = image-508 slots kind in
    let fits : length enc ≤ vec_len c.args.self.now.image = omega (arith, c.image_len.ensures.value, c.len.ensures, c.if-image_len-len.false) in
    let now-is : last ≡ enc ++ drop (length enc) items = laid last _ _ enc _ items c.overlay.ensures.after c.as_bytes.ensures.value c.write_image.ensures.written c.as_mut_slice.ensures.value in
    let long : length last ≡ vec_len c.args.self.now.image = omega (arith, ap length now-is, length-append enc (drop (length enc) items), length-drop (length enc) items, fits, ap length c.as_mut_slice.ensures.value, c.as_mut_slice.ensures.len) in
    let bytes-are = with_items_is c.args.self.now.image last long ∙ now-is in
    record {
      after = record {
        exactly = sym (le-leb _ _ fits);
        working = refl;
        saved = ap (decoded kinds) bytes-are ∙ decoded-encoded kinds vs (drop (length enc) items) kind (omega (arith, short));
        refused = λ e. absurd (both_ways true e refl);
      };
      bytes = bytes-are;
      back = λ _. subst (λ (x : List ℕ). Means kinds x vs) (sym bytes-are) (written-means vs (drop (length enc) items) kind);
    }
