use Rattle.std.proofs.Common.{◌≡◌, ◌≤◌, ◌⊎◌, length, get_or, ap, ◌∙◌, rules}
use Rattle.std.proofs.lemmas.List.{take_rest}
use Rattle.grammar.specs.Numerals.{numeral_of}
use Rattle.grammar.proofs.Hexadecimal.{mask_at, mask-exactly}
use Rattle.grammar.proofs.masks.read_mask.Goals as goal

pub returns : goal.returns
returns c =
    let long : 2 ≤ length c.args.text.now = search rules in
    let first : get_or c.args.text.now 0 0 ≡ 48 = search rules in
    let second : (get_or c.args.text.now 1 0 ≡ 120) ⊎ (get_or c.args.text.now 1 0 ≡ 88) = search rules in
    record {
      value = c.read_digits.ensures.value ∙ ap (numeral_of 16 8) (take_rest c.args.text.now 2) ∙ mask_at c.args.text.now long first second;
      exact = mask-exactly c.args.text.now;
    }
