use Rattle.std.proofs.Common.{ℕ, ◌^◌, ◌<◌, ◌≤◌, length, ap, arith, length-append}
use Rattle.grammar.specs.Numbers.{sign_text}
use Rattle.grammar.specs.Numerals.{numeral}
use Rattle.grammar.specs.Texts.{bytes_of}
use Rattle.grammar.proofs.Canon.{sign-short}
use Rattle.grammar.proofs.Radix.{numeral-short}
use Rattle.grammar.proofs.numbers.print.print_parts.Goals as goal

whole-few : (n : ℕ) → n < 10 ^ 4 → length (numeral 10 n) ≤ 4
whole-few n h = numeral-short 10 (omega arith) (omega arith) 4 n (omega arith) h

pub push_digits-requires : goal.push_digits-requires
push_digits-requires c =
    let few = whole-few c.args.whole c.requires.0 in
    let l = length-append (bytes_of c.absent-text.result) (sign_text c.args.minus) in
    omega (arith, ap length c.push_sign.ensures.bytes, ap length c.absent-text.ensures.value, sign-short c.args.minus)

pub push_shown-requires : goal.push_shown-requires
push_shown-requires c =
    let few = whole-few c.args.whole c.requires.0 in
    let l = length-append (bytes_of c.absent-text.result) (sign_text c.args.minus) in
    let m = length-append (bytes_of c.push_sign.new.text) (numeral 10 c.args.whole) in
    omega (arith, ap length c.push_digits.ensures.bytes, ap length c.push_sign.ensures.bytes, ap length c.absent-text.ensures.value, sign-short c.args.minus)
