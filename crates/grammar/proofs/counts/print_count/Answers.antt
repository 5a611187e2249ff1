use Rattle.std.proofs.Common.{ℕ, ◌≤◌, ◌++◌, length, ap, ◌∙◌, arith}
use Rattle.grammar.specs.Numerals.{numeral}
use Rattle.grammar.proofs.Radix.{numeral-short, canonical}
use Rattle.grammar.proofs.counts.print_count.Goals as goal

short : (n : ℕ) → n ≤ 4294967295 → length (numeral 10 n) ≤ 10
short n h = numeral-short 10 (omega arith) (omega arith) 10 n (omega arith) (omega arith)

pub push_digits-requires : goal.push_digits-requires
push_digits-requires c = omega (arith, ap (λ k. length (numeral 10 k)) c.from.ensures, short c.args.n (omega arith), ap length c.absent-text.ensures.value)

pub returns : goal.returns
returns c =
    let value = c.push_digits.ensures.bytes ∙ (λ i. c.absent-text.ensures.value i ++ numeral 10 (c.from.ensures i)) in
    record { value = value; bound = omega (arith, ap length value, short c.args.n (omega arith)); canonical = canonical 10 (omega arith) (omega arith) c.args.n }
