use Rattle.std.proofs.Common.{◌≡◌, None, ap, sym, ◌∙◌, rules}
use Rattle.std.specs.Option.{option_map}
use Rattle.grammar.specs.Numbers.{millionths_of}
use Rattle.grammar.proofs.Exactness.{reads-exactly}
use Rattle.grammar.proofs.Reading.{at_byte, at-end}
use Rattle.grammar.proofs.numbers.read.read_number.Goals as goal

pub returns-in_err-scan : goal.returns-in_err-scan
returns-in_err-scan c =
    let none : c.from_residual.result ≡ None = search rules in
    record {
      value = ap (option_map millionths_of) none ∙ sym (c.in_err-scan.ensures.steps _) ∙ sym (at_byte c.loop-c.scan c.args.text.now c.loop-c.c-index c.loop-c-test.true) ∙ c.loop-c.invariant;
      exact = reads-exactly c.args.text.now;
    }

pub returns : goal.returns
returns c = record {
  value = c.finish.ensures.value ∙ sym (at-end c.loop-c.scan c.args.text.now c.loop-c.c-index c.loop-c-test.false) ∙ c.loop-c.invariant;
  exact = reads-exactly c.args.text.now;
}
