use Rattle.grammar.proofs.Reading.{longest, longest-all}
use Rattle.grammar.proofs.numbers.read.number_prefix.Goals as goal

pub returns-in_default : goal.returns-in_default
returns-in_default c = record { value = longest c.loop-i.scan c.args.text.now c.loop-i.i c.loop-i-test.true c.loop-i.invariant c.in_default.ensures.steps }

pub returns : goal.returns
returns c = record { value = longest-all c.loop-i.scan c.args.text.now c.loop-i.i c.loop-i-test.false c.loop-i.invariant }
