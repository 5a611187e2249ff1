use Rattle.std.proofs.Common.{rules}
use Rattle.request.specs.Requests.{setpoint}
use Rattle.reading.proofs.lines.read_setpoint.Goals as goal

pub returns : goal.returns
returns c = record { cases = c.read_number_or_query.ensures.cases (setpoint c.args.of c.args.approach) (λ q r made. search rules) }
