use Rattle.std.proofs.Common.{rules}
use Rattle.request.specs.Requests.{set_rate}
use Rattle.reading.proofs.lines.read_rate.Goals as goal

pub returns : goal.returns
returns c = record { cases = c.read_number_or_query.ensures.cases (set_rate c.args.of) (λ q r made. search rules) }
