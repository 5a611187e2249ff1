use Rattle.std.proofs.Common.{refl}
use Rattle.cells.specs.Directory.{roles}
use Rattle.grammar.specs.Fields.{fields}
use Rattle.grammar.specs.Numerals.{numeral_of}
use Rattle.request.specs.Commands.{command_of}
use Rattle.request.specs.Forms.{is_query, is_num, loop_named, cell_at}
use Rattle.request.specs.Grounds.{refusal}
use Rattle.request.proofs.examples.examples_hold.Goals as goal

pub returns : goal.returns
unfolding refusal fields numeral_of command_of is_query is_num loop_named cell_at roles
returns c = record { value = record { refusals = refl; requests = refl } }
