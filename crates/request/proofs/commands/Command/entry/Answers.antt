use Rattle.std.proofs.Common.{rules, tests, ◌∙◌}
use Rattle.std.proofs.lemmas.Iterator.{YieldsList-from_slice}
use Rattle.std.proofs.lemmas.Iterator.Search.{find_from_yields_List}
use Rattle.grammar.specs.Words.{same_word}
use Rattle.request.specs.Commands.{name_of, commands, command_of}
use Rattle.request.proofs.Lookup.{find-named}
use Rattle.request.proofs.commands.Command.entry.Goals as goal

pub returns : goal.returns
unfolding command_of
returns c =
    record {
      value = find_from_yields_List (λ d. same_word c.args.word.now (name_of d)) _ _ _ c.find.ensures.ran (YieldsList-from_slice commands c.iter.ensures.rest) (λ x b q k. search (rules, tests))
          ∙ find-named c.args.word.now commands;
    }
