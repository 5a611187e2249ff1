use Rattle.std.proofs.Common.{ℕ, ◌+◌, ◌-◌, ◌/◌, ◌%◌, List, [], ◌∷◌, ◌++◌, length, sym, ap, ◌∙◌, append_assoc, arith, length-append}
use Rattle.grammar.specs.Numbers.{places}
use Rattle.grammar.specs.Texts.{bytes_of}
use Rattle.grammar.proofs.Places.{places-length, places-step}
use Rattle.grammar.proofs.numbers.print.+push_places.Goals as goal

pub push-requires : goal.push-requires
push-requires t c =
    omega (arith, places-length (c.args.k - 1) (c.args.n / 10), ap length c.push_places.ensures.bytes, length-append (bytes_of c.args.text.now) (places (c.args.k - 1) (c.args.n / 10)), c.requires)

pub returns : goal.returns
returns t c = record {
  bytes = c.push.ensures.bytes ∙ ap (λ (d : List ℕ). d ++ ((48 + c.args.n % 10) ∷ [])) c.push_places.ensures.bytes
      ∙ append_assoc (bytes_of c.args.text.now) (places (c.args.k - 1) (c.args.n / 10)) ((48 + c.args.n % 10) ∷ [])
      ∙ ap (λ (d : List ℕ). bytes_of c.args.text.now ++ d) (sym (places-step c.args.k c.args.n c.if-k-eq0.false));
}
