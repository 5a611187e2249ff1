use Rattle.std.proofs.Common.{ℕ, List, [], ◌∷◌, ◌++◌, sym, ap, ◌∙◌, append_assoc, append-nil}
use Rattle.grammar.specs.Numbers.{places, trimmed, pointed}
use Rattle.grammar.specs.Texts.{bytes_of}
use Rattle.grammar.proofs.Shown.{trim-none, trim-step, trim_end}
use Rattle.grammar.proofs.numbers.print.+push_trimmed.Goals as goal

pub returns-then-k-eq0 : goal.returns-then-k-eq0
returns-then-k-eq0 t c = record {
  bytes = sym (append-nil (bytes_of c.args.text.now))
      ∙ ap (λ (ds : List ℕ). bytes_of c.args.text.now ++ pointed ds) (sym (trim-none c.args.n) ∙ ap (λ k. trimmed k c.args.n) (sym c.if-k-eq0.true));
}

pub returns-then-n-eq0 : goal.returns-then-n-eq0
returns-then-n-eq0 t c = record {
  bytes = c.push_trimmed.ensures.bytes ∙ ap (λ (ds : List ℕ). bytes_of c.args.text.now ++ pointed ds) (trim-step c.args.k c.args.n c.if-k-eq0.false c.if-n-eq0.true);
}

pub returns : goal.returns
returns t c = record {
  bytes = c.push_places.ensures.bytes ∙ ap (λ (d : List ℕ). d ++ places c.args.k c.args.n) c.push.ensures.bytes
      ∙ append_assoc (bytes_of c.args.text.now) (46 ∷ []) (places c.args.k c.args.n)
      ∙ ap (λ (d : List ℕ). bytes_of c.args.text.now ++ d) (trim_end c.args.k c.args.n c.if-k-eq0.false c.if-n-eq0.false);
}
