use Rattle.std.proofs.Common.{ℕ, ◌/◌, ◌%◌, List, [], ◌∷◌, ◌++◌, length, sym, ap, ◌∙◌, append_assoc, arith, length-append, rules}
use Rattle.grammar.specs.Numerals.{numeral, digit_char}
use Rattle.grammar.specs.Texts.{bytes_of}
use Rattle.grammar.proofs.Radix.{numeral-digit, numeral-step, numeral-longer}
use Rattle.grammar.proofs.digits.+push_digits.Goals as goal

pub push-requires : goal.push-requires
push-requires t c = let r = c.from-radix.ensures in let l = ap length (numeral-digit c.args.base.value c.args.base.least c.args.base.most c.args.n (omega arith)) in omega (arith, c.requires)

pub returns-then-n-radix : goal.returns-then-n-radix
returns-then-n-radix t c =
    let r = c.from-radix.ensures in
    record {
      bytes = c.push.ensures.bytes
          ∙ ap (λ (d : List ℕ). bytes_of c.args.text.now ++ d) (ap (λ x. x ∷ []) c.digit_char.ensures.value ∙ sym (numeral-digit c.args.base.value c.args.base.least c.args.base.most c.args.n (omega arith)));
    }

pub push_digits-requires : goal.push_digits-requires
push_digits-requires t c =
    let r = c.from-radix.ensures in
    let l = numeral-longer c.args.base.value c.args.base.least c.args.base.most c.args.n (omega arith) in
    (search rules, omega (arith, c.requires, ap (λ b. length (numeral c.args.base.value (c.args.n / b))) r))

pub push-requires-2 : goal.push-requires-2
push-requires-2 t c =
    let r = c.from-radix.ensures in
    let l = numeral-longer c.args.base.value c.args.base.least c.args.base.most c.args.n (omega arith) in
    omega (arith, c.requires, ap length c.push_digits.ensures.bytes, length-append (bytes_of c.args.text.now) (numeral c.args.base.value (c.args.n / c.from-radix.result)), ap (λ b. length (numeral c.args.base.value (c.args.n / b))) r)

pub returns : goal.returns
returns t c =
    let r = c.from-radix.ensures in
    record {
      bytes = c.push-2.ensures.bytes ∙ (λ i. (c.push_digits.ensures.bytes ∙ ap (λ b. bytes_of c.args.text.now ++ numeral c.args.base.value (c.args.n / b)) r) i ++ ((c.digit_char-2.ensures.value ∙ ap (λ b. digit_char (c.args.n % b)) r) i ∷ []))
          ∙ append_assoc (bytes_of c.args.text.now) (numeral c.args.base.value (c.args.n / c.args.base.value)) (digit_char (c.args.n % c.args.base.value) ∷ [])
          ∙ ap (λ (d : List ℕ). bytes_of c.args.text.now ++ d) (sym (numeral-step c.args.base.value c.args.base.least c.args.base.most c.args.n (omega arith)));
    }
