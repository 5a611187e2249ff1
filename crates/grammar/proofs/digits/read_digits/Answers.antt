use Rattle.std.proofs.Common.{◌≡◌, ℕ, None, Option, IfSome, ◌^◌, ◌<◌, ◌≤◌, length, sym, ap, ◌∙◌, subst, arith, rules}
use Rattle.std.specs.Str.Parse.{AllDigits, digits_value}
use Rattle.std.proofs.lemmas.List.{take_all}
use Rattle.grammar.proofs.Radix.{not-read, no_digit, read, room, reads-exactly, one-more}
use Rattle.grammar.proofs.digits.read_digits.Goals as goal

pub returns-then-is_empty : goal.returns-then-is_empty
returns-then-is_empty c = record {
  value = not-read c.args.base.value c.args.most c.args.text.now (λ n r. let some = r.some in let none : length c.args.text.now ≡ 0 = search rules in omega arith);
  bound = tt;
  exact = reads-exactly c.args.base.value c.args.most c.args.text.now;
}

pub returns-then-text-most : goal.returns-then-text-most
returns-then-text-most c = record {
  value = not-read c.args.base.value c.args.most c.args.text.now (λ n r. let few = r.few in omega (arith, c.if-text-most.true));
  bound = tt;
  exact = reads-exactly c.args.base.value c.args.most c.args.text.now;
}

pub overflow_mul-n : goal.overflow_mul-n
overflow_mul-n c = let f = (one-more c.args.text.now c.args.base.least c.loop-c-test.true c.if-text-most.false c.requires c.loop-c.invariant c.in_ok-d.ensures.cases).fits in omega arith

pub overflow_add-n : goal.overflow_add-n
overflow_add-n c = let f = (one-more c.args.text.now c.args.base.least c.loop-c-test.true c.if-text-most.false c.requires c.loop-c.invariant c.in_ok-d.ensures.cases).fits in omega arith

pub returns-in_err-d : goal.returns-in_err-d
returns-in_err-d c =
    let none : c.from_residual.result ≡ None = search rules in
    record {
      value = none ∙ no_digit c.args.base.value c.args.most c.args.text.now c.loop-c.c-index c.loop-c-test.true (λ l. let big = c.in_err-d.ensures.cases in omega arith);
      bound = subst (λ (r : Option ℕ). IfSome r (λ n. n < c.args.base.value ^ c.args.most)) (sym none) tt;
      exact = reads-exactly c.args.base.value c.args.most c.args.text.now;
    }

pub loop-c-preserved : goal.loop-c-preserved
loop-c-preserved c = let s = one-more c.args.text.now c.args.base.least c.loop-c-test.true c.if-text-most.false c.requires c.loop-c.invariant c.in_ok-d.ensures.cases in (s.size, s.digits)

pub returns : goal.returns
returns c =
    let e = take_all c.loop-c.c-index c.args.text.now c.loop-c-test.false in
    let some : 1 ≤ length c.args.text.now = search rules in
    let all : AllDigits c.args.base.value c.args.text.now = subst (AllDigits c.args.base.value) e c.loop-c.invariant.1 in
    let size = c.loop-c.invariant.0 ∙ ap (digits_value c.args.base.value) e in
    record {
      value = sym (read (record { digits = all; some = some; few = c.if-text-most.false; size = size }));
      bound = omega (arith, size, room c.args.base.value c.args.text.now c.args.most (omega (arith, c.args.base.least)) all c.if-text-most.false);
      exact = reads-exactly c.args.base.value c.args.most c.args.text.now;
    }
