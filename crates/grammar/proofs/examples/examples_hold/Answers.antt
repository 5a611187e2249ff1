use Rattle.std.proofs.Common.{refl}
use Rattle.grammar.specs.Fields.{fields}
use Rattle.grammar.specs.Numbers.{trimmed, shown}
use Rattle.grammar.specs.Numerals.{numeral_of, numeral}
use Rattle.grammar.proofs.examples.examples_hold.Goals as goal

pub returns : goal.returns
unfolding fields trimmed shown numeral_of numeral
returns c = record {
  value = record {
    read = refl;
    read_negative = refl;
    read_minus_zero = refl;
    read_largest = refl;
    read_zeros = refl;
    print = refl;
    print_zero = refl;
    print_smallest = refl;
    five_digits = refl;
    seven_decimals = refl;
    bare_point = refl;
    no_whole = refl;
    bare_minus = refl;
    nothing = refl;
    exponent = refl;
    plus = refl;
    read_mask = refl;
    nine_digits = refl;
    no_digits = refl;
    print_mask = refl;
    print_no_bits = refl;
    read_index = refl;
    four_digits = refl;
    print_count = refl;
    word = refl;
    high_byte = refl;
    text = refl;
    text_with_colon = refl;
    empty_line = refl;
    empty_field = refl;
  };
}
