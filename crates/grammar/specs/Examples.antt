-- Examples of what is read and printed, as one fact. Assumes nothing.
use Rattle.std.specs.Prelude.{◌≡◌, true, false, [], ◌∷◌, pos, negsuc, Some, None, codes}
use Rattle.grammar.specs.Fields.{fields}
use Rattle.grammar.specs.Masks.{mask_of, printed_mask}
use Rattle.grammar.specs.Numbers.{number_of, printed}
use Rattle.grammar.specs.Numerals.{numeral_of, numeral}
use Rattle.grammar.specs.Texts.{is_text}
use Rattle.grammar.specs.Words.{same_word}

pub record Examples : Type 0 where
  -- numbers
  pub read : number_of (codes "10.5875") ≡ Some (pos 10587500)
  pub read_negative : number_of (codes "-10.5875") ≡ Some (negsuc 10587499)
  pub read_minus_zero : number_of (codes "-0") ≡ Some (pos 0)
  pub read_largest : number_of (codes "9999.999999") ≡ Some (pos 9999999999)
  pub read_zeros : number_of (codes "007.50") ≡ Some (pos 7500000)
  pub print : printed (pos 10587500) ≡ codes "10.5875"
  pub print_zero : printed (pos 0) ≡ codes "0"
  pub print_smallest : printed (negsuc 0) ≡ codes "-0.000001"
  pub five_digits : number_of (codes "10000") ≡ None
  pub seven_decimals : number_of (codes "1.0000001") ≡ None
  pub bare_point : number_of (codes "1.") ≡ None
  pub no_whole : number_of (codes ".5") ≡ None
  pub bare_minus : number_of (codes "-") ≡ None
  pub nothing : number_of [] ≡ None
  pub exponent : number_of (codes "1e3") ≡ None
  pub plus : number_of (codes "+1") ≡ None
  -- masks
  pub read_mask : mask_of (codes "0XfF") ≡ Some 255
  pub nine_digits : mask_of (codes "0x123456789") ≡ None
  pub no_digits : mask_of (codes "0x") ≡ None
  pub print_mask : printed_mask 255 ≡ codes "0xFF"
  pub print_no_bits : printed_mask 0 ≡ codes "0x0"
  -- indices and counts
  pub read_index : numeral_of 10 3 (codes "007") ≡ Some 7
  pub four_digits : numeral_of 10 3 (codes "1000") ≡ None
  pub print_count : numeral 10 120 ≡ codes "120"
  -- words, texts and fields
  pub word : same_word (codes "ps-admin") (codes "PS-ADMIN") ≡ true
  pub high_byte : same_word (0xE4 ∷ []) (0xC4 ∷ []) ≡ false
  pub text : is_text (codes "MB-RACK") ≡ true
  pub text_with_colon : is_text (codes "A:B") ≡ false
  pub empty_line : fields [] ≡ [] ∷ []
  pub empty_field : fields (codes "MON:") ≡ codes "MON" ∷ [] ∷ []
