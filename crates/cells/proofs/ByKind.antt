-- A cell's value depends only on what there is of its kind. Assumes nothing.
use Rattle.std.proofs.Common.{◌≡◌, ℕ, false, ◌&&◌, List, [], ◌∷◌, ℤ, Some, None, Option, sym, refl, ◌∙◌}
use Rattle.std.proofs.lemmas.Bool.{cond-false}
use Rattle.cells.specs.Contents.{number_in, mask_in, text_in}
use Rattle.cells.specs.Roles.{kind_of}
use Rattle.cells.specs.Values.{Value, absent, number, mask, text, is_mask, lawful_mask, lawful_number, lawful_text, lawful, factory, cell_value, spoken}
use Rattle.cells.specs.declared.ratings.Ratings.{Ratings}
use Rattle.cells.specs.declared.roles.Kind.{Kind}
use Rattle.cells.specs.declared.roles.Kind.TheVariants.{Number, Mask, Text}
use Rattle.cells.specs.declared.roles.Role.{Role}
use Rattle.cells.specs.declared.roles.Role.TheVariants.{Model, Identification, LowI, HighI, LowV, HighV, RateI, RateV, Password, InterlockEnable, InterlockActivation, Operator}

-- a number or a mask that was read, as a value
abbrev pub as_number : Option ℤ → Value
as_number None = absent
as_number (Some v) = number v

abbrev pub as_mask : Option ℕ → Value
as_mask None = absent
as_mask (Some m) = mask m

-- an unlawful value counts as the factory value
pub factory-kept : (r : Ratings) (role : Role) (v : Value) → lawful r role v ≡ false → cell_value r role v ≡ factory r role
unfolding cell_value
factory-kept r role v t = cond-false _ _ _ t

-- what is of another kind is unlawful
pub no_number : (r : Ratings) (role : Role) (v : ℤ) → (kind_of role ≡ Number → ⊥) → lawful_number r role v ≡ false
no_number r Model v ne = refl
no_number r Identification v ne = refl
no_number r LowI v ne = absurd (ne refl)
no_number r HighI v ne = absurd (ne refl)
no_number r LowV v ne = absurd (ne refl)
no_number r HighV v ne = absurd (ne refl)
no_number r RateI v ne = absurd (ne refl)
no_number r RateV v ne = absurd (ne refl)
no_number r Password v ne = refl
no_number r InterlockEnable v ne = refl
no_number r InterlockActivation v ne = refl
no_number r Operator v ne = absurd (ne refl)

pub no_text : (role : Role) (bs : List ℕ) → (kind_of role ≡ Text → ⊥) → lawful_text role bs ≡ false
no_text Model bs ne = absurd (ne refl)
no_text Identification bs ne = absurd (ne refl)
no_text LowI bs ne = refl
no_text HighI bs ne = refl
no_text LowV bs ne = refl
no_text HighV bs ne = refl
no_text RateI bs ne = refl
no_text RateV bs ne = refl
no_text Password bs ne = absurd (ne refl)
no_text InterlockEnable bs ne = refl
no_text InterlockActivation bs ne = refl
no_text Operator bs ne = refl

pub no-mask : (k : Kind) (m : ℕ) → (k ≡ Mask → ⊥) → (is_mask k && lawful_mask m) ≡ false
no-mask Number m ne = refl
no-mask Mask m ne = absurd (ne refl)
no-mask Text m ne = refl

pub no_bytes : (role : Role) → lawful_text role [] ≡ false
no_bytes Model = refl
no_bytes Identification = refl
no_bytes LowI = refl
no_bytes HighI = refl
no_bytes LowV = refl
no_bytes HighV = refl
no_bytes RateI = refl
no_bytes RateV = refl
no_bytes Password = refl
no_bytes InterlockEnable = refl
no_bytes InterlockActivation = refl
no_bytes Operator = refl

-- two unlawful values count alike
alike : (r : Ratings) (role : Role) (v w : Value) → lawful r role v ≡ false → lawful r role w ≡ false → cell_value r role v ≡ cell_value r role w
alike r role v w a b = factory-kept r role v a ∙ sym (factory-kept r role w b)

pub by_number : (r : Ratings) (role : Role) (v : Value) → kind_of role ≡ Number → cell_value r role (as_number (number_in v)) ≡ cell_value r role v
by_number r role absent e = refl
by_number r role (number z) e = refl
by_number r role (mask m) e = alike r role absent (mask m) refl (no-mask (kind_of role) m (λ f. cc))
by_number r role (text bs) e = alike r role absent (text bs) refl (no_text role bs (λ f. cc))

pub by_mask : (r : Ratings) (role : Role) (v : Value) → kind_of role ≡ Mask → cell_value r role (as_mask (mask_in v)) ≡ cell_value r role v
by_mask r role absent e = refl
by_mask r role (number z) e = alike r role absent (number z) refl (no_number r role z (λ f. cc))
by_mask r role (mask m) e = refl
by_mask r role (text bs) e = alike r role absent (text bs) refl (no_text role bs (λ f. cc))

pub by-text : (r : Ratings) (role : Role) (v : Value) → kind_of role ≡ Text → cell_value r role (spoken (text_in v)) ≡ cell_value r role v
by-text r role absent e = refl
by-text r role (number z) e = alike r role absent (number z) refl (no_number r role z (λ f. cc))
by-text r role (mask m) e = alike r role absent (mask m) refl (no-mask (kind_of role) m (λ f. cc))
by-text r role (text []) e = alike r role absent (text []) refl (no_bytes role)
by-text r role (text (b ∷ bs)) e = refl
