-- What the image store means. Assumes nothing.
use Rattle.std.specs.Prelude.{ℕ, List, length, vec_items, vec_len, nat_le}
use Rattle.cells.specs.Contents.{Contents}
use Rattle.cells.specs.Directory.{kinds}
use Rattle.cells.specs.Kinded.{values_in}
use Rattle.cells.specs.Values.{Value}
use Rattle.image.specs.Image.{encoded, decoded}
use Rattle.image.specs.declared.store.ImageStore.{ImageStore}

abbrev pub working_of : ImageStore → List Value
working_of s = values_in s.working.slots

-- the bytes that the store holds
abbrev pub bytes_in : ImageStore → List ℕ
bytes_in s = vec_items s.image

-- saved is what the bytes mean; able exactly when the working image fits
abbrev pub image_contents : ImageStore → Contents
image_contents s = record { working = working_of s; saved = decoded kinds (bytes_in s); able = nat_le (length (encoded (working_of s))) (vec_len s.image) }
