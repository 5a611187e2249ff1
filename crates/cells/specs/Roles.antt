-- What each cell is for, the kind of its value, and who writes it. Assumes nothing.
use Rattle.std.specs.Prelude.{Bool, true, false}
use Rattle.cells.specs.declared.roles.Kind.{Kind}
use Rattle.cells.specs.declared.roles.Kind.TheVariants.{Number, Mask, Text}
use Rattle.cells.specs.declared.roles.Role.{Role}
use Rattle.cells.specs.declared.roles.Role.TheVariants.{Model, Identification, LowI, HighI, LowV, HighV, RateI, RateV, Password, InterlockEnable, InterlockActivation, Operator}
use Rattle.cells.specs.declared.roles.Writer.{Writer}
use Rattle.cells.specs.declared.roles.Writer.TheVariants.{Nobody, Admin, User}

abbrev pub kind_of : Role → Kind
kind_of Model = Text
kind_of Identification = Text
kind_of LowI = Number
kind_of HighI = Number
kind_of LowV = Number
kind_of HighV = Number
kind_of RateI = Number
kind_of RateV = Number
kind_of Password = Text
kind_of InterlockEnable = Mask
kind_of InterlockActivation = Mask
kind_of Operator = Number

abbrev pub writer_of : Role → Writer
writer_of Model = Nobody
writer_of Identification = Admin
writer_of LowI = Admin
writer_of HighI = Admin
writer_of LowV = Admin
writer_of HighV = Admin
writer_of RateI = User
writer_of RateV = User
writer_of Password = Admin
writer_of InterlockEnable = Admin
writer_of InterlockActivation = Admin
writer_of Operator = User

-- a protected cell is one that ADMIN or nobody writes
abbrev pub protected : Writer → Bool
protected Nobody = true
protected Admin = true
protected User = false
