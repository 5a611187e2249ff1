-- The facts on which it depends whether a request is accepted, in plain values. Assumes nothing.
use Rattle.std.specs.Prelude.{ℕ, Bool, true, false, not, List, ℤ}
use Rattle.request.specs.Bounds.{Bounds, bounds_of}
use Rattle.grammar.specs.Range.{spans}
use Rattle.grammar.specs.Texts.{bytes_of}
use Rattle.power.specs.declared.loops.Loop.{Loop}
use Rattle.power.specs.declared.loops.Loop.TheVariants.{I, V}
use Rattle.request.specs.declared.circumstances.Access.{Access}
use Rattle.request.specs.declared.circumstances.Access.TheVariants.{User, Admin}
use Rattle.request.specs.declared.circumstances.Circumstances.{Circumstances}
use Rattle.request.specs.declared.circumstances.Control.{Control}
use Rattle.request.specs.declared.circumstances.Control.TheVariants.{Local, Remote}
use Rattle.request.specs.declared.circumstances.Origin.{Origin}
use Rattle.request.specs.declared.circumstances.Origin.TheVariants.{Panel, Socket}

pub record Facts : Type 0 where
  pub origin : Origin
  pub control : Control
  pub access : Access
  pub password : List ℕ
  pub tripped : Bool
  pub on : Bool
  pub loop : Loop
  pub rated : Bounds
  pub limits : Bounds
  pub able : Bool
  pub sensors : ℕ

-- what circumstances are in plain values
abbrev pub facts_of : Circumstances → Facts
facts_of c = record {
  origin = c.origin;
  control = c.control;
  access = c.access;
  password = bytes_of c.password;
  tripped = c.tripped;
  on = c.on;
  loop = c.present;
  rated = bounds_of c.rated;
  limits = bounds_of c.limits;
  able = c.able;
  sensors = c.sensors;
}

abbrev pub is_panel : Origin → Bool
is_panel Panel = true
is_panel Socket = false

abbrev pub is_local : Control → Bool
is_local Local = true
is_local Remote = false

abbrev pub same_origin : Origin → Origin → Bool
same_origin Panel o = is_panel o
same_origin Socket o = not (is_panel o)

abbrev pub same_control : Control → Control → Bool
same_control Local k = is_local k
same_control Remote k = not (is_local k)

abbrev pub is_admin : Access → Bool
is_admin User = false
is_admin Admin = true

abbrev pub same_loop : Loop → Loop → Bool
same_loop I I = true
same_loop I V = false
same_loop V I = false
same_loop V V = true

abbrev pub low_of : Bounds → Loop → ℤ
low_of b I = b.low_i
low_of b V = b.low_v

abbrev pub high_of : Bounds → Loop → ℤ
high_of b I = b.high_i
high_of b V = b.high_v

-- inside the bounds of a loop, ends included
abbrev pub within : Bounds → Loop → ℤ → Bool
within b l v = spans (low_of b l) (high_of b l) v
