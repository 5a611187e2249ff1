-- A supply's meaning: what it is told, and the readings of its plant. Assumes nothing.
use Rattle.std.specs.Prelude.{false, pos}
use Rattle.power.specs.Meaning.{Readings, Meaning}
use Rattle.power.specs.Rated.{standard_ratings}
use Rattle.power.specs.declared.loops.Loop.TheVariants.{I}
use Rattle.power.specs.declared.setting.Setting.{Setting}
use Rattle.power.specs.declared.supply.Supply.{Supply}

-- the meaning of a supply with this setting and these readings
abbrev pub at : Setting → Readings → Meaning
at s r = record { on = s.on; loop = s.chosen; demand = s.demand.millionths; readings = r; ratings = standard_ratings }

-- off, loop I, demand 0
abbrev pub start : Readings → Meaning
start r = record { on = false; loop = I; demand = pos 0; readings = r; ratings = standard_ratings }

-- the meaning of a supply, by the readings of its plant
abbrev pub supply_meaning : {P : Type 0} → (P → Readings) → Supply P → Meaning
supply_meaning readings s = at s.setting (readings s.plant)
