-- By which command each question is asked. Assumes nothing.
use Rattle.power.specs.declared.loops.Loop.{Loop}
use Rattle.power.specs.declared.loops.Loop.TheVariants.{I, V}
use Rattle.request.specs.declared.commands.Command.{Command}
use Rattle.request.specs.declared.commands.Command.TheVariants.{Loop as LOOP, Mwi, Mwir, Mwv, Mwvr, Msri, Msrv, Password, Mst, Mri, Mrv, Ver, Mrid, Mrg, Mrt}
use Rattle.request.specs.declared.requests.Approach.{Approach}
use Rattle.request.specs.declared.requests.Approach.TheVariants.{AtOnce, Ramp}
use Rattle.request.specs.declared.requests.Question.{Question}
use Rattle.request.specs.declared.requests.Question.TheVariants.{Status, PresentLoop, Target, Rate, Current, Voltage, Version, Identification, Access as Level, Cell as OfCell, Hottest, SensorCount, Sensor}

-- the target of a loop, by the command that sets it with this approach
abbrev pub target_command : Loop → Approach → Command
target_command I AtOnce = Mwi
target_command I Ramp = Mwir
target_command V AtOnce = Mwv
target_command V Ramp = Mwvr

abbrev pub rate_command : Loop → Command
rate_command I = Msri
rate_command V = Msrv

abbrev pub asking : Question → Command
asking Status = Mst
asking PresentLoop = LOOP
asking (Target l a) = target_command l a
asking (Rate l) = rate_command l
asking Current = Mri
asking Voltage = Mrv
asking Version = Ver
asking Identification = Mrid
asking Level = Password
asking (OfCell c) = Mrg
asking Hottest = Mrt
asking SensorCount = Mrt
asking (Sensor n) = Mrt
