-- What the table store means. Assumes nothing.
use Rattle.std.specs.Prelude.{true, replicate}
use Rattle.cells.specs.Contents.{Contents}
use Rattle.cells.specs.Directory.{cell_count}
use Rattle.cells.specs.Kinded.{values_in}
use Rattle.cells.specs.Values.{absent}
use Rattle.cells.specs.declared.table.TableStore.{TableStore}

-- always able
abbrev pub table_contents : TableStore → Contents
table_contents s = record { working = values_in s.working.slots; saved = values_in s.saved.slots; able = true }

-- every value absent
abbrev pub table_start : Contents
table_start = record { working = replicate cell_count absent; saved = replicate cell_count absent; able = true }
