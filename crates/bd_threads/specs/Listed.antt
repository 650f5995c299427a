-- What a table of threads stands for: the list of the live threads of a space.
use Rattle.std.specs.Prelude.{List}
use Rattle.bd_space.specs.declared.space.Thread.{Thread}
use Rattle.bd_threads.specs.{Rows.{live}, declared.table.ThreadTable.{ThreadTable}}

abbrev pub listed : ThreadTable → List Thread
listed t = live t.rows.items
