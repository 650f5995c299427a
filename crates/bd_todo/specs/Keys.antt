-- The keys of lists.
use Rattle.std.specs.Prelude.{ℕ, Bool}
use Rattle.bd_ways.specs.Words.{TodoList, OfThread, OfProcess}
use Rattle.bd_keys.specs.Numbers.{wide}
use Rattle.bd_todo.specs.{declared.heads.ListKey.{ListKey}, declared.heads.ListKey.TheVariants.{Thread, Process}}
use Rattle.bd_todo.specs.contracts.heads.ListKeyPartialEq.TheImpl as keys

abbrev pub same_key : ListKey → ListKey → Bool
same_key = (keys.ghosts).eq

-- a number of 33 bits, another for each key
abbrev pub spread : ListKey → ℕ
spread (Thread t) = t
spread (Process p) = wide 1 p

abbrev pub list_key : TodoList → ListKey
list_key (OfThread t) = Thread t
list_key (OfProcess p) = Process p
