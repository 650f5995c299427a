use Rattle.std.proofs.Common.{[], refl}
use Rattle.bd_todo.specs.QueuesStand.{list_of, keeps}
use Rattle.bd_todo.proofs.table.WorkTable.new.Goals as goal

pub returns : goal.returns
returns c = record { queues_stand = record { rows = []; shows = c.new-2.ensures c.new.ensures list_of keeps; works_are = refl }; registered = c.new-3.ensures }
