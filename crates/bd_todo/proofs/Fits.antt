-- The room of a table is a number of the machine.
use Rattle.std.proofs.{Common.{◌<◌, ◌^◌, min, arith}, Math.Nat.{min-le_right}}
use Rattle.bd_todo.specs.{declared.table.WorkTable.{WorkTable}, QueuesStand.{queue_room}, Registered.{register_room}, Stands.{work_room}}

pub room_fits : (t : WorkTable) → work_room t < 2 ^ 64
unfolding work_room
room_fits t = omega (arith, min-le_right (min (queue_room t.queues) (register_room t.register)) 18446744073709551615)
