use Rattle.bd_todo.specs.QueuesStand.{list_of, keeps}
use Rattle.bd_todo.proofs.Queueing.{kept_stands}
use Rattle.bd_todo.proofs.table.WorkTable.reserve.Goals as goal

pub returns-clause-stands : goal.returns-clause-stands
returns-clause-stands c = λ l h. record { queues_stand = kept_stands c.args.self.now.queues _ l h.queues_stand (c.reserve.ensures.stands list_of keeps); registered = c.reserve-2.ensures.stands l h.registered }

pub returns-in_err-reserve-clause-stands : goal.returns-in_err-reserve-clause-stands
returns-in_err-reserve-clause-stands c = λ l h. record { queues_stand = kept_stands c.args.self.now.queues _ l h.queues_stand (c.reserve.ensures.stands list_of keeps); registered = h.registered }
