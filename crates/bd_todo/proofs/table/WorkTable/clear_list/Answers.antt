use Rattle.std.proofs.Common.{ap, ◌∙◌}
use Rattle.std.specs.{Prelude.{is_some}, List.{list_any}}
use Rattle.bd_space.specs.Todo.{is_on}
use Rattle.bd_todo.specs.QueuesStand.{list_of, keeps}
use Rattle.bd_todo.proofs.{Queueing.{kept_stands}, OnList.{none_stays}}
use Rattle.bd_todo.proofs.table.WorkTable.clear_list.Goals as goal

pub returns-clause-stands : goal.returns-clause-stands
returns-clause-stands c = λ l h.
    let w = c.pop_all.ensures.stands l h in
    record { queues_stand = kept_stands c.pop_all.new.self.queues _ _ w.queues_stand (c.give_back.ensures.stands list_of keeps); registered = w.registered }

pub returns-clause-gone : goal.returns-clause-gone
returns-clause-gone c = λ l h.
    let w = (c.pop_all.ensures.stands l h).queues_stand in
    ap is_some (c.give_back.ensures.gone list_of keeps w.rows w.shows (ap (list_any (is_on c.args.list)) w.works_are ∙ none_stays (is_on c.args.list) l))
