use Rattle.std.proofs.Common.{◌∙◌, sym, ap, subst, IfSome, is_some}
use Rattle.bd_space.specs.Todo.{is_on}
use Rattle.bd_todo.specs.{QueuesStand.{IsFront}, Stands.{WorksAre}}
use Rattle.bd_todo.proofs.{OnList.{no_first}, WorksStand.{front_went}}
use Rattle.bd_todo.proofs.table.WorkTable.pop.Goals as goal

pub returns-in-Some-clause-stands : goal.returns-in-Some-clause-stands
returns-in-Some-clause-stands c = λ l h.
    let s = h.queues_stand in
    front_went c.args.self.now c.remove_at.new.self l c.args.list c.in-Some.x h
    (subst (λ r. IfSome r (IsFront c.args.self.now.queues s.rows c.args.list)) c.in-Some.is (c.front.ensures.some s.rows s.shows)) c.remove_at.ensures.rows

pub returns-in-Some-clause-popped : goal.returns-in-Some-clause-popped
returns-in-Some-clause-popped c = λ l h. sym (ap is_some c.in-Some.is) ∙ c.front.ensures.any l h.queues_stand

pub returns-in-None-clause-stands : goal.returns-in-None-clause-stands
returns-in-None-clause-stands c = λ l h. subst (WorksAre c.args.self.now) (sym (no_first (is_on c.args.list) l (sym (c.front.ensures.any l h.queues_stand) ∙ ap is_some c.in-None.is))) h

pub returns-in-None-clause-popped : goal.returns-in-None-clause-popped
returns-in-None-clause-popped c = λ l h. sym (ap is_some c.in-None.is) ∙ c.front.ensures.any l h.queues_stand
