use Rattle.std.proofs.Common.{◌∙◌, sym, subst, IfSome}
use Rattle.bd_space.specs.{declared.space.Work.{Work}, Words.{same_origin}, Todo.{is_item, is_on}}
use Rattle.bd_todo.specs.{Registered.{Registered}, QueuesStand.{IsFront, work_at}}
use Rattle.bd_todo.proofs.{Fronts.{both_so}, WorksStand.{only_goes}}
use Rattle.bd_todo.proofs.table.WorkTable.remove_item.Goals as goal

pub returns-in-Some-clause-stands : goal.returns-in-Some-clause-stands
unfolding Registered
returns-in-Some-clause-stands c = λ l h.
    let t = c.args.self.now in
    let d = c.args.item.now in
    let s = h.queues_stand in
    let front = subst (λ r. IfSome r (IsFront t.queues s.rows d.list)) c.in-Some.is (c.front.ensures.some s.rows s.shows) in
    let called = both_so (λ (w : Work). same_origin w.id d.id) (is_on d.list) (work_at t.queues c.in-Some.x) (sym c.is_called_at.ensures ∙ c.if-is_called_at.true) front.on_it in
    only_goes t c.remove_at.new.self (λ (w : Work). is_item w d) l c.in-Some.x h called (h.registered.one_each c.if-self.true d) c.remove_at.ensures.rows
