use Rattle.std.proofs.Common.{refl, ap, length, arith}
use Rattle.bd_todo.specs.QueuesStand.{list_of, keeps}
use Rattle.bd_todo.proofs.{Queueing.{pushed_stands}, Rows.{works_length}, WorksStand.{works_pushed}}
use Rattle.bd_todo.proofs.table.WorkTable.push.Goals as goal

pub returns-clause-stands : goal.returns-clause-stands
returns-clause-stands c = λ l h.
    let s = h.queues_stand in
    let few = c.push-slot.ensures.few list_of keeps s.rows s.shows in
    let n = works_length s.rows in
    let same = ap length s.works_are in
    works_pushed c.args.self.now _ c.args.place c.index_at-index.result c.args.list c.args.kind l h (c.index_at-index.ensures l h)
    (pushed_stands c.args.self.now.queues c.push-slot.new.self l _ c.push-slot.result c.keeps_from_calling.result s (λ rs k. c.push-slot.ensures.stands list_of keeps rs refl c.keeps_from_calling.ensures k))
    (omega (arith, few, n, same)) c.add.ensures.stands
