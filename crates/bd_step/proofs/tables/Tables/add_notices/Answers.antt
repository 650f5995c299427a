use Rattle.bd_step.proofs.{Words.{add_notice, arith, fold, refl, take}, Deliveries.{todo_more, todo_all, only_works}}
use Rattle.bd_step.proofs.tables.Tables.add_notices.Goals as goal

pub loop-x-preserved : goal.loop-x-preserved
loop-x-preserved c = record {
  stands = λ n s h. todo_more n _ s (add_notice s c.args.seat) c.args.items.now c.loop-x.x-index _ (omega arith)
      (c.add_notice.ensures.stands n (record s { todo = fold (add_notice s c.args.seat) s.todo (take c.loop-x.x-index c.args.items.now) }) (c.loop-x.invariant.stands n s h));
  works = only_works _ _ _ c.loop-x.x-index 1 _ c.loop-x.invariant.works c.add_notice.ensures.works refl;
  told = λ told k. c.add_notice.ensures.told told (c.loop-x.invariant.told told k);
}

pub returns-clause-stands : goal.returns-clause-stands
returns-clause-stands c = λ n s h. todo_all n _ s (add_notice s c.args.seat) c.args.items.now c.loop-x.x-index (omega arith) (c.loop-x.invariant.stands n s h)
