use Rattle.bd_step.proofs.{Words.{arith, fold, refl, take, withdraw_notice}, Deliveries.{todo_more, todo_all, only_works}}
use Rattle.bd_step.proofs.tables.Tables.withdraw_notices.Goals as goal

pub loop-x-preserved : goal.loop-x-preserved
loop-x-preserved c = record {
  stands = λ n s h. todo_more n _ s (withdraw_notice s.objects) c.args.items.now c.loop-x.x-index _ (omega arith)
      (c.withdraw_notice.ensures.stands n (record s { todo = fold (withdraw_notice s.objects) s.todo (take c.loop-x.x-index c.args.items.now) }) (c.loop-x.invariant.stands n s h));
  works = only_works _ _ _ 0 0 0 c.loop-x.invariant.works c.withdraw_notice.ensures.works refl;
  told = λ told k. c.withdraw_notice.ensures.told told (c.loop-x.invariant.told told k);
}

pub returns-clause-stands : goal.returns-clause-stands
returns-clause-stands c = λ n s h. todo_all n _ s (withdraw_notice s.objects) c.args.items.now c.loop-x.x-index (omega arith) (c.loop-x.invariant.stands n s h)
