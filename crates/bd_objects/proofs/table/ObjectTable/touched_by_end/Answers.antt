use Rattle.bd_objects.proofs.Words.{Object, or_left, or_right, ◌==◌}
use Rattle.bd_objects.proofs.{Covering.{any_dropped, has_dropped, only_dropped}, Ending.{all_same, same_all, some_pass}, Results.{on_err, then_err, then_ok}}
use Rattle.bd_objects.proofs.table.ObjectTable.touched_by_end.Goals as goal

pub returns-clause-all : goal.returns-clause-all
returns-clause-all c = then_ok c.dropped_with_process.result
    (λ f s h. has_dropped c.args.p s.objects s.references _ _ _ (same_all _ _ (c.in_ok-owned_by.ensures.pushed s.objects s.references h.records_are)) (f s.objects s.references h.records_are))
    c.dropped_with_process.ensures.all

pub returns-clause-only : goal.returns-clause-only
returns-clause-only c = then_ok c.dropped_with_process.result
    (λ f s h. only_dropped c.args.p s.objects s.references _ _ _ (all_same _ _ (c.in_ok-owned_by.ensures.pushed s.objects s.references h.records_are)) (f s.objects s.references h.records_are))
    c.dropped_with_process.ensures.only

pub returns-in_err-owned_by-clause-grown : goal.returns-in_err-owned_by-clause-grown
returns-in_err-owned_by-clause-grown c = on_err c.from_residual.result
    (λ s h. or_left _ _ (some_pass (λ (x : Object). x.owner == c.args.p) s.objects (c.in_err-owned_by.ensures.grown s.objects s.references h.records_are)))

pub returns-clause-grown : goal.returns-clause-grown
returns-clause-grown c = then_err c.dropped_with_process.result
    (λ f s h. or_right _ _ (any_dropped c.args.p s.objects s.references (f s.objects s.references h.records_are))) c.dropped_with_process.ensures.grown
