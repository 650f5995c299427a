use Rattle.bd_objects.proofs.Results.{then_err, then_ok}
use Rattle.bd_objects.proofs.table.ObjectTable.referred.Goals as goal

pub returns-clause-pushed : goal.returns-clause-pushed
returns-clause-pushed c = then_ok c.referred.result (λ f s h. f s.objects s.references h.records_are) c.referred.ensures.pushed

pub returns-clause-grown : goal.returns-clause-grown
returns-clause-grown c = then_err c.referred.result (λ f s h. f s.objects s.references h.records_are) c.referred.ensures.grown
