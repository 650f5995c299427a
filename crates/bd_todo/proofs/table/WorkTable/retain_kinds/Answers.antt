use Rattle.std.proofs.Common.{rules, tests}
use Rattle.bd_space.specs.declared.space.Work.{Work}
use Rattle.bd_todo.proofs.table.WorkTable.retain_kinds.Goals as goal

pub returns-clause-stands : goal.returns-clause-stands
returns-clause-stands g c = λ p a l h. c.retain.ensures.stands (λ (w : Work). p w.kind) (λ x b k. search (rules, tests, a)) l h
