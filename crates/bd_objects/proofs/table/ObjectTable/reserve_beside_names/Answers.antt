use Rattle.bd_objects.proofs.Words.{StandsFor, subst, sym}
use Rattle.bd_objects.proofs.table.{ObjectTable.{reserve_beside_names.{Goals.{then-is_within-via-else-is_within+then-reserve_ahead, then-is_within-via-then-is_within}}}}
use Rattle.bd_objects.proofs.table.ObjectTable.reserve_beside_names.Goals as goal

pub returns-then-is_within-clause-stands : goal.returns-then-is_within-clause-stands
returns-then-is_within-clause-stands c = λ s h. elim c.then-is_within.branch [
  | then-is_within-via-then-is_within w ↦ subst (λ t. StandsFor t s) (sym w.self-is) h
  | then-is_within-via-else-is_within+then-reserve_ahead w ↦ subst (λ t. StandsFor t s) (sym w.self-is) (w.reserve_ahead.ensures.stands s h)
]
