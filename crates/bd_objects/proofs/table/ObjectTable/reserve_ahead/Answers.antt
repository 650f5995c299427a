use Rattle.bd_objects.proofs.Words.{StandsFor, subst, sym}
use Rattle.bd_objects.proofs.table.{ObjectTable.{reserve_ahead.{Goals.{then-not-is_within-via-else-not-is_within+then-is_err, then-not-is_within-via-then-not-is_within}}}}
use Rattle.bd_objects.proofs.table.ObjectTable.reserve_ahead.Goals as goal

pub returns-then-not-is_within-clause-stands : goal.returns-then-not-is_within-clause-stands
returns-then-not-is_within-clause-stands c = λ s h. elim c.then-not-is_within.branch [
  | then-not-is_within-via-then-not-is_within w ↦ subst (λ t. StandsFor t s) (sym w.self-is) h
  | then-not-is_within-via-else-not-is_within+then-is_err w ↦ subst (λ t. StandsFor t s) (sym w.self-is) (w.reserve_lists.ensures.stands s h)
]

pub returns-clause-stands : goal.returns-clause-stands
returns-clause-stands c = λ s h.
    let kept = c.reserve_lists.ensures.stands s h in
    record { records_are = kept.records_are; names_are = kept.names_are; deaths_are = kept.deaths_are }
