use Rattle.bd_objects.proofs.Words.{StandsFor, subst, sym}
use Rattle.bd_objects.proofs.table.{ObjectTable.{reserve_names.{Goals.{then-names-eq0-via-else-names-eq0+else-sure+then-reserve_names_ahead, then-names-eq0-via-else-names-eq0+then-sure, then-names-eq0-via-then-names-eq0}}}}
use Rattle.bd_objects.proofs.table.ObjectTable.reserve_names.Goals as goal

pub returns-then-names-eq0-clause-stands : goal.returns-then-names-eq0-clause-stands
returns-then-names-eq0-clause-stands c = λ s h. elim c.then-names-eq0.branch [
  | then-names-eq0-via-then-names-eq0 w ↦ subst (λ t. StandsFor t s) (sym w.self-is) h
  | then-names-eq0-via-else-names-eq0+then-sure w ↦ subst (λ t. StandsFor t s) (sym w.self-is) h
  | then-names-eq0-via-else-names-eq0+else-sure+then-reserve_names_ahead w ↦ subst (λ t. StandsFor t s) (sym w.self-is) (w.reserve_names_ahead.ensures.stands s h)
]

pub returns-clause-stands : goal.returns-clause-stands
returns-clause-stands c = λ s h.
    let was = c.reserve_names_ahead.ensures.stands s h in
    record {
      records_are = c.reserve_names.ensures.stands s.objects s.references was.records_are;
      names_are = c.reserve_names.ensures.names s.names s.names was.names_are;
      deaths_are = was.deaths_are;
    }
