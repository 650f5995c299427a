use Rattle.bd_objects.proofs.Words.{StandsFor, subst, sym}
use Rattle.bd_objects.proofs.table.{ObjectTable.{reserve_names_ahead.{Goals.{then-names-gt-AHEAD-via-else-names-gt-AHEAD+then-is_err, then-names-gt-AHEAD-via-then-names-gt-AHEAD}}}}
use Rattle.bd_objects.proofs.table.ObjectTable.reserve_names_ahead.Goals as goal

pub returns-then-names-gt-AHEAD-clause-stands : goal.returns-then-names-gt-AHEAD-clause-stands
returns-then-names-gt-AHEAD-clause-stands c = λ s h. elim c.then-names-gt-AHEAD.branch [
  | then-names-gt-AHEAD-via-then-names-gt-AHEAD w ↦ subst (λ t. StandsFor t s) (sym w.self-is) (record { records_are = h.records_are; names_are = h.names_are; deaths_are = h.deaths_are })
  | then-names-gt-AHEAD-via-else-names-gt-AHEAD+then-is_err w ↦ subst (λ t. StandsFor t s) (sym w.self-is)
      (record { records_are = w.reserve_names.ensures.stands s.objects s.references h.records_are; names_are = w.reserve_names.ensures.names s.names s.names h.names_are; deaths_are = h.deaths_are })
]

pub returns-clause-stands : goal.returns-clause-stands
returns-clause-stands c = λ s h. record {
  records_are = c.reserve_names.ensures.stands s.objects s.references h.records_are;
  names_are = c.reserve_names.ensures.names s.names s.names h.names_are;
  deaths_are = h.deaths_are;
}
