use Rattle.bd_records.proofs.Words.{KeepsNames, KeepsSettled, List, Object, RecordsAre, Reference, Uses, filter, is_held, is_of_buffer, length, not, ◌+◌, ◌≡◌, ◌≤◌}
use Rattle.bd_records.proofs.records.Records.remove_each.Given as goal

abbrev pub invariant-loop : goal.invariant-loop
invariant-loop l = record {
  uses : Uses l.fn.self l.self 0 0 0;
  names : KeepsNames l.fn.self.names l.self.names;
  settled : KeepsSettled l.fn.self l.self;
  left : (objects : List Object) (l0 : List Reference) → RecordsAre l.fn.self objects l0
      → (mid : List Reference) × RecordsAre l.self objects mid
      × (filter (λ r. not (is_of_buffer l.fn.b r.holder)) mid ≡ filter (λ r. not (is_of_buffer l.fn.b r.holder)) l0)
      × (length (filter is_held mid) + l.counter ≤ length (filter is_held l0));
}
