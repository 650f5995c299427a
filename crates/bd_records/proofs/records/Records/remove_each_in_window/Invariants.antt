use Rattle.bd_records.proofs.Words.{KeepsNames, KeepsSettled, List, None, Object, RecordsAre, Reference, Uses, filter, is_held, is_in_window, is_of_buffer, length, list_any, list_of, not, true, ℕ, ◌+◌, ◌≡◌, ◌≤◌, ◌⊎◌}
use Rattle.bd_records.proofs.records.Records.remove_each_in_window.Given as goal

abbrev pub invariant-loop : goal.invariant-loop
invariant-loop l = record {
  uses : Uses l.fn.self l.self 0 0 0;
  names : KeepsNames l.fn.self.names l.self.names;
  settled : KeepsSettled l.fn.self l.self;
  left : (objects : List Object) (l0 : List Reference) → RecordsAre l.fn.self objects l0
      → (mid : List Reference) × RecordsAre l.self objects mid
      × (filter (λ r. not (is_in_window l.fn.p r.holder)) mid ≡ filter (λ r. not (is_in_window l.fn.p r.holder)) l0)
      × (length (filter is_held mid) + l.counter ≤ length (filter is_held l0))
      -- a buffer's list has gone, or something lies in it
      × ((b : ℕ) → list_any (λ r. is_of_buffer b r.holder) l0 ≡ true → (list_of l.self.held b ≡ None) ⊎ (list_any (λ r. is_of_buffer b r.holder) mid ≡ true));
}
