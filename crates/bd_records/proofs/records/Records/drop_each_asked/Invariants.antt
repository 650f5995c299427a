use Rattle.bd_records.proofs.Words.{Identity, KeepsSettled, List, Object, RecordsAre, Reference, Some, Uses, false, list_any, named_by, ℕ, ◌≡◌}
use Rattle.bd_records.proofs.{AskedFor.{others_than}, Forgetting.{asked_to}, Stepping.{IsBefore, still_ahead}}
use Rattle.bd_records.proofs.records.Records.drop_each_asked.Given as goal

abbrev pub invariant-loop-next : goal.invariant-loop-next
invariant-loop-next l = record {
  going : (objects : List Object) (before : List Reference) → RecordsAre l.fn.self objects before
      → (mid : List Reference) × RecordsAre l.self objects mid × (others_than l.fn.p mid ≡ others_than l.fn.p before)
      × ((m : ℕ) → IsBefore l.next m → (o : Identity) → named_by l.self.names l.fn.p m ≡ Some o → list_any (asked_to l.fn.p o) mid ≡ false);
  settled : KeepsSettled l.fn.self l.self;
  uses : Uses l.fn.self l.self 0 0 0;
}

abbrev pub decreases-loop-next : goal.decreases-loop-next
decreases-loop-next l = still_ahead l.next
