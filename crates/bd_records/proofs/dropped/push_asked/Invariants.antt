use Rattle.bd_records.proofs.Words.{Identity, Some, asks, is_among, named_by, true, ℕ, ◌||◌, ◌≡◌}
use Rattle.bd_records.proofs.Stepping.{IsBefore, still_ahead}
use Rattle.bd_records.proofs.dropped.push_asked.Given as goal

abbrev pub invariant-loop-next : goal.invariant-loop-next
invariant-loop-next l = record {
  kept : (x : Identity) → is_among l.fn.touched.items x ≡ true → is_among l.touched.items x ≡ true;
  put : (m : ℕ) → IsBefore l.next m → (x : Identity) → named_by l.names l.p m ≡ Some x → asks l.names l.p x ≡ true → is_among l.touched.items x ≡ true;
  only : (x : Identity) → is_among l.touched.items x ≡ true → (is_among l.fn.touched.items x || asks l.names l.p x) ≡ true;
}

abbrev pub decreases-loop-next : goal.decreases-loop-next
decreases-loop-next l = still_ahead l.next
