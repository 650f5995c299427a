use Rattle.bd_records.proofs.Words.{Identity, None, Some, false, number_at, spare, ℕ, ◌==◌, ◌≡◌, ◌≤◌}
use Rattle.bd_records.proofs.Stepping.{IsBefore, still_ahead}
use Rattle.bd_records.specs.NameRows.{object_in}
use Rattle.bd_records.proofs.keys.remove_numbers.Given as goal

abbrev pub invariant-loop-next : goal.invariant-loop-next
invariant-loop-next l = record {
  gone : (m : ℕ) → IsBefore l.next m → (x : Identity) → object_in l.rows l.p m ≡ Some x → number_at l.numbers l.p x ≡ None;
  still : (x : Identity) → number_at l.fn.numbers l.p x ≡ None → number_at l.numbers l.p x ≡ None;
  rest : (q : ℕ) (x : Identity) → (l.p == q) ≡ false → number_at l.numbers q x ≡ number_at l.fn.numbers q x;
  room : spare l.fn.numbers ≤ spare l.numbers;
}

abbrev pub decreases-loop-next : goal.decreases-loop-next
decreases-loop-next l = still_ahead l.next
