use Rattle.bd_driver.proofs.Words.{IsTrue, false, slice_index_or, slots_filled, slots_len, ℕ, ◌<◌, ◌≡◌, ◌≤◌}
use Rattle.bd_driver.proofs.closing.drain.Given as goal

abbrev pub invariant-loop-at : goal.invariant-loop-at
invariant-loop-at l = record {
  len : slots_len l.closed.slots ≡ slots_len l.initial.closed.slots;
  done : (k : ℕ) → k < l.at → slice_index_or (slots_filled l.closed.slots) k false ≡ false;
  left : (k : ℕ) → l.at ≤ k → k < slots_len l.closed.slots → IsTrue (slice_index_or (slots_filled l.closed.slots) k false);
}
