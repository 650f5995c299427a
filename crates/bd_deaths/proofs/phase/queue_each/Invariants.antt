use Rattle.bd_deaths.proofs.Words.{cond, get, list_any, option_map, queued, slab_len, ℕ, ◌==◌, ◌≡◌}
use Rattle.bd_deaths.proofs.phase.queue_each.Given as goal

abbrev pub invariant-loop-w : goal.invariant-loop-w
invariant-loop-w l = record {
  so_far : (k : ℕ) → get l.slots k ≡ cond (list_any (λ w. w.at == k) l.yielded) (option_map queued (get l.fn.slots k)) (get l.fn.slots k);
  len : slab_len l.slots ≡ slab_len l.fn.slots;
  capacity : l.slots.capacity ≡ l.fn.slots.capacity;
}
