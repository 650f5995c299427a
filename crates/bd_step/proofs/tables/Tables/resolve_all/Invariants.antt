use Rattle.bd_step.proofs.Words.{All, IsInside, Space, StandsAt, [], drop, length, made_items, offsets_in, resolve_all, ℕ, ◌≡◌, ◌≤◌}
use Rattle.bd_step.proofs.tables.Tables.resolve_all.Given as goal

abbrev pub invariant-loop-k : goal.invariant-loop-k
invariant-loop-k l = record {
  so_far : (n : ℕ) (s : Space) → StandsAt n l.self s
      → resolve_all s l.p l.parcel.bytes l.parcel.offsets (made_items l.made) l.items.items (drop l.k (offsets_in l.parcel.offsets)) ≡ resolve_all s l.p l.parcel.bytes l.parcel.offsets [] [] (offsets_in l.parcel.offsets);
  few : length (made_items l.made) ≤ l.k;
  inside : All (IsInside l.parcel.bytes) l.items.items;
}
