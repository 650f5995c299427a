use Rattle.bd_records.proofs.Words.{CountsAre, Identity, List, NameRow, Object, ObjectRow, Option, Reference, is_owner, object_room, option_map, row_at, without_own, ℕ, ◌≡◌, ◌≤◌}
use Rattle.bd_records.proofs.exits.remove_of_each.Given as goal

abbrev pub invariant-loop-o : goal.invariant-loop-o
invariant-loop-o l = record {
  counts : (N : ℕ → Identity → Option NameRow) (xs : List Object) (before : List Reference) → CountsAre (row_at l.fn.objects) N xs before
      → (now : List Reference) × CountsAre (row_at l.objects) N xs now × (without_own l.o-iterator now ≡ without_own l.initial.o-iterator before);
  rows : (o : Identity) → option_map (λ (w : ObjectRow). w.object) (row_at l.objects o) ≡ option_map (λ (w : ObjectRow). w.object) (row_at l.fn.objects o);
  owners : (p : ℕ) (o : Identity) → is_owner p (row_at l.objects o) ≡ is_owner p (row_at l.fn.objects o);
  room : object_room l.fn.objects ≤ object_room l.objects;
}
