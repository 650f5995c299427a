use Rattle.bd_objects.proofs.Words.{KeepsSettled, RecordsAre, Space, Uses, handshakes, length, take, ◌*◌, ◌++◌, ◌≡◌, ◌≤◌}
use Rattle.bd_objects.proofs.reading.add_handshakes.Given as goal

abbrev pub invariant-loop-w : goal.invariant-loop-w
invariant-loop-w l = record {
  so_far : (s : Space) → s.steps ≡ l.place → RecordsAre l.fn.records s.objects s.references
      → RecordsAre l.records s.objects (s.references ++ handshakes s 0 (take l.w-index l.taken)) × (l.index ≡ length (handshakes s 0 (take l.w-index l.taken)));
  names : KeepsSettled l.fn.records l.records;
  bound : l.index ≤ 2 * l.w-index;
  room : Uses l.fn.records l.records 0 (2 * l.w-index) 0;
}
