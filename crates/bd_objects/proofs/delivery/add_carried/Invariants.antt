use Rattle.bd_objects.proofs.Words.{AreReady, KeepsSettled, List, Name, None, Object, RecordsAre, Reference, Settled, Uses, buffer_references, take, ◌++◌}
use Rattle.bd_objects.proofs.delivery.add_carried.Given as goal

abbrev pub invariant-loop-i : goal.invariant-loop-i
invariant-loop-i l = record {
  so_far : (objects : List Object) (rs : List Reference) (names : List Name) → RecordsAre l.fn.records objects rs → Settled l.fn.records names → AreReady objects names l.q l.items
      → RecordsAre l.records objects (rs ++ buffer_references l.place l.q 0 (take l.i l.items) None);
  names : KeepsSettled l.fn.records l.records;
  room : Uses l.fn.records l.records 0 l.i 0;
}
