use Rattle.bd_objects.proofs.Words.{KeepsSettled, List, Object, RecordsAre, Reference, Uses, changed, is_told_by, take, told_of}
use Rattle.bd_objects.proofs.reading.tell_owners.Given as goal

abbrev pub invariant-loop-w : goal.invariant-loop-w
invariant-loop-w l = record {
  so_far : (objects : List Object) (rs : List Reference) → RecordsAre l.fn.records objects rs
      → RecordsAre l.records (changed (λ x. is_told_by (take l.w-index l.taken) x.id) (told_of rs) objects) rs;
  names : KeepsSettled l.fn.records l.records;
  uses : Uses l.fn.records l.records 0 0 0;
}
