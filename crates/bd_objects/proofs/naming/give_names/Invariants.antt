use Rattle.bd_objects.proofs.Words.{List, Name, Object, RecordsAre, Reference, Settled, Since, Uses, fold, take, ◌++◌}
use Rattle.bd_objects.proofs.Giving.{give}
use Rattle.bd_objects.proofs.naming.give_names.Given as goal

abbrev pub invariant-loop-x : goal.invariant-loop-x
invariant-loop-x l = record {
  kept : (objects : List Object) (references : List Reference) → RecordsAre l.fn.records objects references → RecordsAre l.records objects references;
  so_far : (objects : List Object) (references : List Reference) (ns : List Name) → RecordsAre l.fn.records objects references → Settled l.fn.records ns
      → Since l.records ns (fold (give l.manager (objects ++ l.fn.made) l.p) ns (take l.x-index l.items));
  room : Uses l.fn.records l.records 0 0 l.x-index;
}
