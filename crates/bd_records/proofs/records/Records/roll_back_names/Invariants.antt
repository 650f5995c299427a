use Rattle.bd_records.proofs.Words.{List, Name, Object, RecordsAre, Reference, Since, Uses, length, ◌++◌}
use Rattle.bd_records.proofs.records.Records.roll_back_names.Given as goal

abbrev pub invariant-loop-m : goal.invariant-loop-m
invariant-loop-m l = record {
  kept : (base names : List Name) → Since l.fn.self base names → (objects : List Object) (references : List Reference) → RecordsAre l.fn.self objects references → RecordsAre l.self objects references;
  since : (base names : List Name) → Since l.fn.self base names → Since l.self base (base ++ l.self.given.items);
  uses : Uses l.fn.self l.self 0 0 0;
}

abbrev pub decreases-loop-m : goal.decreases-loop-m
decreases-loop-m l = length l.self.given.items
