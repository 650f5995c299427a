use Rattle.bd_records.proofs.Words.{AreNewIn, KeepsSettled, List, Object, RecordsAre, Reference, Uses, drop, take, ◌++◌}
use Rattle.bd_records.proofs.records.Records.push_all.Given as goal

abbrev pub invariant-loop-x : goal.invariant-loop-x
invariant-loop-x l = record {
  stands : (objects : List Object) (references : List Reference) → AreNewIn objects l.made → RecordsAre l.fn.self objects references
      → RecordsAre l.self (objects ++ take l.x-index l.made) references × AreNewIn (objects ++ take l.x-index l.made) (drop l.x-index l.made);
  settled : KeepsSettled l.fn.self l.self;
  uses : Uses l.fn.self l.self l.x-index 0 0;
}
