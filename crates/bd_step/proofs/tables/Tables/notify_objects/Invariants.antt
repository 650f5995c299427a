use Rattle.bd_step.proofs.Words.{KeepsTold, MakesWithin, Uses, take, told_of}
use Rattle.bd_step.proofs.tables.Tables.notify_objects.Given as goal

abbrev pub invariant-loop-o : goal.invariant-loop-o
invariant-loop-o l = record {
  stands : MakesWithin l.fn.self l.self (told_of (take l.o-index l.touched));
  uses : Uses l.fn.self l.self 0 0 l.o-index;
  told : KeepsTold l.fn.self l.self;
}
