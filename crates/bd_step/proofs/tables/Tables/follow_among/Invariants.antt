use Rattle.bd_step.proofs.Words.{KeepsTold, MakesWithin, names_among, names_followed, take}
use Rattle.bd_step.specs.Stands.{UsesNothing}
use Rattle.bd_step.proofs.tables.Tables.follow_among.Given as goal

abbrev pub invariant-loop-o : goal.invariant-loop-o
invariant-loop-o l = record {
  stands : MakesWithin l.fn.self l.self (names_followed (names_among l.p (take l.o-index l.touched)));
  uses : UsesNothing l.fn.self l.self;
  told : KeepsTold l.fn.self l.self;
}
