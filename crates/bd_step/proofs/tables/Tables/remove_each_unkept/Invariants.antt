use Rattle.bd_step.proofs.Words.{IsNobodyDue, KeepsTold, MakesWithin, Space, Within, false, is_among, shed_of, take, ◌≡◌}
use Rattle.bd_step.specs.Stands.{UsesNothing}
use Rattle.bd_step.proofs.tables.Tables.remove_each_unkept.Given as goal

abbrev pub invariant-loop-o : goal.invariant-loop-o
invariant-loop-o l = record {
  nobody : l.due ≡ false → (s : Space) → Within l.fn.self s → IsNobodyDue (shed_of (is_among (take l.o-index l.touched)) s) (take l.o-index l.touched);
  stands : MakesWithin l.fn.self l.self (shed_of (is_among (take l.o-index l.touched)));
  uses : UsesNothing l.fn.self l.self;
  told : KeepsTold l.fn.self l.self;
}
