use Rattle.bd_step.proofs.Words.{KeepsTold, Space, Uses, Within, owed, take}
use Rattle.bd_step.proofs.tables.Tables.owe_deaths.Given as goal

abbrev pub invariant-loop-x : goal.invariant-loop-x
invariant-loop-x l = record {
  stands : (s : Space) → Within l.fn.self s → Within l.self (owed s (take l.x-index l.due));
  uses : Uses l.fn.self l.self 0 0 l.x-index;
  told : KeepsTold l.fn.self l.self;
}
