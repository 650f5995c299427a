use Rattle.bd_step.proofs.Words.{KeepsTold, Space, Uses, Within, fold, take, thread_goes}
use Rattle.bd_step.proofs.tables.Tables.threads_go.Given as goal

abbrev pub invariant-loop-seat : goal.invariant-loop-seat
invariant-loop-seat l = record {
  stands : (s : Space) → Within l.fn.self s → Within l.self (fold thread_goes s (take l.seat-index l.seats));
  uses : Uses l.fn.self l.self 0 0 0;
  told : KeepsTold l.fn.self l.self;
}
