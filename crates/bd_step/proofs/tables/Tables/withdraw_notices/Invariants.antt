use Rattle.bd_step.proofs.Words.{KeepsTold, OnlyWorks, Space, StandsAt, fold, take, withdraw_notice, ℕ}
use Rattle.bd_step.proofs.tables.Tables.withdraw_notices.Given as goal

abbrev pub invariant-loop-x : goal.invariant-loop-x
invariant-loop-x l = record {
  stands : (n : ℕ) (s : Space) → StandsAt n l.fn.self s → StandsAt n l.self (record s { todo = fold (withdraw_notice s.objects) s.todo (take l.x-index l.items) });
  works : OnlyWorks l.fn.self l.self 0;
  told : KeepsTold l.fn.self l.self;
}
