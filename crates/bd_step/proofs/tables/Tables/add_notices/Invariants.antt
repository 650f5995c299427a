use Rattle.bd_step.proofs.Words.{KeepsTold, OnlyWorks, Space, StandsAt, add_notice, fold, take, ℕ}
use Rattle.bd_step.proofs.tables.Tables.add_notices.Given as goal

abbrev pub invariant-loop-x : goal.invariant-loop-x
invariant-loop-x l = record {
  stands : (n : ℕ) (s : Space) → StandsAt n l.fn.self s → StandsAt n l.self (record s { todo = fold (add_notice s l.seat) s.todo (take l.x-index l.items) });
  works : OnlyWorks l.fn.self l.self l.x-index;
  told : KeepsTold l.fn.self l.self;
}
