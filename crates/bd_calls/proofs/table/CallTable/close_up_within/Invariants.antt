use Rattle.std.proofs.Common.{◌-◌, ℕ, List}
use Rattle.std.specs.List.{cons_option}
use Rattle.bd_ways.specs.Words.{Space}
use Rattle.bd_calls.specs.{Closing.{IsClosing}, Room.{Uses, nothing}, Told.{KeepsTold, ReachesFew}}
use Rattle.bd_calls.proofs.table.CallTable.close_up_within.Given as goal

abbrev pub invariant-loop-closed : goal.invariant-loop-closed
invariant-loop-closed l = record {
  closing : (due : List ℕ) (whole : Space) → IsClosing l.fn.self l.place l.most (cons_option l.fn.made due) whole
      → IsClosing l.self l.place (l.most - l.closed) (cons_option l.next due) whole;
  uses : Uses l.fn.self l.self (record nothing { works = l.closed });
  told : KeepsTold l.fn.self l.self;
  few : ReachesFew l.closed l.fn.self l.self;
}
