use Rattle.bd_step.proofs.{Words.{Before, Grows, HasThread, Space}, Gathering.{Until}}
use Rattle.bd_step.proofs.tables.Tables.touch_threads.Given as goal

abbrev pub invariant-loop-seat : goal.invariant-loop-seat
invariant-loop-seat l = record {
  has : (s : Space) → Before l.self s → Until (HasThread l.exit s) l.seats l.seat-index;
  grows : (s : Space) → Before l.self s → Grows l.fn.exit l.exit;
}
