use Rattle.bd_step.proofs.{Words.{Before, Grows, HasWork, Some, Space, Work, gathers_list, gathers_work, list_any, true, work_on, ◌≡◌}, Gathering.{Besides}}
use Rattle.bd_step.proofs.tables.Tables.touch_list.Given as goal

abbrev pub invariant-loop-work : goal.invariant-loop-work
invariant-loop-work l = record {
  has : (s : Space) → Before l.self s → Besides (λ (w : Work). HasWork l.exit s w.kind) (work_on s.todo (Some l.fn.list)) l.work-iterator;
  grows : (s : Space) → Before l.self s → Grows l.fn.exit l.exit;
  gathers : (s : Space) → Before l.self s → list_any (λ w. gathers_work s w.kind) l.work-iterator ≡ true → gathers_list s l.fn.list ≡ true;
}
