use Rattle.std.proofs.Common.{take}
use Rattle.bd_space.specs.Todo.{has_work_in}
use Rattle.bd_calls.specs.Marks.{AreMarked, Goes, MarksFew}
use Rattle.bd_calls.proofs.marks.Marks.mark_lists_of.Given as goal

abbrev pub invariant-loop-work : goal.invariant-loop-work
invariant-loop-work l = record {
  marked : AreMarked (has_work_in (take l.work-index l.taken)) l.initial.self l.self;
  recalls : Goes l.initial.self l.self l.todo;
  few : MarksFew l.work-index l.initial.self l.self;
}
