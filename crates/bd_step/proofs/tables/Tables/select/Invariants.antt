use Rattle.bd_step.proofs.{Words.{Before, Some, Space, work_on}, TakingItems.{IsAt}}
use Rattle.bd_step.proofs.tables.Tables.select.Given as goal

abbrev pub invariant-loop-work : goal.invariant-loop-work
invariant-loop-work l = (s : Space) → Before l.self s → IsAt s l.limit (work_on s.todo (Some l.fn.list)) l.work-iterator l.works.items l.stream.items
