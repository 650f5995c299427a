use Rattle.std.proofs.Common.{arith}
use Rattle.bd_space.specs.Todo.{list_to_read}
use Rattle.bd_calls.proofs.Seats.{seen_ready}
use Rattle.bd_calls.proofs.table.CallTable.reads_any.Goals as goal

pub returns-then-seen : goal.returns-then-seen
unfolding list_to_read
returns-then-seen c = λ s seat stands is.
    let ready = seen_ready s.frames s.threads s.todo seat c.args.seen.now c.in-Some.thread c.in-Some.is is in
    grind (arith, ready, c.if-seen.true)

pub returns-then-seen-2 : goal.returns-then-seen-2
unfolding list_to_read
returns-then-seen-2 c = λ s seat stands is.
    let ready = seen_ready s.frames s.threads s.todo seat c.args.seen.now c.in-Some.thread c.in-Some.is is in
    grind (arith, ready, c.if-seen.false, c.if-seen-2.true, c.is_idle.ensures s.frames stands.frames_are)

pub returns-else-seen-2 : goal.returns-else-seen-2
unfolding list_to_read
returns-else-seen-2 c = λ s seat stands is.
    let ready = seen_ready s.frames s.threads s.todo seat c.args.seen.now c.in-Some.thread c.in-Some.is is in
    grind (arith, ready, c.if-seen.false, c.if-seen-2.false)
