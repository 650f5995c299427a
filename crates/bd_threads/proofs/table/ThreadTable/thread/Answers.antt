use Rattle.std.proofs.Common.{None, ap, sym, ◌∙◌, get_or}
use Rattle.bd_threads.proofs.Rows.{seated}
use Rattle.bd_threads.proofs.table.ThreadTable.thread.Goals as goal

pub returns-then-thread-seat : goal.returns-then-thread-seat
returns-then-thread-seat c =
    let t = c.args.self.now in
    let item = c.in-Some-Some.ensures in
    let row = ap (λ rows. get_or rows c.args.seat None) (sym c.deref.ensures.value) ∙ sym (item.lookup.3.1 None) ∙ c.in-Some-Some.field-0-is in
    sym (seated t c.args.seat c.args.seat c.in-Some-Some.thread row c.if-thread-seat.true)
