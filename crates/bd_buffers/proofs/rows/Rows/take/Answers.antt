use Rattle.bd_buffers.proofs.Words.{Some, ap, filter_none, is_record_at, live, made_of_record, none_found, sym, ◌∙◌}
use Rattle.bd_buffers.proofs.Live.{end_left, found_row}
use Rattle.bd_buffers.proofs.rows.Rows.take.Goals as goal

pub returns-in_err-i-clause-left : goal.returns-in_err-i-clause-left
returns-in_err-i-clause-left c =
    let live_rows = live c.self.inside.rows.items in
    rw (← c.self.view_is) (sym (filter_none made_of_record c.args.made live_rows (none_found (is_record_at c.args.made) live_rows (rw c.deref.ensures.value at c.in_err-i.ensures))))

pub trim-requires : goal.trim-requires
trim-requires c = record { order = (end_left c.args.made c.self.inside.rows.items c.end_at-record.new.rows.items c.in_ok-i.i c.self.invariant.in_order (rw c.deref.ensures.value at c.in_ok-i.ensures) c.end_at-record.ensures.left).1 }

pub returns-clause-taken : goal.returns-clause-taken
returns-clause-taken c =
    let r = c.end_at-record.result in
    rw (← c.self.view_is, found_row c.args.made c.self.inside.rows.items c.in_ok-i.i r c.self.invariant.in_order (rw c.deref.ensures.value at c.in_ok-i.ensures)) (ap (λ x. Some x) (c.end_at-record.ensures.taken r))

pub returns-clause-left : goal.returns-clause-left
returns-clause-left c =
    let left = end_left c.args.made c.self.inside.rows.items c.end_at-record.new.rows.items c.in_ok-i.i c.self.invariant.in_order (rw c.deref.ensures.value at c.in_ok-i.ensures) c.end_at-record.ensures.left in
    rw (← c.self.view_is) (c.trim.ensures.live ∙ left.0)
