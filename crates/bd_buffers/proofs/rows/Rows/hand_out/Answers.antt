use Rattle.bd_buffers.proofs.Words.{Some, changed, changed_none, hand_over, is_record_at, live, made_of_record, none_found, sym, ◌≡◌}
use Rattle.bd_buffers.proofs.Live.{handed_live, handed_rows, one_changed}
use Rattle.bd_buffers.proofs.rows.Rows.hand_out.Goals as goal

all_changed : (c : goal.After-hand_out_at) → c.hand_out_at.new.rows.items ≡ changed (is_record_at c.args.made) hand_over c.self.inside.rows.items
all_changed c =
    one_changed hand_over c.args.made c.self.inside.rows.items c.hand_out_at.new.rows.items c.in-Some.i c.self.invariant.in_order (rw c.deref.ensures.value at c.in-Some.ensures) c.hand_out_at.ensures.handed

pub invariant_of-self : goal.invariant_of-self
invariant_of-self c = rw (all_changed c) (handed_rows (is_record_at c.args.made) c.self.inside.rows.items c.self.invariant)

pub returns-in-Some-clause-records : goal.returns-in-Some-clause-records
returns-in-Some-clause-records c = rw (← c.self.view_is, all_changed c) (handed_live c.args.made c.self.inside.rows.items)

pub returns-in_default-clause-records : goal.returns-in_default-clause-records
returns-in_default-clause-records c =
    let live_rows = live c.self.inside.rows.items in
    let none = none_found (is_record_at c.args.made) live_rows (rw (c.deref.ensures.value, c.in_default.is) at c.index_of.ensures) in
    rw (← c.self.view_is) (sym (changed_none made_of_record hand_over c.args.made live_rows none))
