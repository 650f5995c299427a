use Rattle.std.proofs.Common.{None, sym, arith}
use Rattle.bd_keys.proofs.Rising.{filter_none}
use Rattle.bd_threads.specs.{Listed.{listed}, Rows.{place_at, seat_at}}
use Rattle.bd_threads.proofs.Rows.{seat_of, inside, row_found, none_found, seat_set, inverse_less}
use Rattle.bd_threads.proofs.table.ThreadTable.remove.Goals as goal

pub index_mut-requires : goal.index_mut-requires
index_mut-requires c = omega (arith, c.args.self.now.rows.ok, inside c.args.self.now c.args.seat _ c.in-Some.ensures.value)

pub invariant_of-self : goal.invariant_of-self
invariant_of-self c =
    let t = c.args.self.now in
    let place = c.in-Some.ensures.value in
    let fewer = (row_found t c.args.seat _ place).fewer in
    record {
      found = inverse_less (place_at t.places) (seat_at t.rows.items) _ _ t.found c.args.seat _ (sym place) c.in-Some.ensures.updates.0
          (seat_set t.rows.items c.in-Some.row None (inside t c.args.seat _ place));
      left = omega (arith, c.in-Some.ensures.len, fewer, t.left);
    }

pub returns-in-Some-clause-listed : goal.returns-in-Some-clause-listed
returns-in-Some-clause-listed c = (row_found c.args.self.now c.args.seat _ c.in-Some.ensures.value).left

pub returns-in_default-clause-listed : goal.returns-in_default-clause-listed
returns-in_default-clause-listed c =
    let t = c.args.self.now in sym (filter_none seat_of c.args.seat (listed t) (none_found t c.args.seat c.in_default.ensures.value))
