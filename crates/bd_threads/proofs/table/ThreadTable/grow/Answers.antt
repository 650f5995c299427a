use Rattle.std.proofs.Common.{sym, ap, ◌∙◌, length}
use Rattle.bd_threads.specs.Rows.{live, place_at, seat_at}
use Rattle.bd_threads.proofs.Rows.{inverse_as}
use Rattle.bd_threads.proofs.table.ThreadTable.grow.Goals as goal

pub invariant_of-self-2 : goal.invariant_of-self-2
invariant_of-self-2 c =
    let t = c.args.self.now in
    let items = c.reserve.ensures.items in
    let entries = c.reserve-2.ensures.entries in
    record {
      found = inverse_as (place_at t.places) (seat_at t.rows.items) _ _ t.found entries.2 (λ j. ap (λ rows. seat_at rows j) items);
      left = entries.1 ∙ t.left ∙ sym (ap (λ rows. length (live rows)) items);
    }
