use Rattle.std.proofs.Common.{◌==◌, Bool, length, refl, sym, ap, ◌∙◌, arith}
use Rattle.bd_space.specs.declared.space.Thread.{Thread}
use Rattle.bd_space.proofs.Keyed.{changed_none, length_changed}
use Rattle.bd_threads.specs.{Listed.{listed}, Rows.{place_at, seat_at}}
use Rattle.bd_threads.proofs.Rows.{seat_of, inside, read, filled, row_found, none_found, seat_kept, inverse_as}
use Rattle.bd_threads.proofs.table.ThreadTable.set_looping.Goals as goal

abbrev turned : Bool → Thread → Thread
turned looping t = record t { looping = looping }

pub index_mut-requires : goal.index_mut-requires
index_mut-requires c = omega (arith, c.args.self.now.rows.ok, inside c.args.self.now c.args.seat _ c.in-Some.ensures.value)

pub invariant_of-self : goal.invariant_of-self
invariant_of-self c =
    let t = c.args.self.now in
    let f = turned c.args.looping in
    let place = c.in-Some.ensures.value in
    let was = read t c.args.seat _ place _ _ c.index_mut.ensures.value c.in-Some-index_mut.is in
    record {
      found = inverse_as (place_at t.places) (seat_at t.rows.items) _ _ t.found (λ s. refl) (seat_kept t.rows.items c.in-Some.row.now _ _ was refl);
      left = t.left ∙ sym (ap length ((row_found t c.args.seat _ place).turned f _ was) ∙ length_changed (λ (t : Thread). t.seat == c.args.seat) f (listed t));
    }

pub returns-in-Some-index_mut-clause-listed : goal.returns-in-Some-index_mut-clause-listed
returns-in-Some-index_mut-clause-listed c =
    let t = c.args.self.now in
    let place = c.in-Some.ensures.value in
    (row_found t c.args.seat _ place).turned (turned c.args.looping) _
    (read t c.args.seat _ place _ _ c.index_mut.ensures.value c.in-Some-index_mut.is)

pub returns-in_default-index_mut-clause-listed : goal.returns-in_default-index_mut-clause-listed
returns-in_default-index_mut-clause-listed c =
    let t = c.args.self.now in
    let place = c.in-Some.ensures.value in
    absurd (filled t c.args.seat _ place (read t c.args.seat _ place _ _ c.index_mut.ensures.value c.in_default-index_mut.is))

pub returns-in_default-clause-listed : goal.returns-in_default-clause-listed
returns-in_default-clause-listed c =
    let t = c.args.self.now in
    sym (changed_none seat_of (turned c.args.looping) c.args.seat (listed t) (none_found t c.args.seat c.in_default.ensures.value))
