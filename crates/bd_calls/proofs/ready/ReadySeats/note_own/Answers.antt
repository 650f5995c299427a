use Rattle.std.proofs.Common.{◌<◌, None, refl, sym, ◌∙◌, arith, length}
use Rattle.std.proofs.lemmas.List.{get_or_default}
use Rattle.bd_calls.proofs.Grouped.{same_grouped}
use Rattle.bd_calls.proofs.ready.ReadySeats.note_own.Goals as goal

pub keep-requires-clause-grouped : goal.keep-requires-clause-grouped
keep-requires-clause-grouped c =
    let r = c.args.self.now in
    let at = c.args.seat in
    let inside : at < length r.seats.items = omega (arith, c.if-at-len.true, c.len.ensures, r.seats.ok.0) in
    same_grouped r.seats.items r.groups at c.in-Some.seen (record c.in-Some.seen { own = c.args.has }) (omega (arith, c.if-at-len.true, c.len.ensures, r.few)) r.are_grouped
    (sym (get_or_default r.seats.items at c.index.result.now None inside) ∙ sym c.index.ensures ∙ c.in-Some.is) refl
