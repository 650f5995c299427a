use Rattle.std.proofs.Common.{◌<◌, ◌≤◌, None, sym, ap, ◌∙◌, arith, length}
use Rattle.std.proofs.lemmas.List.{get_or_default, get_or_past}
use Rattle.bd_calls.proofs.{Grouped.{same_grouped}, Members.{shared_thread, noted_member, none_noted}}
use Rattle.bd_calls.proofs.ready.ReadySeats.note_member.Goals as goal

pub keep-requires-clause-grouped : goal.keep-requires-clause-grouped
keep-requires-clause-grouped c =
    let r = c.args.self.now in
    let at = c.args.seat in
    let inside : at < length r.seats.items = omega (arith, c.if-at-len.true, c.len.ensures, r.seats.ok.0) in
    same_grouped r.seats.items r.groups at c.in-Some.seen c.with_shared.result (omega (arith, c.if-at-len.true, c.len.ensures, r.few)) r.are_grouped
    (sym (get_or_default r.seats.items at c.index.result.now None inside) ∙ sym c.index.ensures ∙ c.in-Some.is)
    (ap (λ x. x.thread) c.with_shared.ensures ∙ shared_thread c.args.process c.args.has c.in-Some.seen)

pub returns-in-Some : goal.returns-in-Some
returns-in-Some c = λ i.
    let r = c.args.self.now in
    let at = c.args.seat in
    let inside : at < length r.seats.items = omega (arith, c.if-at-len.true, c.len.ensures, r.seats.ok.0) in
    noted_member c.args.process c.args.has r.seats.items at i c.in-Some.seen c.with_shared.result c.keep.new.self.seats.items inside
    (sym (get_or_default r.seats.items at c.index.result.now None inside) ∙ sym c.index.ensures ∙ c.in-Some.is) c.with_shared.ensures c.keep.ensures.seats

pub returns-in_default : goal.returns-in_default
returns-in_default c = λ i.
    let r = c.args.self.now in
    let at = c.args.seat in
    let inside : at < length r.seats.items = omega (arith, c.if-at-len.true, c.len.ensures, r.seats.ok.0) in
    none_noted c.args.process c.args.has r.seats.items at i (sym (get_or_default r.seats.items at c.index.result.now None inside) ∙ sym c.index.ensures ∙ c.in_default.is)

pub returns-else-at-len : goal.returns-else-at-len
returns-else-at-len c = λ i.
    let r = c.args.self.now in
    let behind : length r.seats.items ≤ c.args.seat = omega (arith, c.if-at-len.false, c.len.ensures, r.seats.ok.0) in
    none_noted c.args.process c.args.has r.seats.items c.args.seat i (get_or_past r.seats.items c.args.seat None behind)
