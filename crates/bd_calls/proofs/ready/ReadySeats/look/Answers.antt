use Rattle.std.proofs.Common.{ℕ, ◌<◌, None, ap, sym, subst, ◌∙◌, arith, get_or, length, IfSome}
use Rattle.bd_space.specs.Todo.{has_work_in}
use Rattle.bd_calls.specs.{Ready.{IsSeen, AreSeen}, Grouped.{whole}}
use Rattle.bd_calls.proofs.{Seats.{look_seen}, Grouped.{in_whole}, ready.ReadySeats.look.Goals.{then-at-len+then-is_none, else-at-len}}
use Rattle.bd_calls.proofs.ready.ReadySeats.look.Goals as goal

pub keep-requires-clause-grouped : goal.keep-requires-clause-grouped
keep-requires-clause-grouped c = λ k member.
    in_whole c.loop-seat.self.groups c.loop-seat.invariant.whole k c.loop-seat.seat (omega (arith, c.if-at-len.true, c.len.ensures, c.loop-seat.self.few))

pub loop-seat-preserved : goal.loop-seat-preserved
loop-seat-preserved c = elim c.if-at-len.branch [
  | then-at-len+then-is_none w ↦ record {
    seen = λ ts ws listed are first.
        let r = c.loop-seat.self in
        let inside : c.loop-seat.seat < length r.seats.items = omega (arith, w.if-at-len.true, c.len.ensures, r.seats.ok.0) in
        subst (λ r. AreSeen r ts (has_work_in ws)) (sym w.self-is)
        (subst (λ xs. (seat : ℕ) → IfSome (get_or xs seat None) (IsSeen ts (has_work_in ws) seat)) (sym w.keep.ensures.seats)
        (look_seen r.seats.items c.loop-seat.seat w.look_at.result ts (has_work_in ws) inside (w.look_at.ensures ts ws listed are) (c.loop-seat.invariant.seen ts ws listed are first)));
    whole = λ k. ap (λ r. get_or r.groups k whole) w.self-is ∙ ap (λ gs. get_or gs k whole) w.keep.ensures.groups ∙ c.loop-seat.invariant.whole k;
  }
  | else-at-len w ↦ record {
    seen = λ ts ws listed are first. subst (λ r. AreSeen r ts (has_work_in ws)) (sym w.self-is) (c.loop-seat.invariant.seen ts ws listed are first);
    whole = λ k. ap (λ r. get_or r.groups k whole) w.self-is ∙ c.loop-seat.invariant.whole k;
  }
]

pub returns : goal.returns
returns c = λ ts ws listed are first.
    c.loop-seat.invariant.seen ts ws listed are
    (subst (λ xs. (seat : ℕ) → IfSome (get_or xs seat None) (IsSeen ts (has_work_in ws) seat)) (sym c.forget_groups.ensures.seats) first)
