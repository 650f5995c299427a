use Rattle.std.proofs.Common.{arith}
use Rattle.std.proofs.lemmas.Grind.{common_steps}
use Rattle.bd_bridge.proofs.Seats.{has_seat_gone, has_seat_left}
use Rattle.bd_bridge.proofs.groups.Groups.remove.Goals.{in-Some+else-not-is_empty, in_default}
use Rattle.bd_bridge.proofs.groups.Groups.remove.Goals as goal

pub returns-then-not-is_empty-clause-gone : goal.returns-then-not-is_empty-clause-gone
returns-then-not-is_empty-clause-gone c =
    let gone = has_seat_gone c.in-Some.seats.now.items c.args.seat in
    grind (arith, common_steps, c.get_mut.ensures.value, c.in-Some.ensures.value, c.leave.ensures.left, gone)

pub returns-then-not-is_empty-clause-left : goal.returns-then-not-is_empty-clause-left
returns-then-not-is_empty-clause-left c = λ p t apart.
    let left = has_seat_left c.in-Some.seats.now.items c.args.seat t apart in
    grind (arith, common_steps, c.get_mut.ensures.value, c.in-Some.ensures.value, c.leave.ensures.left, left)

pub returns-clause-gone : goal.returns-clause-gone
returns-clause-gone c = grind (arith, common_steps, c.remove.ensures.updates.0 c.args.process)

pub returns-clause-left : goal.returns-clause-left
returns-clause-left c = λ p t apart. elim c.match-get_mut.branch [
  | in-Some+else-not-is_empty w ↦
      let left = has_seat_left w.in-Some.seats.now.items c.args.seat t apart in
      grind (arith, common_steps, c.get_mut.ensures.value, w.in-Some.ensures.value, w.leave.ensures.left, left, c.remove.ensures.updates.0 p)
  | in_default w ↦ grind (arith, common_steps, c.get_mut.ensures.value, w.in_default.ensures.value, c.remove.ensures.updates.0 p)
]
