use Rattle.std.proofs.Common.{arith}
use Rattle.std.proofs.lemmas.Grind.{common_steps}
use Rattle.bd_bridge.proofs.Seats.{has_seat_last}
use Rattle.bd_bridge.proofs.groups.Groups.come_last.Goals as goal

pub returns-in-Some-clause-kept : goal.returns-in-Some-clause-kept
returns-in-Some-clause-kept c = λ p t was.
    let last = has_seat_last c.in-Some.seats.now.items c.args.seat t in
    grind (arith, common_steps, c.get_mut.ensures.value, c.in-Some.ensures.value, c.bring_last.ensures, last)

pub returns-in-Some-clause-last : goal.returns-in-Some-clause-last
returns-in-Some-clause-last c = λ p. grind (arith, common_steps, c.get_mut.ensures.value, c.in-Some.ensures.value, c.bring_last.ensures)

pub returns-clause-last : goal.returns-clause-last
returns-clause-last c = λ p. let h = c.add.ensures p in grind (arith, common_steps, h, c.get_mut.ensures.value, c.in_default.ensures.value)
