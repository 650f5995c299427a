use Rattle.std.proofs.Common.{arith, length-set, ◌∙◌}
use Rattle.bd_calls.proofs.Grouped.{grouped_put, grouped_at}
use Rattle.bd_calls.proofs.ready.ReadySeats.members_of.Goals as goal

pub invariant_of-self : goal.invariant_of-self
invariant_of-self c =
    let r = c.args.self.now in
    record {
      few = r.few;
      full = length-set r.groups c.group_place-at.result _ ∙ r.full;
      are_known = r.are_known;
      are_marked = r.are_marked;
      are_grouped = grouped_put r.seats.items r.groups c.group_place-at.result _ r.are_grouped c.find_members-seats.ensures;
    }

pub returns-then-group-process-clause-members : goal.returns-then-group-process-clause-members
returns-then-group-process-clause-members c =
    let r = c.args.self.now in
    grouped_at r.seats.items r.groups c.group_place-at.result _ c.args.process (omega (arith, c.group_place-at.ensures, r.full)) r.are_grouped c.if-group-process.true
