use Rattle.bd_calls.proofs.Grouped.{all_grouped}
use Rattle.bd_calls.proofs.ready.ReadySeats.forget_groups.Goals as goal

pub invariant_of-self : goal.invariant_of-self
invariant_of-self c =
    let r = c.args.self.now in
    record {
      few = r.few;
      full = c.no_groups-groups.ensures.count;
      are_known = r.are_known;
      are_marked = r.are_marked;
      are_grouped = all_grouped r.seats.items c.no_groups-groups.result c.no_groups-groups.ensures.groups;
    }
