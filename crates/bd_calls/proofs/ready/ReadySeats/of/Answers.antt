use Rattle.bd_calls.proofs.{Marked.{all_marked, none_known}, Grouped.{all_grouped}}
use Rattle.bd_calls.proofs.ready.ReadySeats.of.Goals as goal

pub invariant_of-result : goal.invariant_of-result
invariant_of-result c = record {
  few = c.requires.few;
  full = c.no_groups-groups.ensures.count;
  are_known = none_known c.args.seats.items c.requires.none;
  are_marked = all_marked c.args.seats.items c.requires.none;
  are_grouped = all_grouped c.args.seats.items c.no_groups-groups.result c.no_groups-groups.ensures.groups;
}
