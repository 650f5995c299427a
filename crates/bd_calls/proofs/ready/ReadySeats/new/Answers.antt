use Rattle.std.proofs.Common.{ap, get_or, None, arith}
use Rattle.bd_calls.proofs.{Marked.{all_marked, none_known}, Grouped.{all_grouped}}
use Rattle.bd_calls.proofs.ready.ReadySeats.new.Goals as goal

pub invariant_of-result : goal.invariant_of-result
invariant_of-result c = record {
  few = omega arith;
  full = c.no_groups-groups.ensures.count;
  are_known = none_known c.new.result.items (λ i. ap (λ xs. get_or xs i None) c.new.ensures.items);
  are_marked = all_marked c.new.result.items (λ i. ap (λ xs. get_or xs i None) c.new.ensures.items);
  are_grouped = all_grouped c.new.result.items c.no_groups-groups.result c.no_groups-groups.ensures.groups;
}
