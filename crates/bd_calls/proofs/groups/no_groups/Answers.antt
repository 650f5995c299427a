use Rattle.bd_calls.proofs.Grouped.{whole_at}
use Rattle.bd_calls.proofs.groups.no_groups.Goals as goal

pub returns-clause-groups : goal.returns-clause-groups
returns-clause-groups c = whole_at 32
