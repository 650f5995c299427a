use Rattle.std.proofs.Common.{◌==◌, ℕ, not, rules, tests}
use Rattle.std.proofs.lemmas.Fn.{filter_same}
use Rattle.bd_bridge.proofs.groups.leave.Goals as goal

pub returns-clause-left : goal.returns-clause-left
returns-clause-left c = filter_same _ (λ (s : ℕ). not (s == c.args.seat)) _ (λ x b f' k. search (rules, tests)) _ _ c.retain.ensures.filtered
