use Rattle.std.proofs.Common.{◌==◌, not, rules, tests}
use Rattle.std.proofs.lemmas.Fn.{filter_same}
use Rattle.bd_sendings.specs.declared.sent.Sent.{Sent}
use Rattle.bd_sendings.proofs.known.end.Goals as goal

pub returns-clause-ended : goal.returns-clause-ended
returns-clause-ended c = filter_same _ (λ (e : Sent). not (e.sender == c.args.thread)) _ (λ x b f' k. search (rules, tests)) _ _ c.retain.ensures.filtered
