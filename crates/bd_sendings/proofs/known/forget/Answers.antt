use Rattle.std.proofs.Common.{not, rules, tests}
use Rattle.std.proofs.lemmas.Fn.{filter_same}
use Rattle.bd_sendings.specs.declared.sent.Sent.{Sent}
use Rattle.bd_sendings.specs.Sendings.{goes}
use Rattle.bd_sendings.proofs.known.forget.Goals as goal

pub returns-clause-left : goal.returns-clause-left
returns-clause-left c = filter_same _ (λ (e : Sent). not (goes c.args.thread c.args.ptr c.args.is_others e)) _ (λ x b f' k. search (rules, tests)) _ _ c.retain.ensures.filtered
