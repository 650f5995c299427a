use Rattle.bd_buffers.proofs.Words.{OwnedWindow, filter_same, is_owned_by, not, rules, tests}
use Rattle.bd_buffers.proofs.owned.close_among.Goals as goal

pub returns : goal.returns
returns c = filter_same _ (λ (w : OwnedWindow). not (is_owned_by c.args.p w)) _ (λ x b f' k. search (rules, tests)) _ _ c.retain.ensures.filtered
