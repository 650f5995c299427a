use Rattle.bd_engine.proofs.Words.{filter_same, is_gone, rules, space_after}
use Rattle.bd_engine.proofs.live.Live.keep_gone.Goals as goal

pub returns : goal.returns
returns c = λ h follows. filter_same _ (is_gone (space_after h).buffers) _ (λ x b f' k. search (rules, follows)) _ _ c.retain.ensures.filtered
