use Rattle.bd_step.proofs.Words.{ap, turn_target, ◌∙◌}
use Rattle.bd_step.proofs.tables.Tables.turn_target_at.Goals as goal

pub returns : goal.returns
returns c = λ s h. c.turn_target.ensures ∙ ap turn_target (c.buffer.ensures.found s h.windows_stand)
