use Rattle.bd_step.proofs.Words.{ap, buffer_in, buffer_taken, option_and_then, sym, ◌∙◌}
use Rattle.bd_step.proofs.tables.Tables.buffer_taken.Goals as goal

pub returns-in-Some : goal.returns-in-Some
unfolding buffer_taken
returns-in-Some c = λ s h. c.buffer.ensures.found s h.windows_stand ∙ ap (option_and_then (buffer_in s.buffers)) (sym c.in-Some.is ∙ c.handed_by.ensures)

pub returns-in-None : goal.returns-in-None
unfolding buffer_taken
returns-in-None c = λ s h. ap (option_and_then (buffer_in s.buffers)) (sym c.in-None.is ∙ c.handed_by.ensures)
