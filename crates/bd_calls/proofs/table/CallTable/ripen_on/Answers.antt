use Rattle.std.proofs.Common.{◌∙◌, sym}
use Rattle.bd_space.specs.{Todo.{owe}, Turns.{turns_of}}
use Rattle.bd_ways.specs.Local.{ripen_of}
use Rattle.bd_calls.proofs.table.CallTable.ripen_on.Goals as goal

pub returns-then-is_untold-clause-stands : goal.returns-then-is_untold-clause-stands
unfolding ripen_of owe
returns-then-is_untold-clause-stands c = λ s h at.
    rw (sym (c.oldest_on.ensures (turns_of s.buffers) h.turns_are) ∙ c.in-Some.is, sym (c.is_untold.ensures s.todo h.todo_are) ∙ c.if-is_untold.true) (c.owe.ensures.stands s h at)

pub returns-else-is_untold-clause-stands : goal.returns-else-is_untold-clause-stands
unfolding ripen_of
returns-else-is_untold-clause-stands c = λ s h at.
    rw (sym (c.oldest_on.ensures (turns_of s.buffers) h.turns_are) ∙ c.in-Some.is, sym (c.is_untold.ensures s.todo h.todo_are) ∙ c.if-is_untold.false) h

pub returns-in_default-clause-stands : goal.returns-in_default-clause-stands
unfolding ripen_of
returns-in_default-clause-stands c = λ s h at. rw (sym (c.oldest_on.ensures (turns_of s.buffers) h.turns_are) ∙ c.in_default.is) h
