use Rattle.bd_step.proofs.{Words.{◌∙◌}, Stepping.{target_manager}}
use Rattle.bd_step.proofs.tables.Tables.target_of.Goals as goal

pub returns-in-Some : goal.returns-in-Some
returns-in-Some c = λ n s h. c.not_own.ensures n s h ∙ target_manager s c.args.p c.args.handle c.in-Some.o c.if-handle-eq0.true (h.own.manager_is ∙ c.in-Some.is)
