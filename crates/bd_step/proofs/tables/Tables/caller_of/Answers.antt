use Rattle.bd_step.proofs.{Words.{None, Some, ◌∙◌}, Stepping.{actor_lives, caller_is}}
use Rattle.bd_step.proofs.tables.Tables.caller_of.Goals as goal

pub returns-in-None-clause-caller : goal.returns-in-None-clause-caller
returns-in-None-clause-caller c = λ n s h. caller_is s c.args.f.now None c.in-None.is

pub returns-in-Some-clause-caller : goal.returns-in-Some-clause-caller
returns-in-Some-clause-caller c = λ n s h. c.actor.ensures.found n s h ∙ caller_is s c.args.f.now (Some c.in-Some.seat) c.in-Some.is

pub returns-in-Some-clause-lives : goal.returns-in-Some-clause-lives
returns-in-Some-clause-lives c = λ n s h. actor_lives s _ c.actor.result (c.actor.ensures.found n s h)
