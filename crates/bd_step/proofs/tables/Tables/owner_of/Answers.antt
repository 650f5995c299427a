use Rattle.bd_step.proofs.{Words.{Object, Option, ap, option_and_then, owner_of, process_in, ◌∙◌}, Stepping.{if_lives}}
use Rattle.bd_step.proofs.tables.Tables.owner_of.Goals as goal

pub returns-clause-owner : goal.returns-clause-owner
unfolding owner_of
returns-clause-owner c = λ n s h.
    c.process.ensures.found n s h ∙ ap (λ (y : Option Object). option_and_then (λ (x : Object). process_in s.processes x.owner) y) (c.in_ok-x.ensures s h.objects_stand)

pub returns-clause-lives : goal.returns-clause-lives
returns-clause-lives c = λ n s h. if_lives s.processes c.in_ok-x.x.owner c.process.result (c.process.ensures.found n s h)
