use Rattle.bd_laws.proofs.words.Space.{space_after, step}
use Rattle.std.proofs.Common.{◌≡◌, ◌∙◌, ap, true, false}
use Rattle.bd_space.specs.declared.step.Step.{Step}
use Rattle.bd_audit.proofs.Beginnings.{wrong_answer, refused}
use Rattle.bd_audit.proofs.judging.accept.Goals as goal

pub returns-in-Ok-step-clause-unlawful : goal.returns-in-Ok-step-clause-unlawful
returns-in-Ok-step-clause-unlawful c =
    wrong_answer c.args.engine.now c.args.entry.now c.in-Ok-step.answer
    (c.in-Ok-step.ensures.answer ∙ ap (λ (x : Step). (step (space_after c.args.engine.now) c.args.entry.now.seat x).answer) c.in-Ok.ensures)
    (λ e. let wrong : false ≡ true = c.if-is_same_answer.ensures.1 e in absurd (cc))

pub returns-clause-unlawful : goal.returns-clause-unlawful
returns-clause-unlawful c =
    refused c.args.engine.now c.args.entry.now c.len-at.result c.in-Err.why c.in-Ok.step c.fault_of.result c.fault_of.ensures c.in-Ok.ensures c.in-Err.ensures.full
