use Rattle.bd_step.proofs.{Words.{IsAny, IsBy, IsNobody, change, refl, sym, ◌∙◌}, Meeting.{as_step, as_step_written, written_step}, Seating.{acting_seat}}
use Rattle.bd_step.proofs.tables.Tables.change.Goals as goal

pub returns-in-Some-clause-step : goal.returns-in-Some-clause-step
returns-in-Some-clause-step g c =
    as_step_written c.args.self.now (IsBy c.in-Some.actor) IsAny (λ s. change s c.in-Some.actor.thread.seat c.args.step.now) (λ s. change s c.args.seat c.args.step.now)
    (λ s h q. acting_seat s c.args.seat c.in-Some.actor c.args.step.now (sym (c.actor.ensures.found s.steps s h) ∙ c.in-Some.is) q) _ _ _ _ c.change_by.ensures.step

pub returns-in-None-clause-step : goal.returns-in-None-clause-step
returns-in-None-clause-step g c =
    written_step _ _ _ _ _ _ c.requires _ _ c.written.ensures
    (as_step c.args.self.now (IsNobody c.args.seat) IsAny (λ s. change s c.args.seat c.args.step.now) (λ s. change s c.args.seat c.args.step.now)
    (λ s h q. (record { nobody = sym (c.actor.ensures.found s.steps s h) ∙ c.in-None.is; tidy = q }, refl)) _ _ c.change_alone.ensures.step)
