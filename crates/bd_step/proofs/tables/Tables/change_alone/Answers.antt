use Rattle.bd_step.proofs.{Words.{IsAny, IsNobody, NoProcess, Outcome, ap, attach_step, change, open_step}, Meeting.{taken_step, as_step, meets, in_case, is_refused}, Seating.{nobody_changes}}
use Rattle.bd_step.proofs.tables.Tables.change_alone.Goals as goal

pub returns-in-Open-clause-step : goal.returns-in-Open-clause-step
unfolding change
returns-in-Open-clause-step c =
    as_step c.args.self.now IsAny (IsNobody c.args.seat) (λ s. open_step s c.args.seat c.in-Open.pid c.in-Open.euid c.in-Open.window) (λ s. change s c.args.seat c.args.step.now)
    (λ s h by. (by.tidy, ap (change s c.args.seat) c.in-Open.is)) _ _ c.open.ensures.step

pub returns-in-Attach-clause-step : goal.returns-in-Attach-clause-step
unfolding change
returns-in-Attach-clause-step c =
    as_step c.args.self.now IsAny (IsNobody c.args.seat) (λ s. attach_step s c.args.seat c.in-Attach.pid) (λ s. change s c.args.seat c.args.step.now)
    (λ s h by. (by.tidy, ap (change s c.args.seat) c.in-Attach.is)) _ _ c.attach.ensures.step

pub returns-in_default-clause-step : goal.returns-in_default-clause-step
returns-in_default-clause-step c = taken_step _ _ _ _ _ (
    meets _ _ _ _ _ (λ s h nobody. in_case _ _ (λ (o : Outcome). o) _ _
    (nobody_changes s c.args.seat c.args.step.now c.in_default.not-Open c.in_default.not-Attach nobody.nobody) (is_refused _ s NoProcess h)))
