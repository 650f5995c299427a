use Rattle.bd_step.proofs.{Words.{IsAny, IsBy, IsServing, None, Some, sym}, Meeting.{as_step}, Stacked.{tidy_stacked}, Stepping.{reply_by_frame}}
use Rattle.bd_step.proofs.tables.Tables.reply.Goals as goal

pub returns-in-None-clause-step : goal.returns-in-None-clause-step
returns-in-None-clause-step c =
    as_step c.args.self.now IsAny (IsBy c.args.actor) _ _
    (λ s h q. (q.tidy, reply_by_frame s c.args.actor c.args.sent.now c.args.parcel.now None (c.in-None.ensures s h.calls_stand (tidy_stacked s q.tidy))))
    c.stop.new.self c.stop.result c.stop.ensures.step

pub returns-in-Some-clause-step : goal.returns-in-Some-clause-step
returns-in-Some-clause-step c =
    as_step c.args.self.now (IsServing c.args.actor.thread.seat c.in-Some.f) (IsBy c.args.actor) _ _
    (λ s h q. (record { tidy = q.tidy; serves = sym (c.in-Some.ensures s h.calls_stand (tidy_stacked s q.tidy)) }, reply_by_frame s c.args.actor c.args.sent.now c.args.parcel.now (Some c.in-Some.f) (c.in-Some.ensures s h.calls_stand (tidy_stacked s q.tidy))))
    c.reply_to.new.self c.reply_to.result c.reply_to.ensures.step
