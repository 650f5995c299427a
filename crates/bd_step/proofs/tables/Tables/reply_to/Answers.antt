use Rattle.bd_step.proofs.{Words.{IsReplying, IsServing, sym, ◌∙◌}, Meeting.{as_step}, Stepping.{reply_stops, reply_answers}}
use Rattle.bd_step.proofs.tables.Tables.reply_to.Goals as goal

pub returns-in-Ok-Err-clause-step : goal.returns-in-Ok-Err-clause-step
returns-in-Ok-Err-clause-step c =
    as_step c.args.self.now (IsServing c.args.actor.thread.seat c.args.f) (IsServing c.args.actor.thread.seat c.args.f) _ _
    (λ s h q. (q, reply_stops s c.args.actor c.args.sent.now c.args.parcel.now c.args.f _ (sym c.in-Ok-Err.field-0-is ∙ c.in-Ok-Err.ensures.computed s h)))
    c.stop_reply.new.self c.stop_reply.result c.stop_reply.ensures.step

pub returns-in-Ok-Ok-clause-step : goal.returns-in-Ok-Ok-clause-step
returns-in-Ok-Ok-clause-step c =
    as_step c.args.self.now (IsReplying c.args.actor c.args.sent.now c.args.f _) (IsServing c.args.actor.thread.seat c.args.f) _ _
    (λ s h q. (record { serving = q; checked = (c.args.parcel.now, sym (c.in-Ok-Ok.ensures.computed s h) ∙ c.in-Ok-Ok.field-0-is) }, reply_answers s c.args.actor c.args.sent.now c.args.parcel.now c.args.f _ (sym c.in-Ok-Ok.field-0-is ∙ c.in-Ok-Ok.ensures.computed s h)))
    c.answer.new.self c.answer.result c.answer.ensures.step
