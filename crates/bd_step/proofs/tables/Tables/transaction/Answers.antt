use Rattle.bd_step.proofs.{Words.{IsAny, IsBy, IsSending, sym, ◌∙◌}, Meeting.{as_step}, Stacked.{tidy_stacked}, Stepping.{transaction_stops, transaction_sends}}
use Rattle.bd_step.proofs.tables.Tables.transaction.Goals as goal

pub returns-in-Ok-Err-clause-step : goal.returns-in-Ok-Err-clause-step
returns-in-Ok-Err-clause-step c =
    as_step c.args.self.now IsAny (IsBy c.args.actor) _ _
    (λ s h q. (q.tidy, transaction_stops s c.args.actor c.args.sent.now c.args.parcel.now _ _ (sym c.in-Ok-Err.field-0-is ∙ c.in-Ok-Err.ensures.computed s h (tidy_stacked s q.tidy)) c.refusal.ensures))
    c.stop.new.self c.stop.result c.stop.ensures.step

pub returns-in-Ok-Ok-clause-step : goal.returns-in-Ok-Ok-clause-step
returns-in-Ok-Ok-clause-step c =
    as_step c.args.self.now (IsSending c.args.actor c.args.sent.now _) (IsBy c.args.actor) _ _
    (λ s h q. (record { tidy = q.tidy; checked = (c.args.parcel.now, sym (c.in-Ok-Ok.ensures.computed s h (tidy_stacked s q.tidy)) ∙ c.in-Ok-Ok.field-0-is) }, transaction_sends s c.args.actor c.args.sent.now c.args.parcel.now _ (sym c.in-Ok-Ok.field-0-is ∙ c.in-Ok-Ok.ensures.computed s h (tidy_stacked s q.tidy))))
    c.transact.new.self c.transact.result c.transact.ensures.step
