use Rattle.std.proofs.Common.{◌∙◌, sym}
use Rattle.std.specs.Prelude.{None}
use Rattle.bd_spelling.specs.Records.{history_in}
use Rattle.bd_audit.specs.Replies.{call_closed_at, call_answered}
use Rattle.bd_audit.proofs.CallsOfReadings.{answers_call, answers_known}
use Rattle.bd_audit.proofs.ReplyCalls.{by_name, answered_some, answered_none}
use Rattle.bd_audit.proofs.replies.call_of_reply.Goals as goal

pub returns-in-Some-clause-found : goal.returns-in-Some-clause-found
returns-in-Some-clause-found c =
    let h = history_in c.args.record.now in
    by_name c.call_closed_at.result (call_closed_at h c.in-Some.reply) (call_answered h c.args.step)
    (answered_some h c.args.step c.in-Some.reply (sym c.in-Some.is ∙ c.in_ok-reply.ensures)) c.call_closed_at.ensures

pub returns-in-Some-clause-answers : goal.returns-in-Some-clause-answers
returns-in-Some-clause-answers c =
    let h = history_in c.args.record.now in
    answers_known h c.args.step c.call_closed_at.result
    (by_name c.call_closed_at.result (call_closed_at h c.in-Some.reply) (call_answered h c.args.step)
    (answered_some h c.args.step c.in-Some.reply (sym c.in-Some.is ∙ c.in_ok-reply.ensures)) c.call_closed_at.ensures)

pub returns-in-None-clause-found : goal.returns-in-None-clause-found
returns-in-None-clause-found c =
    let h = history_in c.args.record.now in
    answered_none h c.args.step (sym c.in-None.is ∙ c.in_ok-reply.ensures)

pub returns-in-None-clause-answers : goal.returns-in-None-clause-answers
returns-in-None-clause-answers c =
    let h = history_in c.args.record.now in
    answers_call h c.args.step None (answered_none h c.args.step (sym c.in-None.is ∙ c.in_ok-reply.ensures))
