use Rattle.bd_step.proofs.{Words.{Before, Cause, Delivery, IfOk-weaker, None, Result, Some, Space, and_then, false, placed_for, process_in, reply_check, sending_of, ◌∙◌, ◌≡◌}, Stepping.{caller_gone, caller_there}}
use Rattle.bd_step.proofs.tables.Tables.reply_check.Goals as goal

pub returns-in-None-clause-computed : goal.returns-in-None-clause-computed
returns-in-None-clause-computed c = λ s h. caller_gone s c.args.actor c.args.sent.now c.args.parcel.now c.args.f.now (c.in-None.ensures.caller s.steps s h)

pub returns-in-Some-clause-computed : goal.returns-in-Some-clause-computed
returns-in-Some-clause-computed c =
    let q = c.in-Some.caller.process in
    let there = λ (s : Space). and_then (sending_of s c.args.actor.process.made c.args.sent.now c.args.parcel.now) (placed_for s c.args.sent.now q None false) in
    let P : Result Delivery Cause → Type 0 = λ r. (s : Space) → Before c.args.self.now s → process_in s.processes q.made ≡ Some q → r ≡ there s in
    let Q : Result Delivery Cause → Type 0 = λ r. (s : Space) → Before c.args.self.now s → r ≡ reply_check s c.args.actor c.args.sent.now c.args.parcel.now c.args.f.now in
    IfOk-weaker c.sent_to.result P Q
    (λ r f s h. f s h (c.in-Some.ensures.lives s.steps s h) ∙ caller_there s c.args.actor c.args.sent.now c.args.parcel.now c.args.f.now _ (c.in-Some.ensures.caller s.steps s h))
    c.sent_to.ensures.computed
