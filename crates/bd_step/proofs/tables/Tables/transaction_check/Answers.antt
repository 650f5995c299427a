use Rattle.bd_step.proofs.{Words.{Before, Cause, Delivery, IfOk-weaker, IsStacked, Result, Some, Space, and_then, placed_for, process_in, sending_of, transaction_check, ◌∙◌, ◌≡◌}, Stepping.{no_callee, may_not_call, may_call}}
use Rattle.bd_step.proofs.tables.Tables.transaction_check.Goals as goal

pub returns-in-Err-clause-computed : goal.returns-in-Err-clause-computed
returns-in-Err-clause-computed c = λ s h k. no_callee s c.args.actor c.args.sent.now c.args.parcel.now _ c.handle_of.ensures _ (c.in-Err.ensures.callee s.steps s h)

pub returns-in-Some-clause-computed : goal.returns-in-Some-clause-computed
returns-in-Some-clause-computed c = λ s h k.
    may_not_call s c.args.actor c.args.sent.now c.args.parcel.now _ c.handle_of.ensures _ _ _ (c.in-Ok.ensures.callee s.steps s h) c.is_one_way-one_way.ensures (c.in-Some.ensures s.steps s h k)

pub returns-in-None-clause-computed : goal.returns-in-None-clause-computed
returns-in-None-clause-computed c =
    let q = c.in-Ok.callee.process in
    let there = λ (s : Space). and_then (sending_of s c.args.actor.process.made c.args.sent.now c.args.parcel.now) (placed_for s c.args.sent.now q (Some c.in-Ok.callee.object) c.is_one_way-one_way.result) in
    let P : Result Delivery Cause → Type 0 = λ r. (s : Space) → Before c.args.self.now s → process_in s.processes q.made ≡ Some q → r ≡ there s in
    let Q : Result Delivery Cause → Type 0 = λ r. (s : Space) → Before c.args.self.now s → IsStacked s → r ≡ transaction_check s c.args.actor c.args.sent.now c.args.parcel.now in
    IfOk-weaker c.sent_to.result P Q
    (λ r f s h k. f s h (c.in-Ok.ensures.lives s.steps s h)
    ∙ may_call s c.args.actor c.args.sent.now c.args.parcel.now _ c.handle_of.ensures _ _ (c.in-Ok.ensures.callee s.steps s h) c.is_one_way-one_way.ensures (c.in-None.ensures s.steps s h k))
    c.sent_to.ensures.computed
