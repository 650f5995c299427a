use Rattle.bd_step.proofs.Words.{Before, Cause, Delivery, IfOk-weaker, Result, Sending, Some, Space, and_then, ap, placed_for, process_in, sending_of, sym, ◌∙◌, ◌≡◌}
use Rattle.bd_step.proofs.tables.Tables.sent_to.Goals as goal

pub returns-in-Err-clause-computed : goal.returns-in-Err-clause-computed
returns-in-Err-clause-computed c = λ s h q.
    ap (λ (r : Result Sending Cause). and_then r (placed_for s c.args.sent.now c.args.receiver c.args.target c.args.one_way)) (sym c.in-Err.is ∙ c.in_ok-cause.ensures.computed _ s h)

pub returns-in-Ok-clause-computed : goal.returns-in-Ok-clause-computed
returns-in-Ok-clause-computed c =
    let q = c.args.receiver in
    let P : Result Delivery Cause → Type 0 = λ r. (s : Space) → Before c.args.self.now s → process_in s.processes q.made ≡ Some q
    → r ≡ placed_for s c.args.sent.now q c.args.target c.args.one_way c.in-Ok.sending in
    let Q : Result Delivery Cause → Type 0 = λ r. (s : Space) → Before c.args.self.now s → process_in s.processes q.made ≡ Some q
    → r ≡ and_then (sending_of s c.args.actor.process.made c.args.sent.now c.args.parcel.now) (placed_for s c.args.sent.now q c.args.target c.args.one_way) in
    IfOk-weaker c.placed_for.result P Q
    (λ r f s h lives. f s h lives
    ∙ ap (λ (x : Result Sending Cause). and_then x (placed_for s c.args.sent.now q c.args.target c.args.one_way)) (sym c.in-Ok.is ∙ c.in_ok-cause.ensures.computed _ s h))
    c.placed_for.ensures.computed
