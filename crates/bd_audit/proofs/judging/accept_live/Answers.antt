use Rattle.bd_laws.proofs.words.Space.{space_after, step}
use Rattle.std.proofs.Common.{◌≡◌, ◌∙◌, Some, ap, subst, true, arith}
use Rattle.bd_space.specs.declared.step.{Step.{Step}, StepAnswer.{StepAnswer}}
use Rattle.bd_space.specs.Histories.{extended, is_at_end}
use Rattle.bd_engine.specs.Follows.{Follows}
use Rattle.bd_engine.specs.StepError.{StepError}
use Rattle.bd_engine.specs.Refusals.{FullOnly}
use Rattle.bd_audit.proofs.Beginnings.{last_lawful, no_such_answer, past_end}
use Rattle.bd_audit.proofs.judging.accept_live.Goals as goal
use Rattle.bd_audit.proofs.judging.accept_live.Goals.{then-entry-seats-via-then-entry-seats, then-entry-seats-via-else-entry-seats+then-len-eq18446744073709551615}

pub returns-in-Ok-clause-unlawful : goal.returns-in-Ok-clause-unlawful
returns-in-Ok-clause-unlawful c = λ other h follows.
    no_such_answer h c.args.entry.now c.in-Ok.made.answer
    (c.in-Ok.ensures.answer h follows ∙ ap (λ (x : Step). (step (space_after h) c.args.entry.now.seat x).answer) c.in_ok-step.ensures)
    (λ same. let right = c.is_same_answer.ensures.1 same in absurd (cc))

pub returns-in-Err-HistoryFull-clause-unlawful : goal.returns-in-Err-HistoryFull-clause-unlawful
returns-in-Err-HistoryFull-clause-unlawful c = λ other h follows.
    let e = c.args.entry.now in
    let ended = subst (λ (w : StepError). FullOnly w (is_at_end h e.seat (Some c.in_ok-step.step) ≡ true)) c.in-Err-HistoryFull.field-0-is (c.in-Err-HistoryFull.ensures.full h follows) in
    past_end h e (subst (λ (x : Step). is_at_end h e.seat (Some x) ≡ true) c.in_ok-step.ensures ended)

pub returns-in-Ok-clause-accepted : goal.returns-in-Ok-clause-accepted
returns-in-Ok-clause-accepted c = λ same h follows.
    let e = c.args.entry.now in
    let live = c.step.new.self in
    let made = c.in-Ok.made.answer in
    subst (λ (a : StepAnswer). Follows live (extended h e.seat e.step a)) (c.is_same_answer.ensures.0 same)
    (subst (λ (x : Step). Follows live (extended h e.seat x made)) c.in_ok-step.ensures (c.in-Ok.ensures.follows h follows))

pub returns-then-entry-seats-clause-unlawful : goal.returns-then-entry-seats-clause-unlawful
returns-then-entry-seats-clause-unlawful c = λ other h follows lawful.
    let last = last_lawful h c.args.entry.now lawful in
    let seats = c.seats.ensures.count h follows in
    let room = last.0 in
    let seat = last.1 in
    elim c.then-entry-seats.branch [
      | then-entry-seats-via-then-entry-seats w ↦ (let past = w.if-entry-seats.true in grind (arith, seats, seat, past))
      | then-entry-seats-via-else-entry-seats+then-len-eq18446744073709551615 w ↦
          (let len = w.len.ensures h follows in let past = w.if-len-eq18446744073709551615.true in grind (arith, len, room, past))
    ]
