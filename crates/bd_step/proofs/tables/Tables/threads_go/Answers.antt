use Rattle.bd_step.proofs.Words.{List, Space, StandsAt, Within, arith, fold, fold_more, rules, subst, sym, take_all, thread_goes, ℕ, ◌+◌}
use Rattle.bd_step.proofs.tables.Tables.threads_go.Goals as goal

pub loop-seat-preserved : goal.loop-seat-preserved
loop-seat-preserved c = record {
  stands = λ s h.
      subst (λ (z : Space). StandsAt (z.steps + 1) c.thread_goes.new.self z) (sym (fold_more thread_goes s c.args.seats.now c.loop-seat.seat-index 0 c.loop-seat-test.true))
      (c.thread_goes.ensures.stands _ (c.loop-seat.invariant.stands s h));
  uses = search rules;
  told = λ told k. c.thread_goes.ensures.told told (c.loop-seat.invariant.told told k);
}

pub returns-clause-stands : goal.returns-clause-stands
returns-clause-stands c = λ s h.
    let all = take_all c.loop-seat.seat-index c.args.seats.now (omega (arith, c.loop-seat-test.false)) in
    subst (λ (ns : List ℕ). Within c.loop-seat.self (fold thread_goes s ns)) all (c.loop-seat.invariant.stands s h)
