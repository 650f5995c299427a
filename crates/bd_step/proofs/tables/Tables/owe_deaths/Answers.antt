use Rattle.bd_step.proofs.{Words.{DeathNotification, List, Within, arith, owe, owed, rules, subst, take, take_all, ◌+◌}, Changing.{with_calls}, Owing.{owed_more}}
use Rattle.bd_step.proofs.tables.Tables.owe_deaths.Goals as goal

pub loop-x-preserved : goal.loop-x-preserved
unfolding owe
loop-x-preserved c = record {
  stands = λ s h.
      let told = owed s (take c.loop-x.x-index c.args.due.now) in
      let stood = c.loop-x.invariant.stands s h in
      owed_more (s.steps + 1) _ s c.args.due.now c.loop-x.x-index _ (omega arith)
      (with_calls (s.steps + 1) c.loop-x.self told _ _ _ _ stood (c.owe.ensures.stands told stood.calls_stand stood.own.steps_are));
  uses = search rules;
  told = λ told k. c.owe.ensures.told told (c.loop-x.invariant.told told k);
}

pub returns-clause-stands : goal.returns-clause-stands
returns-clause-stands c = λ s h.
    let all = take_all c.loop-x.x-index c.args.due.now (omega (arith, c.loop-x-test.false)) in
    subst (λ (xs : List DeathNotification). Within c.loop-x.self (owed s xs)) all (c.loop-x.invariant.stands s h)
