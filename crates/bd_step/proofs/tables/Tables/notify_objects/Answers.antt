use Rattle.bd_step.proofs.{Words.{Identity, List, Within, arith, rules, subst, take, take_all, told_of}, FollowingObjects.{told_next}}
use Rattle.bd_step.proofs.tables.Tables.notify_objects.Goals as goal

pub loop-o-init : goal.loop-o-init
unfolding told_of
loop-o-init c = record {
  stands = λ s h. h;
  uses = search rules;
  told = λ told k. k;
}

pub loop-o-preserved : goal.loop-o-preserved
unfolding told_of
loop-o-preserved c =
    let os = c.args.touched.now in
    let k = c.loop-o.o-index in
    record {
      stands = λ s h.
          let z = told_of (take k os) s in
          let i = c.loop-o.invariant.stands s h in
          let asked = c.owner_to_tell-owner.ensures z i.objects_stand i.own.processes_are in
          subst (Within _) (told_next os k _ s c.loop-o-test.true) (c.tell_owner.ensures.stands z asked i);
      uses = search rules;
      told = λ told k. c.tell_owner.ensures.told told (c.loop-o.invariant.told told k);
    }

pub returns-clause-stands : goal.returns-clause-stands
returns-clause-stands c = λ s h.
    let all = take_all c.loop-o.o-index c.args.touched.now (omega (arith, c.loop-o-test.false)) in
    subst (λ (os : List Identity). Within c.loop-o.self (told_of os s)) all (c.loop-o.invariant.stands s h)
