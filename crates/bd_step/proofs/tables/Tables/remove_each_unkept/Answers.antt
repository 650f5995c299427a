use Rattle.bd_step.proofs.{Words.{neither, Identity, IsNobodyDue, List, Within, arith, false, is_among, is_some, objects_go_of, rules, shed_of, subst, sym, take, take_all, true, ◌∙◌}, FollowingObjects.{nobody_next, shed_none, shed_next}, New.{is_none}}
use Rattle.bd_step.proofs.tables.Tables.remove_each_unkept.Goals as goal

pub loop-o-init : goal.loop-o-init
loop-o-init c = record {
  nobody = λ f s h o e. absurd (cc);
  stands = λ s h. subst (Within c.args.self.now) (sym (shed_none s)) h;
  uses = search rules;
  told = λ told k. k;
}

pub loop-o-preserved : goal.loop-o-preserved
unfolding shed_of objects_go_of
loop-o-preserved c =
    let os = c.args.touched.now in
    let k = c.loop-o.o-index in
    record {
      nobody = λ f s h.
          let parts = neither c.loop-o.due (is_some c.remove_unkept-owner.result) (sym c.is_due-due.ensures ∙ f) in
          nobody_next os k _ s c.loop-o-test.true (c.loop-o.invariant.nobody parts.0 s h)
          (sym (c.remove_unkept-owner.ensures.owner (shed_of (is_among (take k os)) s) (c.loop-o.invariant.stands s h)) ∙ is_none _ parts.1);
      stands = λ s h. subst (Within _) (shed_next os k _ s c.loop-o-test.true)
          (c.remove_unkept-owner.ensures.stands (shed_of (is_among (take k os)) s) (c.loop-o.invariant.stands s h));
      uses = search rules;
      told = λ told k. c.remove_unkept-owner.ensures.told told (c.loop-o.invariant.told told k);
    }

pub returns-clause-stands : goal.returns-clause-stands
returns-clause-stands c = λ s h.
    let all = take_all c.loop-o.o-index c.args.touched.now (omega (arith, c.loop-o-test.false)) in
    subst (λ (os : List Identity). Within c.loop-o.self (shed_of (is_among os) s)) all (c.loop-o.invariant.stands s h)

pub returns-clause-nobody : goal.returns-clause-nobody
returns-clause-nobody c = λ f s h.
    let all = take_all c.loop-o.o-index c.args.touched.now (omega (arith, c.loop-o-test.false)) in
    subst (λ (os : List Identity). IsNobodyDue (shed_of (is_among os) s) os) all (c.loop-o.invariant.nobody f s h)
