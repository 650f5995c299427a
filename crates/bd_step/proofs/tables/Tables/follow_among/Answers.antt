use Rattle.bd_step.proofs.{Words.{Earlier, Pairs, Within, is_among, names_among, names_followed, rules, subst, sym, take, take_all}, Following.{names_none, names_next, names_first, followed_objects}}
use Rattle.bd_step.proofs.tables.Tables.follow_among.Goals as goal

pub loop-o-init : goal.loop-o-init
loop-o-init c = record {
  stands = λ s h. subst (Within c.args.self.now) (sym (names_none c.args.p s)) h;
  uses = search rules;
  told = λ told k. k;
}

pub loop-o-preserved : goal.loop-o-preserved
loop-o-preserved c = record {
  stands = λ s h. subst (Within c.follow_name.new.self) (names_next c.args.p c.args.touched.now c.loop-o.o-index _ s c.loop-o-test.true)
      (c.follow_name.ensures.stands (names_followed (names_among c.args.p (take c.loop-o.o-index c.args.touched.now)) s) (c.loop-o.invariant.stands s h));
  uses = search rules;
  told = λ told k. c.follow_name.ensures.told told (c.loop-o.invariant.told told k);
}

pub returns-clause-stands : goal.returns-clause-stands
returns-clause-stands c = λ s h ordered.
    let p = c.args.p in
    let a = names_among p c.args.touched.now in
    let all = subst (λ os. Within c.loop-o.self (names_followed (names_among p os) s)) (take_all c.loop-o.o-index c.args.touched.now c.loop-o-test.false) (c.loop-o.invariant.stands s h) in
    subst (Within c.follow_objects.new.self) (sym (names_first a (is_among c.args.touched.now) s))
    (c.follow_objects.ensures.stands (names_followed a s) all (subst (Pairs Earlier) (sym (followed_objects a s)) ordered))
