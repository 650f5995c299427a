use Rattle.bd_step.proofs.{Words.{Identity, ObjectTest, Option, Within, ap, are_known_before, follow_of, is_among, no_name, refl, ripen_next, subst, sym, transacted, ℕ, ◌∙◌}, Afterwards.{sent_call, sent_followed, sent_ordered, ripened_ordered}, Meeting.{taken_step}, Refusals.{full_if}, Standing.{numbers_completed}}
use Rattle.bd_step.proofs.tables.Tables.transact.Goals as goal

pub returns-in-Err-clause-step : goal.returns-in-Err-clause-step
returns-in-Err-clause-step c = record {
  ok = tt;
  err = λ s h. c.in-Err.ensures.err s (c.in-Ok.ensures.stands s h);
  full = λ s h p. full_if _ _ (numbers_completed (transacted s c.args.actor c.args.sent.now c.args.delivery) (c.in-Err.ensures.full s (c.in-Ok.ensures.stands s h)));
}

pub returns-clause-step : goal.returns-clause-step
returns-clause-step c = taken_step _ _ _ _ _ (
    record {
      answered = λ s h p. refl;
      stands = λ s h p.
          let z = transacted s c.args.actor c.args.sent.now c.args.delivery in
          let target = c.one_way_target-target.result in
          let items = c.args.delivery.sending.items in
          let sent = are_known_before s.steps items in
          let looked = ap is_among c.as_slice.ensures.value ∙ c.in-Ok.ensures.touched.among ∙ ap (λ (n : ℕ). are_known_before n items) (sym h.own.steps_are) in
          subst (Within c.follow_objects.new.self)
          (ap (λ (b : ObjectTest). follow_of no_name b (ripen_next target z)) looked
          ∙ ap (λ (o : Option Identity). follow_of no_name sent (ripen_next o z)) c.one_way_target-target.ensures
          ∙ sym (sent_followed s c.args.actor c.args.sent.now c.args.delivery p))
          (c.follow_objects.ensures.stands (ripen_next target z)
          (c.ripen_next.ensures.stands z (c.in-Ok-transacted.ensures.ok s (c.in-Ok.ensures.stands s h) (sent_call s c.args.actor c.args.sent.now c.args.delivery p)))
          (ripened_ordered target z (sent_ordered s c.args.actor c.args.sent.now c.args.delivery p)));
    })
