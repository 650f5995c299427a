use Rattle.bd_step.proofs.{Words.{ObjectTest, Space, Within, ap, are_known_before, close_up, follow_of, is_among, length, no_name, refl, replied, subst, sym, ℕ, ◌∙◌}, Afterwards.{replied_sends, replied_followed, replied_ordered}, Meeting.{taken_step}, Refusals.{full_if}, Standing.{numbers_completed}}
use Rattle.bd_step.proofs.tables.Tables.answer.Goals as goal

pub returns-in-Err-clause-step : goal.returns-in-Err-clause-step
returns-in-Err-clause-step c = record {
  ok = tt;
  err = λ s h. c.in-Err.ensures.err s (c.in-Ok.ensures.stands s h);
  full = λ s h p. full_if _ _ (numbers_completed (replied s c.args.actor c.args.sent.now c.args.f c.args.delivery) (c.in-Err.ensures.full s (c.in-Ok.ensures.stands s h)));
}

pub returns-clause-step : goal.returns-clause-step
returns-clause-step c = taken_step _ _ _ _ _ (
    record {
      answered = λ s h p. refl;
      stands = λ s h p.
          let f = c.args.f in
          let z = replied s c.args.actor c.args.sent.now f c.args.delivery in
          let looked = ap is_among c.as_slice.ensures.value ∙ c.in-Ok.ensures.touched.among
          ∙ ap (λ (n : ℕ). are_known_before n c.args.delivery.sending.items) (sym h.own.steps_are) in
          subst (Within c.close_up.new.self)
          (ap (λ (b : ObjectTest). let y : Space = follow_of no_name b z in close_up (length y.frames) f.parent y) looked
          ∙ sym (replied_followed s c.args.actor c.args.sent.now f c.args.delivery p))
          (c.close_up.ensures.stands (follow_of no_name (is_among c.as_slice.result.now) z)
          (c.follow_objects.ensures.stands z (c.in-Ok-replied.ensures.ok s (c.in-Ok.ensures.stands s h) (replied_sends s c.args.actor c.args.sent.now f c.args.delivery p)) (replied_ordered s c.args.actor c.args.sent.now f c.args.delivery p)));
    })
