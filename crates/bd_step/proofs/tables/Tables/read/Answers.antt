use Rattle.bd_step.proofs.{Words.{Again, IsReading, List, ReadTooSmall, Work, actor_lives, ap, is_none, list_to_read, read_step, read_taking, subst, sym, taken, ◌-◌, ◌∙◌}, Meeting.{IsOutcome, meets, in_case, is_refused, taken_step, written_step}, TakingItems.{read_outcome, too_small, nothing, readable}}
use Rattle.bd_step.proofs.tables.Tables.read.Goals as goal

pub returns-then-limit-lt72-clause-step : goal.returns-then-limit-lt72-clause-step
unfolding read_step
returns-then-limit-lt72-clause-step g c = written_step _ _ _ _ _ _ c.requires _ _ c.written.ensures (taken_step _ _ _ _ _ (meets _ _ _ _ _ (λ s h by.
    let ws = list_to_read s c.args.actor.thread in
    in_case _ _ (read_outcome s c.args.actor.thread.seat c.args.limit ws) _ _ (too_small c.args.limit ws c.if-limit-lt72.true) (is_refused _ s ReadTooSmall h))))

pub returns-in_default-clause-step : goal.returns-in_default-clause-step
unfolding read_step
returns-in_default-clause-step g c = written_step _ _ _ _ _ _ c.requires _ _ c.written-in_default.ensures (taken_step _ _ _ _ _ (meets _ _ _ _ _ (λ s h by.
    let ws = list_to_read s c.args.actor.thread in
    in_case _ _ (read_outcome s c.args.actor.thread.seat c.args.limit ws) _ _
    (nothing c.args.limit ws c.if-limit-lt72.false (sym (c.list_to_read.ensures.none s h (actor_lives s _ c.args.actor by.acts).0) ∙ ap is_none c.in_default.is)) (is_refused _ s Again h))))

pub returns-in-Ok-clause-step : goal.returns-in-Ok-clause-step
unfolding read_step
returns-in-Ok-clause-step g c = record {
  ok = meets _ _ _ _ _ (λ s h by.
      let t = c.args.actor.thread in
      let ok = c.in-Ok.ensures.ok in
      let reading : IsReading t c.in-Some.list s = record { tidy = by.tidy; reads = c.in-Some.ensures.some s h } in
      in_case _ _ (read_outcome s t.seat c.args.limit (list_to_read s t)) _ _ (readable c.args.limit (list_to_read s t) c.if-limit-lt72.false (sym (c.list_to_read.ensures.none s h (actor_lives s _ c.args.actor by.acts).0) ∙ ap is_none c.in-Some.is))
      (subst (λ (ws : List Work). IsOutcome c.read_list.new.self c.read_list.new.answer (read_taking s t.seat (taken s (c.args.limit - 4) ws))) (sym (c.in-Some.ensures.some s h))
      (record { answered = ok.answered s h reading; stands = ok.stands s h reading })));
  brief = c.in-Ok.ensures.got;
  held = c.in-Ok.ensures.kept;
  err = tt;
  full = tt;
}
