use Rattle.bd_step.proofs.{Words.{exit_thread_step, refl, ◌∙◌}, Exiting.{thread_ends}, Meeting.{taken_step, meets}, Standing.{within}}
use Rattle.bd_step.proofs.tables.Tables.exit_thread.Goals as goal

pub returns-clause-step : goal.returns-clause-step
unfolding exit_thread_step
returns-clause-step c = taken_step _ _ _ _ _ (
    meets _ _ _ _ _ (λ s h by. record {
      answered = refl;
      stands =
          thread_ends _ _ _ s c.args.actor c.in-Ok.exit _ _ c.objects.ensures (c.as_mut_slice.ensures.value ∙ c.into_frames-frames.ensures) by (c.in-Ok.ensures.has s h)
          (c.thread_goes.ensures.stands s (within _ s (c.begin_thread_exit.ensures.stands s h))) c.follow_among.ensures.stands c.close_among.ensures.stands;
    }))
