use Rattle.bd_step.proofs.{Words.{exit_process_step, refl, ◌∙◌}, Exiting.{process_ends}, Meeting.{taken_step, meets}, Standing.{within}}
use Rattle.bd_step.proofs.tables.Tables.exit_process.Goals as goal

pub returns-clause-step : goal.returns-clause-step
unfolding exit_process_step
returns-clause-step c = taken_step _ _ _ _ _ (
    meets _ _ _ _ _ (λ s h by. record {
      answered = refl;
      stands =
          process_ends _ _ _ s c.args.actor.process.made c.in-Ok.exit _ _ c.objects.ensures (c.as_mut_slice.ensures.value ∙ c.into_frames-frames.ensures) by.tidy (c.in-Ok.ensures.has s h)
          (c.end_process.ensures.stands s (within _ s (c.begin_exit.ensures.stands s h)) (c.as_slice.ensures.value ∙ c.in-Ok.ensures.seats s h) (c.deaths.ensures ∙ c.in-Ok.ensures.deaths s h)) c.follow_objects.ensures.stands c.close_among.ensures.stands;
    }))
