use Rattle.bd_step.proofs.{Words.{Frame, arith, or_left, or_right, refl, serves}, Gathered.{on_err, any_kept}, Gathering.{frames_then, served_gathered}}
use Rattle.bd_step.proofs.tables.Tables.touch_thread.Goals as goal

pub returns-clause-has : goal.returns-clause-has
returns-clause-has c = λ s h. record {
  list = c.in_ok-touch_list.ensures.has s h;
  served = λ f l e. (c.in_ok-touch_list.ensures.grows s h).frames f.made (served_gathered s c.args.seat _ c.args.exit.now.frames.items (c.in_ok-served.ensures.served s h.calls_stand) f l e);
}

pub returns-clause-grows : goal.returns-clause-grows
returns-clause-grows c = λ s h. frames_then _ _ _ _ refl (c.in_ok-served.ensures.served s h.calls_stand) (c.in_ok-touch_list.ensures.grows s h)

pub returns-in_err-served-clause-grown : goal.returns-in_err-served-clause-grown
returns-in_err-served-clause-grown c = on_err c.from_residual.result (λ s h.
    or_left _ _ (any_kept (λ (f : Frame). serves c.args.seat f.server) s.frames (let few = c.in_err-served.ensures.grown s h.calls_stand in let fits = c.args.exit.now.frames.ok.1 in omega (arith, few, fits))))

pub returns-in_err-touch_list-clause-grown : goal.returns-in_err-touch_list-clause-grown
returns-in_err-touch_list-clause-grown c = on_err c.from_residual-in_err-touch_list.result (λ s h. or_right _ _ (c.in_err-touch_list.ensures.grown s h))
