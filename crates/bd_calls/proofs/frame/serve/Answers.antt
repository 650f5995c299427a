use Rattle.std.proofs.{Common.{refl, rules, subst, arith}, lemmas.List.{drop_all, drop_more}}
use Rattle.bd_space.specs.ReadItems as reading
use Rattle.bd_frames.specs.Stands.{FramesAre}
use Rattle.bd_calls.proofs.{OneByOne.{along_at_once, call_changed, no_call_changed}, frame.serve.Goals.{in-Call, in_default}}
use Rattle.bd_calls.proofs.frame.serve.Goals as goal

pub loop-work-preserved : goal.loop-work-preserved
loop-work-preserved c =
    let g = reading.serve c.args.seat in
    let next = drop_more c.args.taken.now c.loop-work.work-index _ (omega arith) in
    elim c.match-work.branch [
      | in-Call w ↦ rw w.frames-is (record {
        stands = λ t rest. c.loop-work.invariant.stands t (rw next (λ fs are. rest _ (call_changed g _ _ _ w.in-Call.made w.in-Call.is w.serve.ensures.stands fs are)));
        uses = search rules;
      })
      | in_default w ↦ rw w.frames-is (record {
        stands = λ t rest. c.loop-work.invariant.stands t (rw next (λ fs are. rest _ (no_call_changed g _ _ w.in_default.not-Call fs are)));
        uses = search rules;
      })
    ]

pub returns-clause-frames : goal.returns-clause-frames
returns-clause-frames c = λ fs are.
    subst (FramesAre c.loop-work.frames) (along_at_once (reading.serve c.args.seat) (λ f. refl) (λ f. refl) c.args.taken.now fs)
    (c.loop-work.invariant.stands _ (rw (drop_all c.loop-work.work-index c.args.taken.now (omega arith)) (λ gs here. here)) fs are)
