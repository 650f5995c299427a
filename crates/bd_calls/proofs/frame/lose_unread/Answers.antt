use Rattle.std.proofs.Common.{◌∙◌, ap, subst, rules}
use Rattle.bd_frames.specs.{Stands.{FramesAre}, Words.{lost_frame}}
use Rattle.bd_calls.proofs.OneByOne.{along, call_changed, no_call_changed, lost_unread}
use Rattle.bd_calls.proofs.frame.lose_unread.Goals as goal

pub loop-work-preserved-in-Call : goal.loop-work-preserved-in-Call
loop-work-preserved-in-Call c = record {
  stands = λ t rest. c.loop-work.invariant.stands t
      (rw c.in-Some.ensures.steps (λ fs are. rest _ (call_changed lost_frame _ _ c.in-Some.work.kind c.in-Call.made c.in-Call.is c.lose.ensures.stands fs are)));
  uses = search rules;
}

pub loop-work-preserved : goal.loop-work-preserved
loop-work-preserved c = record {
  stands = λ t rest. c.loop-work.invariant.stands t
      (rw c.in-Some.ensures.steps (λ fs are. rest _ (no_call_changed lost_frame c.loop-work.frames c.in-Some.work.kind c.in_default.not-Call fs are)));
  uses = search rules;
}

pub returns-clause-frames : goal.returns-clause-frames
returns-clause-frames c = λ works stand l are.
    subst (FramesAre c.loop-work.frames) (ap (λ ws. along lost_frame ws l) (c.into_iter-work-iterator.ensures.into_iter_gives ∙ c.works_on-work-items.ensures works stand) ∙ lost_unread works c.args.list l)
    (c.loop-work.invariant.stands _ (rw c.in-None.ensures.steps.0 (λ gs here. here)) l are)
