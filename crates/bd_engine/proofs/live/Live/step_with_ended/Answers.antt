use Rattle.bd_engine.proofs.{Ending.{then_ended}, Words.{extended}}
use Rattle.bd_engine.proofs.live.Live.step_with_ended.Goals as goal

pub returns-in-Ok-step-clause-ended : goal.returns-in-Ok-step-clause-ended
returns-in-Ok-step-clause-ended c = λ h follows.
    let answer = c.in-Ok-step.entry.answer in
    then_ended h c.args.seat c.args.step answer _ _ (c.in-Ok.ensures.listed h follows)
    (c.keep_gone.ensures (extended h c.args.seat c.args.step answer) (c.in-Ok-step.ensures.follows h follows))
