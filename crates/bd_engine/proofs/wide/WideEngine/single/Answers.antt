use Rattle.bd_engine.proofs.{Runs.{single_has_run}, Words.{refl}}
use Rattle.bd_engine.proofs.wide.WideEngine.single.Goals as goal

pub returns-in-Ok-clause-ok : goal.returns-in-Ok-clause-ok
returns-in-Ok-clause-ok c = λ request one.
    let made = c.in-Ok.ensures in
    let history = rw c.put.ensures.seat at (rw c.put.ensures.step at made.history) in
    let answer = rw c.put.ensures.seat at (rw c.put.ensures.step at made.answer) in
    let said = c.tell.ensures _ made.brief (λ got. refl) in
    single_has_run _ _ _ _ _ _ _ _ _ history answer said c.len-from.ensures c.len.ensures one
