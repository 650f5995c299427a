use Rattle.bd_step.proofs.{Words.{Before, Exit, Grows, HasThread, IfOk-weaker, Space}, Gathering.{more_thread}}
use Rattle.bd_step.proofs.tables.Tables.begin_thread_exit.Goals as goal

pub returns-clause-has : goal.returns-clause-has
returns-clause-has c =
    let Q : Exit → Type 0 = λ x. (s : Space) → Before c.args.self.now s → HasThread x s c.args.seat in
    IfOk-weaker c.reserve_exit.result (Grows c.touch_thread.new.exit) Q
    (λ x grows s h. more_thread _ _ s c.args.seat grows (c.in_ok-touch_thread.ensures.has s h)) c.reserve_exit.ensures.grows
