use Rattle.bd_step.proofs.{Words.{Before, Exit, Grows, HasProcess, IfOk-weaker, Space, refl}, Gathering.{process_gathered, more_process}}
use Rattle.bd_step.proofs.tables.Tables.begin_process_exit.Goals as goal

pub returns-clause-has : goal.returns-clause-has
returns-clause-has c =
    let Q : Exit → Type 0 = λ x. (s : Space) → Before c.args.self.now s → HasProcess x s c.args.seats.now c.args.p in
    IfOk-weaker c.reserve_exit.result (Grows (record c.touch_list.new.exit { objects = c.touched_by_end.new.touched; deaths = _ })) Q
    (λ x grows s h. more_process _ x s c.args.seats.now c.args.p grows
    (process_gathered s c.args.seats.now c.args.p _ c.touch_list.new.exit _ (c.in_ok-touch_threads.ensures.has s h) (c.in_ok-touch_list.ensures.has s h) (c.in_ok-touch_list.ensures.grows s h) refl (c.in_ok-touched_by_end.ensures.all s h.objects_stand)))
    c.reserve_exit.ensures.grows
