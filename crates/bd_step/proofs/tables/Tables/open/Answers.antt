use Rattle.bd_step.proofs.{Words.{StandsAt, open_outcome, open_step, refl, subst, sym, with_process, with_thread, ◌+◌, ◌∙◌}, Meeting.{taken_step, meets, in_case, is_refused}, New.{new_seat, new_pid}}
use Rattle.bd_step.proofs.tables.Tables.open.Goals as goal

pub returns-in-Some-clause-step : goal.returns-in-Some-clause-step
unfolding open_step
returns-in-Some-clause-step c = taken_step _ _ _ _ _ (
    meets _ _ _ _ _ (λ s h by.
    in_case _ _ (open_outcome s c.args.seat c.args.pid c.args.euid c.args.size) _ _ (sym (c.open_fault.ensures.fault s h) ∙ c.in-Some.is)
    (is_refused _ s c.in-Some.fault h)))

pub returns-clause-step : goal.returns-clause-step
unfolding open_step with_process with_thread
returns-clause-step c = taken_step _ _ _ _ _ (
    meets _ _ _ _ _ (λ s h by.
    let none = sym (c.open_fault.ensures.fault s h) ∙ c.in_default.is in
    let free = new_pid s c.args.seat c.args.pid c.args.size none in
    let opened = c.with_process.ensures.stands s (c.reserve_process.ensures.stands s h) free c.in-Ok.ensures.window in
    let both = c.add_thread.ensures.stands (s.steps + 1) _ opened (new_seat s c.args.seat c.args.pid c.args.size none) in
    in_case _ _ (open_outcome s c.args.seat c.args.pid c.args.euid c.args.size) _ _ none
    (record { answered = refl; stands = subst (λ p. StandsAt (s.steps + 1) c.add_thread.new.self (with_thread (with_process s c.args.pid c.args.euid c.args.size) c.args.seat p)) (sym opened.own.steps_are) both })))
