use Rattle.bd_step.proofs.{Words.{ap, attach_step, change, exit_process_step, exit_thread_step, manager_step, open_step, spam_step}, Meeting.{any_step, by_step}}
use Rattle.bd_step.proofs.tables.Tables.change_rarely.Goals as goal

pub returns-in-Open-clause-step : goal.returns-in-Open-clause-step
unfolding change
returns-in-Open-clause-step c = any_step c.args.self.now c.args.actor (λ s. change s c.args.actor.thread.seat c.args.step.now) (λ s. open_step s c.args.actor.thread.seat c.in-Open.pid c.in-Open.euid c.in-Open.window) (λ s. ap (change s c.args.actor.thread.seat) c.in-Open.is) _ _ c.open.ensures.step

pub returns-in-Attach-clause-step : goal.returns-in-Attach-clause-step
unfolding change
returns-in-Attach-clause-step c = any_step c.args.self.now c.args.actor (λ s. change s c.args.actor.thread.seat c.args.step.now) (λ s. attach_step s c.args.actor.thread.seat c.in-Attach.pid) (λ s. ap (change s c.args.actor.thread.seat) c.in-Attach.is) _ _ c.attach.ensures.step

pub returns-in-SetManager-clause-step : goal.returns-in-SetManager-clause-step
unfolding change
returns-in-SetManager-clause-step c = by_step c.args.self.now c.args.actor (λ s. change s c.args.actor.thread.seat c.args.step.now) manager_step (λ s. ap (change s c.args.actor.thread.seat) c.in-SetManager.is) _ _ c.set_manager.ensures.step

pub returns-in-SetSpam-clause-step : goal.returns-in-SetSpam-clause-step
unfolding change
returns-in-SetSpam-clause-step c = by_step c.args.self.now c.args.actor (λ s. change s c.args.actor.thread.seat c.args.step.now) (λ s. spam_step s c.in-SetSpam.on) (λ s. ap (change s c.args.actor.thread.seat) c.in-SetSpam.is) _ _ c.set_spam_detection.ensures.step

pub returns-in-ExitThread-clause-step : goal.returns-in-ExitThread-clause-step
unfolding change
returns-in-ExitThread-clause-step c = by_step c.args.self.now c.args.actor (λ s. change s c.args.actor.thread.seat c.args.step.now) exit_thread_step (λ s. ap (change s c.args.actor.thread.seat) c.in-ExitThread.is) _ _ c.exit_thread.ensures.step

pub returns-in-ExitProcess-clause-step : goal.returns-in-ExitProcess-clause-step
unfolding change
returns-in-ExitProcess-clause-step c = by_step c.args.self.now c.args.actor (λ s. change s c.args.actor.thread.seat c.args.step.now) exit_process_step (λ s. ap (change s c.args.actor.thread.seat) c.in-ExitProcess.is) _ _ c.exit_process.ensures.step
