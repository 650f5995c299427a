-- The step that ends a process.
use Rattle.std.specs.Prelude.{ℕ, ◌==◌, Bool, true, false, not, ◌&&◌, ◌||◌, List, map, Some, None, filter, fold, option_and_then, if◌then◌else◌}
use Rattle.bd_space.specs.Words.{StepAnswer, Thread, Object, Reference, DeathNotification, OfProcess, WorkKind, Phase, Armed, Queued, Space, Actor}
use Rattle.bd_space.specs.{References.{owned_in, is_asked_by, is_in_window, is_of_owner}, Todo.{owe, is_on}, Notices.follow, Settle.settle, Deaths.with_phase, Outcomes.Outcome, ThreadExits.{unread_frame, thread_goes}}

abbrev pub seat_of : Thread → ℕ
seat_of t = t.seat

-- all its threads end first
unfoldable pub threads_go : Space → ℕ → Space
threads_go s p = fold thread_goes s (map seat_of (filter (λ t. t.process == p) s.threads))

-- the process asked for it, a buffer in its window holds it, or it is its own to acknowledge or the context manager's
abbrev pub is_dropped_with : List Object → ℕ → Reference → Bool
is_dropped_with objects p r = is_asked_by p r.holder || is_in_window p r.holder || (owned_in objects p r.object && is_of_owner r.holder)

-- everything that is the process's goes; its objects stay as long as others refer to them
unfoldable pub without_process : Space → ℕ → Space
without_process s p = record s {
  processes = filter (λ q. not (q.made == p)) s.processes;
  manager = option_and_then (λ o. if owned_in s.objects p o then None else Some o) s.manager;
  frames = map (unread_frame s.todo (OfProcess p)) s.frames;
  references = filter (λ r. not (is_dropped_with s.objects p r)) s.references;
  names = filter (λ m. not (m.process == p)) s.names;
  buffers = filter (λ b. not (b.receiver == p)) s.buffers;
  deaths = filter (λ x. not (x.process == p)) s.deaths;
  todo = filter (λ w. not (is_on (OfProcess p) w)) s.todo;
}

abbrev pub is_armed : Phase → Bool
is_armed Armed = true
is_armed _ = false

-- an armed notification on an object of the process is told
abbrev pub tell_death : ℕ → Space → DeathNotification → Space
tell_death p s x =
    if is_armed x.phase && owned_in s.objects p x.object then owe (with_phase s x.made Queued) (OfProcess x.process) (WorkKind.Death x.made) else s

unfoldable pub tell_deaths : Space → ℕ → Space
tell_deaths s p = fold (tell_death p) s s.deaths

unfoldable pub exit_process_step : Space → Actor → Outcome
exit_process_step s a =
    record { answer = StepAnswer.Exited; space = settle (follow (tell_deaths (without_process (threads_go s a.process.made) a.process.made) a.process.made)) }
