-- What a step leaves of the threads.
use Rattle.std.proofs.Common.{◌≡◌, ◌⊎◌, ℕ, ◌-◌, List, Option, Some, None, refl, ◌∙◌}
use Rattle.bd_space.specs.Space.{Space}
use Rattle.bd_space.specs.declared.step.Step.{Step}
use Rattle.bd_space.specs.declared.step.Step.TheVariants.{Read}
use Rattle.bd_space.specs.declared.space.{Actor.{Actor}, Work.{Work}}
use Rattle.bd_uapi.specs.declared.fault.Fault.{Fault}
use Rattle.bd_space.specs.Seats.{thread_in, actor}
use Rattle.bd_space.specs.Todo.{list_to_read}
use Rattle.bd_space.specs.Outcomes.{Outcome, refused}
use Rattle.bd_space.specs.ReadItems.{read_by, read_step, read_taking, read_fault, taken}
use Rattle.bd_laws.proofs.words.Space.{follow, notify, names_go, objects_go, deaths_go, work_goes, owe}
use Rattle.bd_space.specs.Steps.{step, change, counted, by_actor}
use Rattle.bd_space.specs.Histories.{History, space_after}
use Rattle.bd_laws.proofs.Machine.{Following.{follow_by}, Adding.{notify_keeps}}
use Rattle.bd_laws.proofs.Always.{always_tidy}
use Rattle.bd_laws.proofs.WhomAStepReaches.OtherSeats.{left_of}
use Rattle.bd_laws.specs.Frames.{IsFramed, Framed}

-- ---- of another seat

framed : (h : History) → Framed (space_after h).steps (space_after h).frames
unfolding IsFramed
framed h = (always_tidy h).framed

pub others : (h : History) (seat : ℕ) (x : Step) (t : ℕ) → (t ≡ seat → ⊥)
    → (thread_in (step (space_after h) seat x).space.threads t ≡ thread_in (space_after h).threads t) ⊎ (thread_in (step (space_after h) seat x).space.threads t ≡ None)
unfolding counted
others h seat x t apart = (left_of (space_after h) seat t apart (framed h) (always_tidy h).on_paths x).thread

-- ---- of who reads

sheds : (z : Space) → (work_goes z).threads ≡ z.threads
unfolding work_goes
sheds z = refl

notifies : (z : Space) → (notify z).threads ≡ z.threads
unfolding notify owe
notifies z = notify_keeps (λ todo. let y = record z { todo = todo } in y.threads ≡ z.threads) z (λ todo x l due e. refl) refl

pub follows_threads : (z : Space) → (follow z).threads ≡ z.threads
unfolding names_go objects_go deaths_go
follows_threads = follow_by (λ z y. z.threads ≡ y.threads) (λ z y x h k. h ∙ k) (record {
  names = λ z. refl;
  objects = λ z. refl;
  deaths = λ z. refl;
  work = sheds;
  notices = notifies;
})

by_fault : (s : Space) (seat : ℕ) (ws : List Work) (o : Option Fault)
    → (elim o as (λ _. Outcome) [ Some x ↦ refused s x | None ↦ read_taking s seat ws ]).space.threads ≡ s.threads
unfolding read_taking read_by
by_fault s seat ws (Some x) = refl
by_fault s seat ws None = follows_threads (read_by s seat ws)

reads : (s : Space) (a : Actor) (limit : ℕ) → (read_step s a limit).space.threads ≡ s.threads
unfolding read_step
reads s a limit = by_fault s a.thread.seat (taken s (limit - 4) (list_to_read s a.thread)) (read_fault limit (list_to_read s a.thread))

by_reader : (s : Space) (limit : ℕ) (o : Option Actor) → (by_actor s o (λ a. read_step s a limit)).space.threads ≡ s.threads
by_reader s limit None = refl
by_reader s limit (Some a) = reads s a limit

pub reader : (s : Space) (seat limit : ℕ) → (step s seat (Read limit)).space.threads ≡ s.threads
unfolding counted change
reader s seat limit = by_reader s limit (actor s seat)
