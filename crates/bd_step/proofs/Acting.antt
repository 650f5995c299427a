-- Who makes a step.
use Rattle.bd_step.proofs.{Words.{Actor, List, None, Option, Process, Some, Space, Thread, actor, actor_of, option_and_then, option_map, process_in, refl, sym, thread_in, ℕ, ◌∙◌, ◌≡◌}, Finding.{found_lives}}

-- the actor of a thread has the process that is found
abbrev actor_with : Thread → Option Process → Option Actor
actor_with t None = None
actor_with t (Some q) = Some (record { thread = t; process = q })

abbrev actor_of_thread : List Process → Option Thread → Option Actor
actor_of_thread ps None = None
actor_of_thread ps (Some t) = actor_with t (process_in ps t.process)

as_found : (s : Space) (seat : ℕ) → actor s seat ≡ actor_of_thread s.processes (thread_in s.threads seat)
unfolding actor
as_found s seat = go (thread_in s.threads seat)
  where
    with : (t : Thread) (o : Option Process) → option_map (λ q. record { thread = t; process = q }) o ≡ actor_with t o
    with t None = refl
    with t (Some q) = refl

    go : (t : Option Thread) → option_and_then (actor_of s) t ≡ actor_of_thread s.processes t
    go None = refl
    go (Some t) = with t (process_in s.processes t.process)

with_found : (t : Thread) (o : Option Process) (a : Actor) → actor_with t o ≡ Some a → o ≡ Some a.process
with_found t None a e = cc
with_found t (Some q) a e = cc

of_thread_found : (ps : List Process) (t : Option Thread) (a : Actor) → actor_of_thread ps t ≡ Some a → process_in ps a.process.made ≡ Some a.process
of_thread_found ps None a e = cc
of_thread_found ps (Some t) a e =
    found_lives ps t.process a.process (with_found t (process_in ps t.process) a e)

pub process_of : (s : Space) (seat : ℕ) (a : Actor) → actor s seat ≡ Some a → process_in s.processes a.process.made ≡ Some a.process
process_of s seat a e = of_thread_found s.processes (thread_in s.threads seat) a (sym (as_found s seat) ∙ e)
