-- Processes and threads.
use Rattle.std.specs.Prelude.{ℕ, ◌==◌, Bool, List, Option, find, option_and_then, option_map}
use Rattle.bd_space.specs.Words.{list_any, Process, Thread, Actor, Space}

-- the process lives
abbrev pub lives_in : List Process → ℕ → Bool
lives_in processes p = list_any (λ q. q.made == p) processes

-- the live process with this identity, and the one with this pid
abbrev pub process_in : List Process → ℕ → Option Process
process_in processes p = find (λ q. q.made == p) processes

abbrev pub process_with_pid : List Process → ℕ → Option Process
process_with_pid processes pid = find (λ q. q.pid == pid) processes

-- the live thread of a seat
abbrev pub thread_in : List Thread → ℕ → Option Thread
thread_in threads seat = find (λ t. t.seat == seat) threads

-- who makes a step: a live thread and its process
abbrev pub actor_of : Space → Thread → Option Actor
actor_of s t = option_map (λ q. record { thread = t; process = q }) (process_in s.processes t.process)

unfoldable pub actor : Space → ℕ → Option Actor
actor s seat = option_and_then (actor_of s) (thread_in s.threads seat)
