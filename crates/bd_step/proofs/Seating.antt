-- The seat of a step.
use Rattle.bd_step.proofs.Words.{Actor, Attach, ExitProcess, ExitThread, IsBy, IsTidy, NoProcess, None, Open, Option, Process, Read, SetManager, SetSpam, Some, Space, Step, Thread, actor, actor_of, ap, by_actor, change, command_step, eqb-true, exit_process_step, exit_thread_step, manager_step, none-some, option_and_then, option_map, process_in, read_step, refl, refused, spam_step, subst, sym, thread_in}
use Rattle.bd_step.proofs.{Words.{ℕ, ◌==◌, ◌∙◌, ◌≡◌}, Finding.{found_passes}}
use Rattle.bd_space.specs.declared.step.Step.TheVariants.{Command}

-- a seat without a live thread can only open and attach
pub nobody_changes : (s : Space) (seat : ℕ) (x : Step) → ((a b c : ℕ) → x ≡ Open a b c → ⊥) → ((a : ℕ) → x ≡ Attach a → ⊥) → actor s seat ≡ None
    → change s seat x ≡ refused s NoProcess
unfolding change
nobody_changes s seat (Open a b c) k l e = absurd (k a b c refl)
nobody_changes s seat (Attach a) k l e = absurd (l a refl)
nobody_changes s seat SetManager k l e = ap (λ o. by_actor s o (manager_step s)) e
nobody_changes s seat (SetSpam on) k l e = ap (λ o. by_actor s o (spam_step s on)) e
nobody_changes s seat (Command c parcel) k l e = ap (λ o. by_actor s o (λ a. command_step s a c parcel)) e
nobody_changes s seat (Read limit) k l e = ap (λ o. by_actor s o (λ a. read_step s a limit)) e
nobody_changes s seat ExitThread k l e = ap (λ o. by_actor s o (exit_thread_step s)) e
nobody_changes s seat ExitProcess k l e = ap (λ o. by_actor s o (exit_process_step s)) e

-- ---- the actor of a seat sits there

with_process : (t : Thread) (o : Option Process) (a : Actor) → option_map (λ q. record { thread = t; process = q }) o ≡ Some a → a.thread ≡ t
with_process t None a e = absurd (none-some a e)
with_process t (Some q) a e = cc

of_thread : (s : Space) (seat : ℕ) (o : Option Thread) (a : Actor) → thread_in s.threads seat ≡ o → option_and_then (actor_of s) o ≡ Some a → a.thread.seat ≡ seat
of_thread s seat None a e f = absurd (none-some a f)
of_thread s seat (Some t) a e f =
    let sits = eqb-true t.seat seat (found_passes (λ (x : Thread). x.seat == seat) s.threads t e) in
    ap (λ (x : Thread). x.seat) (with_process t (process_in s.processes t.process) a f) ∙ sits

pub sits : (s : Space) (seat : ℕ) (a : Actor) → actor s seat ≡ Some a → a.thread.seat ≡ seat
unfolding actor
sits s seat a e = of_thread s seat (thread_in s.threads seat) a refl e

pub acting_seat : (s : Space) (seat : ℕ) (a : Actor) (x : Step) → actor s seat ≡ Some a → IsTidy s → IsBy a s × (change s seat x ≡ change s a.thread.seat x)
acting_seat s seat a x e q = let same = sym (sits s seat a e) in (record { acts = subst (λ n. actor s n ≡ Some a) same e; tidy = q }, ap (λ n. change s n x) same)
