-- By each step threads stay, or end.
use Rattle.std.proofs.Common.{◌≡◌, ℕ, None, sym, subst}
use Rattle.bd_space.specs.declared.step.Step.{Step}
use Rattle.bd_space.specs.declared.step.Step.TheVariants.{Open, Attach, SetManager, SetSpam, Command, Read, ExitThread, ExitProcess}
use Rattle.bd_space.specs.declared.space.{Actor.{Actor}}
use Rattle.bd_space.specs.Space.{Space}
use Rattle.bd_space.specs.Outcomes.{Outcome}
use Rattle.bd_space.specs.Seats.{thread_in, actor, actor_of}
use Rattle.std.specs.Option.{option_and_then}
use Rattle.bd_space.specs.Steps.{change, counted, by_actor}
use Rattle.bd_space.specs.Histories.{History, space_after}
use Rattle.bd_attached.specs.Threads.{ActorStays, BringsNone, NoneComes, ThreadsStay}
use Rattle.bd_attached.proofs.{Staying.{others, reader}, Own.{own_of}}

actors : (h : History) (seat : ℕ) → ActorStays h seat
unfolding counted
actors h seat x a b had has = own_of (space_after h) seat x a b had has

-- without a thread nobody acts
nobody : (s : Space) (seat : ℕ) (f : Actor → Outcome) → thread_in s.threads seat ≡ None → thread_in (by_actor s (actor s seat) f).space.threads seat ≡ None
unfolding actor
nobody s seat f none = subst (λ o. thread_in (by_actor s (option_and_then (actor_of s) o) f).space.threads seat ≡ None) (sym none) none

comes_in : (s : Space) (seat : ℕ) (x : Step) → BringsNone x → thread_in s.threads seat ≡ None → thread_in (change s seat x).space.threads seat ≡ None
unfolding change
comes_in s seat (Open pid euid window) no_one none = absurd no_one
comes_in s seat (Attach pid) no_one none = absurd no_one
comes_in s seat SetManager no_one none = nobody s seat _ none
comes_in s seat (SetSpam on) no_one none = nobody s seat _ none
comes_in s seat (Command c parcel) no_one none = nobody s seat _ none
comes_in s seat (Read limit) no_one none = nobody s seat _ none
comes_in s seat ExitThread no_one none = nobody s seat _ none
comes_in s seat ExitProcess no_one none = nobody s seat _ none

comes : (h : History) (seat : ℕ) → NoneComes h seat
unfolding counted
comes h seat x no_one none = comes_in (space_after h) seat x no_one none

pub threads_stay : ThreadsStay
threads_stay h seat = record { others = λ x t apart. others h seat x t apart; actor = actors h seat; comes = comes h seat; reads = λ limit. reader (space_after h) seat limit }
