-- What a step leaves of the threads, after an entry more.
use Rattle.std.proofs.Common.{◌≡◌, ◌⊎◌, ℕ, Some, None, sym, ap, subst, ◌∙◌}
use Rattle.bd_space.specs.Space.{Space, opening}
use Rattle.bd_space.specs.declared.step.{Step.{Step}, StepAnswer.{StepAnswer}}
use Rattle.bd_space.specs.declared.step.Step.TheVariants.{Read}
use Rattle.bd_space.specs.declared.space.Thread.{Thread}
use Rattle.bd_space.specs.Seats.{thread_in}
use Rattle.bd_space.specs.Steps.{step}
use Rattle.bd_space.specs.Histories.{History, space_after, extended}
use Rattle.bd_engine.proofs.Keeping.{after_more}
use Rattle.bd_attached.specs.Threads.{BringsNone}
use Rattle.bd_attached.proofs.Stays.{threads_stay}

after_is : (h : History) (seat : ℕ) (x : Step) (answer : StepAnswer) → space_after (extended h seat x answer) ≡ (step (space_after h) seat x).space
unfolding space_after
after_is h seat x answer = after_more opening h.entries (record { seat = seat; step = x; answer = answer })

-- another seat's thread is the same, or has ended
pub others : (h : History) (seat : ℕ) (x : Step) (answer : StepAnswer) (t : ℕ) → (t ≡ seat → ⊥)
    → (thread_in (space_after (extended h seat x answer)).threads t ≡ thread_in (space_after h).threads t) ⊎ (thread_in (space_after (extended h seat x answer)).threads t ≡ None)
others h seat x answer t apart =
    subst (λ (z : Space). (thread_in z.threads t ≡ thread_in (space_after h).threads t) ⊎ (thread_in z.threads t ≡ None)) (sym (after_is h seat x answer))
    ((threads_stay h seat).others x t apart)

-- the actor's is of the same process
pub actors : (h : History) (seat : ℕ) (x : Step) (answer : StepAnswer) (a b : Thread) → thread_in (space_after h).threads seat ≡ Some a
    → thread_in (space_after (extended h seat x answer)).threads seat ≡ Some b → b.process ≡ a.process
actors h seat x answer a b had has = (threads_stay h seat).actor x a b had (ap (λ (z : Space). thread_in z.threads seat) (sym (after_is h seat x answer)) ∙ has)

-- or doesn't come
pub none_comes : (h : History) (seat : ℕ) (x : Step) (answer : StepAnswer) → BringsNone x → thread_in (space_after h).threads seat ≡ None
    → thread_in (space_after (extended h seat x answer)).threads seat ≡ None
none_comes h seat x answer brings none = ap (λ (z : Space). thread_in z.threads seat) (after_is h seat x answer) ∙ (threads_stay h seat).comes x brings none

-- a read leaves all threads as they are
pub reader : (h : History) (seat limit : ℕ) (answer : StepAnswer) → (space_after (extended h seat (Read limit) answer)).threads ≡ (space_after h).threads
reader h seat limit answer = ap (λ (z : Space). z.threads) (after_is h seat (Read limit) answer) ∙ (threads_stay h seat).reads limit
