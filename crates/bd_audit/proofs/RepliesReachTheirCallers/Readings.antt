-- For RepliesReachTheirCallers and RepliesAreHandedOut: a reading takes its items, or it is refused and takes nothing.
use Rattle.bd_laws.proofs.words.Logic.{◌≡◌, ℕ, ◌-◌, List, [], Option, Some, None, refl}
use Rattle.bd_laws.proofs.words.Types.{Fault, Read, Actor, Work}
use Rattle.bd_uapi.specs.declared.fault.Fault.TheVariants.{NoProcess}
use Rattle.bd_laws.proofs.words.Space.{Space, actor, list_to_read, Outcome, refused, taken, read_fault, read_step, read_taking, change, by_actor}
use Rattle.bd_audit.specs.Replies.{items_read, items_taken, items_unless}

-- R is said of the items that a reading takes, and of what it comes to
module _ (R : List Work → Outcome → Type 0) (s : Space) (none : (f : Fault) → R [] (refused s f)) where
  abbrev ws : ℕ → Actor → List Work
  ws limit a = taken s (limit - 4) (list_to_read s a.thread)

  faults : (limit : ℕ) (a : Actor) (o : Option Fault) → R (ws limit a) (read_taking s a.thread.seat (ws limit a))
      → R (items_unless o (ws limit a)) (elim o as (λ (o : Option Fault). Outcome) [ Some y ↦ refused s y | None ↦ read_taking s a.thread.seat (ws limit a) ])
  faults limit a None h = h
  faults limit a (Some y) h = none y

  acts : (seat limit : ℕ) → ((a : Actor) → actor s seat ≡ Some a → R (ws limit a) (read_taking s a.thread.seat (ws limit a)))
      → (o : Option Actor) → actor s seat ≡ o → R (items_read s limit o) (by_actor s o (λ a. read_step s a limit))
  unfolding read_step
  acts seat limit k None e = none NoProcess
  acts seat limit k (Some a) e = faults limit a (read_fault limit (list_to_read s a.thread)) (k a e)

  pub reading : (seat limit : ℕ) → ((a : Actor) → actor s seat ≡ Some a → R (ws limit a) (read_taking s a.thread.seat (ws limit a)))
      → R (items_taken s seat (Read limit)) (change s seat (Read limit))
  unfolding change
  reading seat limit k = acts seat limit k (actor s seat) refl
