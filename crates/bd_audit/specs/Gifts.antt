-- Gifts of objects from process to process, and chains of them.
use Rattle.std.specs.Prelude.{ℕ, ◌+◌, ◌≡◌, ◌≤◌, ◌⊎◌, ◌==◌, Bool, true, false, ◌&&◌, ◌||◌, List, [], ◌∷◌, ◌++◌, length, Some, is_some}
use Rattle.bd_ways.specs.Words.{list_any, Identity, Entry, Step, Process, Holder, Carried, same, is_some_and, Space}
use Rattle.bd_uapi.specs.declared.command.Command.TheVariants.{Increfs, Acquire}
use Rattle.bd_space.specs.declared.step.Step.TheVariants.{Command}
use Rattle.bd_space.specs.declared.step.StepAnswer.TheVariants.{Accepted}
use Rattle.bd_space.specs.Space.{opening}
use Rattle.bd_space.specs.Seats.{actor, process_with_pid}
use Rattle.bd_space.specs.References.{owned_in}
use Rattle.bd_space.specs.Names.{number_in, named}
use Rattle.bd_space.specs.Steps.{step}
use Rattle.bd_space.specs.Histories.{History, IsHistory, after, next, space_after}

-- the step is one of this process's threads
abbrev pub is_by : Space → Entry → ℕ → Bool
is_by s e p = is_some_and (actor s e.seat) (λ a. a.process.made == p)

-- What holds an object is the buffer that the step at this place made in q's window, which carries it.
abbrev pub is_carried_to : ℕ → ℕ → Holder → Bool
is_carried_to place q (Carried b r) = (b == place) && (r == q)
is_carried_to place q _ = false

abbrev pub is_sent_to : Space → Identity → ℕ → ℕ → Bool
is_sent_to z o place q = list_any (λ r. same r.object o && is_carried_to place q r.holder) z.references

-- p owns the object, which the step itself may make, or had a name for it
abbrev pub has : Space → Space → ℕ → Identity → Bool
has s z p o = owned_in z.objects p o || is_some (number_in s.names p o)

-- the entry at this place, whose step is made in the space s, sends the object from p to q
pub record Sends (s : Space) (place : ℕ) (e : Entry) (o : Identity) (p q : ℕ) : Type 0 where
  pub by : is_by s e p ≡ true
  pub has_it : has s (next s e) p o ≡ true
  pub carried : is_sent_to (next s e) o place q ≡ true

-- The step asks for a reference by handle 0: BC_INCREFS or BC_ACQUIRE.
abbrev pub is_asking_0 : Step → Bool
is_asking_0 (Command (Increfs n) parcel) = n == 0
is_asking_0 (Command (Acquire n) parcel) = n == 0
is_asking_0 _ = false

-- q asks for the context manager's object, by 0
pub record AsksManager (s : Space) (e : Entry) (o : Identity) (q : ℕ) : Type 0 where
  pub by : is_by s e q ≡ true
  pub asks : is_asking_0 e.step ≡ true
  pub accepted : (step s e.seat e.step).answer ≡ Accepted
  pub manager : s.manager ≡ Some o

-- the entry that stands at a place, with those before it
pub record Stands (es : List Entry) (place : ℕ) (before : List Entry) (e : Entry) : Type 0 where
  pub rest : List Entry
  pub all : es ≡ before ++ e ∷ rest
  pub at : length before ≡ place

-- at this place p gives the object to q
abbrev pub Gives : List Entry → ℕ → Identity → ℕ → ℕ → Type 0
Gives es i o p q = (before : List Entry) × (e : Entry) × Stands es i before e × Sends (after opening before) i e o p q

-- At this place the owner of the object gives it to q.
abbrev pub OwnerGives : List Entry → ℕ → Identity → ℕ → Type 0
OwnerGives es i o q =
    (before : List Entry) × (e : Entry) × (p : ℕ) × Stands es i before e × Sends (after opening before) i e o p q
    × (owned_in (next (after opening before) e).objects p o ≡ true)

-- At this place q asks for the object by handle 0, and it is the context manager's.
abbrev pub ManagerGives : List Entry → ℕ → Identity → ℕ → Type 0
ManagerGives es i o q = (before : List Entry) × (e : Entry) × Stands es i before e × AsksManager (after opening before) e o q

-- A chain of gifts from p, which has the object, on to q, at rising places from k on.
abbrev pub IsChainFrom : List Entry → Identity → ℕ → ℕ → List ℕ → ℕ → Type 0
IsChainFrom es o p k [] q = p ≡ q
IsChainFrom es o p k (i ∷ is) q = (r : ℕ) × (k ≤ i) × Gives es i o p r × IsChainFrom es o r (i + 1) is q

-- rising places, each a gift: the first by the owner or of the context manager's object, each later one by the receiver
-- before, the last to q
abbrev pub IsGiftChain : List Entry → Identity → List ℕ → ℕ → Type 0
IsGiftChain es o [] q = ⊥
IsGiftChain es o (i ∷ is) q = (r : ℕ) × (OwnerGives es i o r ⊎ ManagerGives es i o r) × IsChainFrom es o r (i + 1) is q

-- each name of a live process has a gift chain
abbrev pub NamesHaveGiftChains : Type 0
NamesHaveGiftChains = (h : History) → IsHistory h → (p number : ℕ) (o : Identity) → named (space_after h) p number ≡ Some o
    → (places : List ℕ) × IsGiftChain h.entries o places p

-- the places are a gift chain of what the number names for the live process with this pid
pub record IsChainOf (h : History) (pid number : ℕ) (places : List ℕ) : Type 0 where
  pub process : Process
  pub object : Identity
  pub lives : process_with_pid (space_after h).processes pid ≡ Some process
  pub names : named (space_after h) process.made number ≡ Some object
  pub chain : IsGiftChain h.entries object places process.made
