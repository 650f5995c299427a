-- The gifts by which names begin, as the search for a gift chain finds them.
use Rattle.std.specs.Prelude.{ℕ, ◌+◌, ◌≡◌, ◌<◌, ◌⊎◌, Bool, true, false, not, ◌&&◌, List, [], ◌∷◌, ◌++◌, length, take, Option, Some, None, option_map, option_and_then, get_or, IfSome, IsSomeAnd}
use Rattle.bd_ways.specs.Words.{Identity, Entry, Process, Buffer, when, Space}
use Rattle.bd_space.specs.Space.{opening}
use Rattle.bd_space.specs.Seats.{process_with_pid}
use Rattle.bd_space.specs.Names.{named}
use Rattle.bd_space.specs.Returns.{buffer_in}
use Rattle.bd_space.specs.Histories.{after}
use Rattle.bd_laws.specs.Lists.{In}
use Rattle.bd_engine.specs.Looks.{knows, process_of}
use Rattle.bd_audit.specs.declared.gifts.Gift.{Gift}
use Rattle.bd_audit.specs.Gifts.{Stands, Sends, OwnerGives, ManagerGives, IsGiftChain}

-- p has a name for the object after these entries
abbrev pub knows_after : List Entry → ℕ → Identity → Bool
knows_after es p o = knows (after opening es) p o

-- the process that makes a step, if it has a name for the object
abbrev pub giver_in : Space → ℕ → Identity → Option ℕ
giver_in s seat o = option_and_then (λ p. when (knows s p o) p) (process_of s seat)

-- what one entry more gives, if q's name for the object begins there
abbrev pub gift_made : List Entry → Entry → ℕ → Identity → Option Gift
gift_made es e q o =
    when (not (knows_after es q o) && knows_after (es ++ e ∷ []) q o)
    (record { receiver = q; place = length es; giver = giver_in (after opening es) e.seat o })

-- the process in whose window the buffer made at this place lies
abbrev pub receiver_at : Space → ℕ → Option ℕ
receiver_at s place = option_map (λ (b : Buffer). b.receiver) (buffer_in s.buffers place)

-- the process in whose window this entry's step makes a buffer
abbrev pub receiver_of : List Entry → Entry → Option ℕ
receiver_of es e = receiver_at (after opening (es ++ e ∷ [])) (length es)

-- at each place, the process in whose window its step makes a buffer
pub record AreReceivers (es : List Entry) (rs : List (Option ℕ)) : Type 0 where
  pub all : length rs ≡ length es
  pub each : (i : ℕ) → i < length es → get_or rs i None ≡ receiver_at (after opening (take (i + 1) es)) i

-- at this place p, which had a name for the object, gives it to q
abbrev pub HolderGives : List Entry → ℕ → Identity → ℕ → ℕ → Type 0
HolderGives es i o p q =
    (before : List Entry) × (e : Entry) × Stands es i before e × Sends (after opening before) i e o p q × (knows_after before p o ≡ true)

-- At this place q is given the object, by this process, which had a name for it; with None by its owner, or as the manager's.
abbrev pub GivenBy : List Entry → ℕ → Identity → ℕ → Option ℕ → Type 0
GivenBy es i o q None = OwnerGives es i o q ⊎ ManagerGives es i o q
GivenBy es i o q (Some p) = HolderGives es i o p q

abbrev pub IsGift : List Entry → Identity → Gift → Type 0
IsGift es o g = (g.place < length es) × GivenBy es g.place o g.receiver g.giver

-- q's name for the object begins with this entry
abbrev pub BeginsAt : List Entry → Entry → Identity → ℕ → Type 0
BeginsAt es e o q = (knows_after es q o ≡ false) × (knows_after (es ++ e ∷ []) q o ≡ true)

-- The name of the gift's receiver begins with this entry, which is the gift that is told.
pub record BeginsWith (es : List Entry) (e : Entry) (o : Identity) (g : Gift) : Type 0 where
  pub begins : BeginsAt es e o g.receiver
  pub place : g.place ≡ length es
  pub giver : g.giver ≡ giver_in (after opening es) e.seat o

-- what this entry gives: the gift to the process whose name for the object begins there; with none no name begins
pub record IsGiftOf (es : List Entry) (e : Entry) (o : Identity) (gift : Option Gift) : Type 0 where
  pub made : IfSome gift (BeginsWith es e o)
  pub every : (q : ℕ) → BeginsAt es e o q → IsSomeAnd gift (λ g. g.receiver ≡ q)

-- ---- gifts in the order of their places

-- One of these gifts is to q.
abbrev pub HasGift : List Gift → ℕ → Type 0
HasGift gs q = (g : Gift) × In g gs × (g.receiver ≡ q)

-- The gift comes after all of these: they are at earlier places, and one of them is to its giver, if it has one.
pub record Follows (before : List Gift) (g : Gift) : Type 0 where
  pub later : (h : Gift) → In h before → h.place < g.place
  pub given : IfSome g.giver (HasGift before)

abbrev pub FollowAfter : List Gift → List Gift → Type 0
FollowAfter before [] = Unit {0}
FollowAfter before (g ∷ gs) = Follows before g × FollowAfter (before ++ g ∷ []) gs

-- Each gift of the list follows those before it.
abbrev pub IsLinked : List Gift → Type 0
IsLinked gs = FollowAfter [] gs

-- All of these are gifts of the object in these entries.
abbrev pub AllGifts : List Entry → Identity → List Gift → Type 0
AllGifts es o gs = (g : Gift) → In g gs → IsGift es o g

-- These gifts of the object are linked, and there is one to each process that has a name for the object after these entries.
pub record AreGifts (es : List Entry) (o : Identity) (gs : List Gift) : Type 0 where
  pub linked : IsLinked gs
  pub gifts : AllGifts es o gs
  pub known : (q : ℕ) → knows_after es q o ≡ true → HasGift gs q

-- wherever these are gifts of an object, the places are a gift chain of it to q
abbrev pub IsWay : List Gift → List ℕ → ℕ → Type 0
IsWay gs places q = (es : List Entry) (o : Identity) → AllGifts es o gs → IsGiftChain es o places q

-- p is the live process with this pid, and this number names the object for it
pub record IsHolder (s : Space) (pid number p : ℕ) (o : Identity) : Type 0 where
  pub process : Process
  pub made : process.made ≡ p
  pub lives : process_with_pid s.processes pid ≡ Some process
  pub names : named s p number ≡ Some o
