-- Of what certificates tell.
use Rattle.std.specs.Prelude.{◌≡◌, ◌+◌, ◌<◌, ◌≤◌, ℕ, All, List, [], ◌∷◌, length, map, Option}
use Rattle.std.specs.Option.{option_map}
use Rattle.bd_space.specs.declared.step.Entry.{Entry}
use Rattle.bd_space.specs.Space.{Space}
use Rattle.bd_space.specs.Histories.{History, space_after}
use Rattle.bd_engine.specs.Looks as looks
use Rattle.bd_audit.specs.declared.turns.Turn.{Turn}
use Rattle.bd_audit.specs.Gifts.{IsChainOf}
use Rattle.bd_audit.specs.Replays.{with_entry}
use Rattle.bd_player.specs.declared.certificates.Gift.{Gift}
use Rattle.bd_player.specs.declared.certificates.Named.{Named}
use Rattle.bd_player.specs.declared.certificates.TurnTold.{TurnTold}
use Rattle.bd_player.specs.Pids.{maker_of, owner_pid, pid_of, receiver_of, taker_of}

-- what a number names for the process with this pid, and the pid of its owner
abbrev pub named_by : Space → List Entry → ℕ → ℕ → Option Named
named_by s es pid number = option_map (λ o. record { object = o; owner = owner_pid s es o }) (looks.named_by s pid number)

abbrev pub turn_told : Turn → TurnTold
turn_told t = record { made = t.made; handed = t.handed; ended = t.ended }

-- the gift is of the step of this entry, after this history
pub record IsMadeBy (h : History) (es : List Entry) (e : Entry) (g : Gift) : Type 0 where
  pub place : g.place ≡ length h.entries
  pub pid : g.pid ≡ pid_of (space_after h) es e.seat
  pub to : g.to ≡ receiver_of (space_after (with_entry h e)) es (length h.entries)

-- the places rise from this one on, and at each stands an entry
abbrev pub Rise : ℕ → List Entry → List ℕ → Type 0
Rise k es [] = Unit {0}
Rise k es (i ∷ is) = (k ≤ i) × (i < length es) × Rise (i + 1) es is

-- who made the step at the gift's place is told, and who got what it sends
pub record IsGiftOf (h : History) (g : Gift) : Type 0 where
  pub pid : g.pid ≡ maker_of h g.place
  pub to : g.to ≡ taker_of h g.place

-- these are the gifts at these places, one after the other
pub record AreGiftsAt (h : History) (places : List ℕ) (gifts : List Gift) : Type 0 where
  pub places_are : map (λ g. g.place) gifts ≡ places
  pub each : All (IsGiftOf h) gifts

-- the gifts are those of a chain of what the number names for the live process with this pid
pub record AreChainOf (h : History) (pid number : ℕ) (gifts : List Gift) : Type 0 where
  pub places : List ℕ
  pub chain : IsChainOf h pid number places
  pub gifts_are : AreGiftsAt h places gifts
