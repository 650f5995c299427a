-- The calls of a table with their slots and the numbers of their lists.
use Rattle.std.specs.{Prelude.{ℕ, ◌≡◌, ◌==◌, Bool, false, List, Option, map, find, AllPairs, option_map}, HashMap.{get}}
use Rattle.bd_ways.specs.Words.{Turn, Identity}
use Rattle.bd_space.specs.contracts.step.IdentityPartialEq.TheImpl as objects
use Rattle.bd_chains.specs.{Rows.{Row}, Lists.{Shows}}
use Rattle.bd_turns.specs.{declared.spot.Mark.{Mark}, declared.spot.Spot.{Spot}, declared.table.TurnTable.{TurnTable}, Spots.{spot_at, mark_of}}
use Rattle.bd_turns.specs.Turn.{hand_turn}

-- a call, where it stands, and on which lists
pub record Entry : Type 0 where
  pub turn : Turn
  pub spot : Spot
  pub lists : Spot

abbrev pub made_of : Entry → ℕ
made_of e = e.turn.made

-- among its object's
abbrev pub call_row : Entry → Row Turn
call_row e = record { key = e.spot.call; list = e.lists.call; held = record { value = e.turn; counted = false } }

-- among those in its window
abbrev pub mark_row : Entry → Row Mark
mark_row e = record { key = e.spot.mark; list = e.lists.mark; held = record { value = mark_of e.turn; counted = false } }

abbrev pub hand_entry : Entry → Entry
hand_entry e = record e { turn = hand_turn e.turn }

-- the calls of an object are one list, and those in a process's window
abbrev pub by_object : Turn → Identity
by_object t = t.target

abbrev pub by_window : Mark → ℕ
by_window m = m.receiver

abbrev pub same_object : Identity → Identity → Bool
same_object = (objects.ghosts).eq

abbrev pub same_window : ℕ → ℕ → Bool
same_window p q = p == q

abbrev pub object_number : TurnTable → Identity → Option ℕ
object_number t = get same_object t.objects.numbers.all

abbrev pub window_number : TurnTable → ℕ → Option ℕ
window_number t = get same_window t.windows.numbers.all

abbrev pub CallsShow : TurnTable → List (Row Turn) → Type 0
CallsShow t = Shows by_object (λ _. false) same_object (object_number t) t.objects.chains

abbrev pub MarksShow : TurnTable → List (Row Mark) → Type 0
MarksShow t = Shows by_window (λ _. false) same_window (window_number t) t.windows.chains

-- no two were made at one place, and by that place each is found
pub record EntriesAre (t : TurnTable) (es : List Entry) : Type 0 where
  pub on_objects : CallsShow t (map call_row es)
  pub in_windows : MarksShow t (map mark_row es)
  pub distinct : AllPairs (λ d e. made_of d ≡ made_of e → ⊥) es
  pub spots_are : (m : ℕ) → spot_at t.spots m ≡ option_map (λ e. e.spot) (find (λ e. made_of e == m) es)
