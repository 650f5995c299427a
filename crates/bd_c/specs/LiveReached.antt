-- Which todo lists of a live engine were filled or emptied, as was found when that was last asked.
use Rattle.std.specs.Prelude.{◌≡◌, ℕ, Bool, true, [], ◌∷◌, length, Option, option_map, slice_get, if◌then◌else◌}
use Rattle.bd_space.specs.declared.space.TodoList.{TodoList}
use Rattle.bd_space.specs.declared.space.TodoList.TheVariants.{OfThread, OfProcess}
use Rattle.bd_space.specs.Histories.{History, space_after}
use Rattle.bd_engine.specs.Follows.{Follows}
use Rattle.bd_engine.specs.Reached.{AreReached, KeepsTold, Recalls, has_work, knows_all}
use Rattle.bd_c.specs.Lives.{KeepsNotes, KeepsLists, Watches}
use Rattle.bd_c.specs.declared.live.OwnedLive.{OwnedLive}
use Rattle.bd_c.specs.declared.live_reached.ListTold.{ListTold}
use Rattle.bd_c.specs.declared.status.Status.{Status}
use Rattle.bd_c.specs.declared.status.Status.TheVariants.{Done, NoMemory}

-- the list of a seat's thread, or that of a process
abbrev pub list_told : TodoList → ListTold
list_told (OfThread seat) = record { kind = 0; number = seat }
list_told (OfProcess process) = record { kind = 1; number = process }

-- What is told where any list may have been filled or emptied.
abbrev pub any_list : ListTold
any_list = record { kind = 2; number = 0 }

-- How many lists C is told of. Where those that were found aren't all, one is told that stands for any list.
abbrev pub lists_count : OwnedLive → ℕ
lists_count x = if x.whole then length x.reached.items else 1

abbrev pub list_at : OwnedLive → ℕ → Option ListTold
list_at x index = if x.whole then option_map list_told (slice_get x.reached.items index) else slice_get (any_list ∷ []) index

-- nothing but the lists differs, and what was followed is followed
pub record OnlyLists (x y : OwnedLive) : Type 0 where
  pub latest : y.latest ≡ x.latest
  pub seats : y.bridge.engine.live.seats ≡ x.bridge.engine.live.seats
  pub ended : y.ended.items ≡ x.ended.items
  pub notes : KeepsNotes x y
  pub follows : (h : History) → Follows x.bridge.engine.live h → Follows y.bridge.engine.live h
  pub waits : y.bridge.waiters ≡ x.bridge.waiters
  pub watches : (h : History) → Watches x h → Watches y h

-- The engine was asked. Where the lists found are all, they are exactly those of which what was told before isn't so any more. From now
-- on what counts as told is how the lists are after the history.
pub record HasAsked (x y : OwnedLive) (count : ℕ) : Type 0 where
  pub only : OnlyLists x y
  pub whole : y.whole ≡ knows_all x.bridge.engine.live
  pub exact : y.whole ≡ true → (told : TodoList → Bool) (h : History) → Recalls x.bridge.engine.live told → Follows x.bridge.engine.live h → AreReached y.reached.items told (space_after h)
  pub afresh : (h : History) → Follows x.bridge.engine.live h → Recalls y.bridge.engine.live (has_work (space_after h))
  pub knows : knows_all y.bridge.engine.live ≡ true
  pub count_is : count ≡ lists_count y

-- The engine was asked, and found no memory: what was told is known still, and the lists of the last time are there still.
pub record HasNotAsked (x y : OwnedLive) : Type 0 where
  pub only : OnlyLists x y
  pub lists : KeepsLists x y
  pub recalls : KeepsTold x.bridge.engine.live y.bridge.engine.live

abbrev pub Asks : OwnedLive → OwnedLive → Status → ℕ → ℕ → Type 0
Asks x y Done before count = HasAsked x y count
Asks x y NoMemory before count = HasNotAsked x y × (count ≡ before)
Asks x y _ before count = ⊥
