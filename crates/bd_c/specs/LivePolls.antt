-- Which seats of a live engine have something to read, as was noted when they were last looked at.
use Rattle.std.specs.Prelude.{◌≡◌, ◌==◌, ◌<◌, ◌≤◌, ℕ, Bool, false, List, All, length, count_by, get_or, if◌then◌else◌}
use Rattle.bd_space.specs.Histories.{History, space_after, is_ready}
use Rattle.bd_engine.specs.Follows.{Follows}
use Rattle.bd_engine.specs.Readiness.{has_seat, flipped}
use Rattle.bd_c.specs.Lives.{KeepsNotes, KeepsLists}
use Rattle.bd_c.specs.declared.live.OwnedLive.{OwnedLive}
use Rattle.bd_c.specs.declared.status.Status.{Status}
use Rattle.bd_c.specs.declared.status.Status.TheVariants.{Done, NoMemory}

-- a seat that wasn't looked at yet had nothing to read
abbrev pub is_noted : OwnedLive → ℕ → Bool
is_noted x seat = get_or x.noted.items seat false

-- nothing but the notes differs
pub record OnlyNotes (x y : OwnedLive) : Type 0 where
  pub bridge : y.bridge ≡ x.bridge
  pub latest : y.latest ≡ x.latest
  pub ended : y.ended.items ≡ x.ended.items
  pub lists : KeepsLists x y

-- after this history each of these seats is noted as it is, and every other as before; exactly those are listed that changed by
-- it, each once
pub record AreNoted (h : History) (x y : OwnedLive) (seats : List ℕ) : Type 0 where
  pub noted : (seat : ℕ) → seat < x.bridge.engine.live.seats → is_noted y seat ≡ (if has_seat seats seat then is_ready (space_after h) seat else is_noted x seat)
  pub changed : (seat : ℕ) → seat < x.bridge.engine.live.seats → has_seat y.changed.items seat ≡ flipped (is_noted x seat) (is_noted y seat)
  pub once : (seat : ℕ) → seat < x.bridge.engine.live.seats → count_by (λ v. v == seat) y.changed.items ≤ 1
  pub inside : All (λ seat. seat < x.bridge.engine.live.seats) y.changed.items

pub record HasPolled (x y : OwnedLive) (seats : List ℕ) (count : ℕ) : Type 0 where
  pub only : OnlyNotes x y
  pub noted : (h : History) → Follows x.bridge.engine.live h → AreNoted h x y seats
  pub count_is : count ≡ length y.changed.items

-- these seats were looked at, and it is told how many changed; or there was no memory, and all is as it was
abbrev pub Polls : OwnedLive → OwnedLive → List ℕ → Status → ℕ → ℕ → Type 0
Polls x y seats Done before count = HasPolled x y seats count
Polls x y seats NoMemory before count = OnlyNotes x y × KeepsNotes x y × (count ≡ before)
Polls x y seats _ before count = ⊥
