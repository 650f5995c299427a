-- Windows by whose they are.
use Rattle.std.specs.Prelude.{ℕ, ◌≡◌, ◌<◌, ◌==◌, false, List, Option, All, AllPairs, MatchOption, length, slice_index_or}
use Rattle.bd_keys.specs.declared.map.WordMap.{WordMap}
use Rattle.bd_buffers.specs.declared.owned.OwnedWindow.{OwnedWindow}

-- each belongs to a process that was opened later than those before it
abbrev pub AreInOrder : List OwnedWindow → Type 0
AreInOrder ws = AllPairs (λ a b. a.owner < b.owner) ws

-- the window of a process stands there, or it has none
abbrev pub StandsAt : List OwnedWindow → ℕ → Option ℕ → Type 0
StandsAt ws p o =
    MatchOption o (All (λ w. (w.owner == p) ≡ false) ws) (λ i. (i < length ws) × ((d : OwnedWindow) → (slice_index_or ws i d).owner ≡ p))

-- the windows of all live processes as contracts see them, whose window a buffer made somewhere is in, and how many more
-- windows there is room for
pub record WindowsView : Type 0 where
  pub windows : List OwnedWindow
  pub homes : WordMap ℕ
  pub room : ℕ
