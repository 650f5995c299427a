-- Frames in order: each was made after the one before it, and after its parent.
use Rattle.std.specs.Prelude.{ℕ, ◌≡◌, ◌<◌, true, List, [], ◌∷◌, Option, Some, None}
use Rattle.bd_ways.specs.Words.{Frame}
use Rattle.bd_frames.specs.{Places.{IsRising, IsAfter}, Words.{is_pending}}

-- the parent, if there is one, was made before
abbrev pub IsBefore : Option ℕ → ℕ → Type 0
IsBefore None made = Unit {0}
IsBefore (Some parent) made = parent < made

-- each parent is older than its child
abbrev pub ParentsOlder : List Frame → Type 0
ParentsOlder [] = Unit {0}
ParentsOlder (f ∷ fs) = IsBefore f.parent f.made × ParentsOlder fs

pub record IsInOrder (fs : List Frame) : Type 0 where
  pub rising : IsRising 0 fs
  pub older : ParentsOlder fs

-- the frame may come in: it was made after all of them and after its parent, and nobody has read its call
pub record IsNextOf (f : Frame) (fs : List Frame) : Type 0 where
  pub after : IsAfter 0 fs f.made
  pub before : IsBefore f.parent f.made
  pub unread : is_pending f.server ≡ true
