-- What a table of frames stands for: the frames of the space, in its order.
use Rattle.std.specs.Prelude.{◌≡◌, ℕ, Bool, List}
use Rattle.bd_ways.specs.Words.{Frame}
use Rattle.bd_keys.specs.Tables as tables
use Rattle.bd_frames.specs.{declared.table.FrameTable.{FrameTable}, Places.{frames_of}, InOrder.{IsInOrder}, Children.{AreChildren}}
use Rattle.bd_frames.specs.Linked.{AreStacks, keeps_top}

pub record FramesAre (t : FrameTable) (l : List Frame) : Type 0 where
  pub items_are : frames_of t.rows.items ≡ l
  pub in_order : IsInOrder l
  pub children_are : AreChildren l t.rows.items
  pub stacks_are : AreStacks t.stacks t.rows.items

-- something is kept of the thread of this seat beside its frames
abbrev pub keeps_bound : FrameTable → ℕ → Bool
keeps_bound t seat = keeps_top t.stacks seat

-- of every list that the table stands for x is what f says
abbrev pub Tells : {A : Type 0} → FrameTable → A → (List Frame → A) → Type 0
Tells t = tables.Tells (FramesAre t)

-- every list that the table stood for was changed by f
abbrev pub Makes : FrameTable → FrameTable → (List Frame → List Frame) → Type 0
Makes t u = tables.Makes (FramesAre t) (FramesAre u)
