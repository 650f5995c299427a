-- The laws of every history that the engine rests on.
use Rattle.std.specs.Prelude.{ℕ, ◌≡◌, ◌&&◌, ◌||◌, Bool, true, List, filter, ◌⊎◌}
use Rattle.bd_ways.specs.Words.{list_any, Identity, Turn, Work, same, Space}
use Rattle.bd_space.specs.Frames.{innermost_in}
use Rattle.bd_space.specs.Todo.{is_call}
use Rattle.bd_space.specs.Turns.{turns_of}
use Rattle.bd_space.specs.Notices.{follow}
use Rattle.bd_space.specs.Steps.{step, counted}
use Rattle.bd_space.specs.Histories.{History, space_after, is_ready}
use Rattle.bd_space.specs.declared.step.Step.{Step}
use Rattle.bd_ways.specs.Local.{NameTest, ObjectTest, follow_of}
use Rattle.bd_laws.specs.Items.{Distinct}
use Rattle.bd_laws.specs.Stacks.{AreStacks, frames_with, last_of}
use Rattle.bd_laws.specs.Quiet.{Elsewhere, IsQuiet}
use Rattle.bd_laws.specs.Tidy.{IsTidy}
use Rattle.bd_laws.specs.Reached.{IsReached}
use Rattle.bd_laws.specs.Idle.{is_note_or_fault}

-- ---- one-way calls

-- the call is due, or it was handed out
abbrev pub is_out : List Work → Turn → Bool
is_out todo t = t.handed || list_any (λ w. is_call t.made w.kind) todo

-- the object's one-way calls that are due or handed out, and whose buffers live
abbrev pub out_on : Identity → Space → List Turn
out_on o s = filter (λ t. same t.target o && is_out s.todo t) (turns_of s.buffers)

-- ---- between two steps, also of entries that no engine would make

abbrev pub NothingIsPending : Type 0
NothingIsPending = (h : History) → IsQuiet (space_after h)

abbrev pub SpacesAreTidy : Type 0
SpacesAreTidy = (h : History) → IsTidy (space_after h)

-- an item is told by its list and its identity
abbrev pub ItemsAreToldApart : Type 0
ItemsAreToldApart = (h : History) → Distinct (space_after h).todo

-- the innermost frame of a thread is the last of its stack
abbrev pub FramesAreStacks : Type 0
FramesAreStacks = (h : History) → AreStacks (space_after h).frames × ((seat : ℕ) → innermost_in (space_after h).frames seat ≡ last_of (frames_with (space_after h).frames seat))

-- ---- after a change

-- where nothing is pending but of what the tests pass, it is enough to look there
abbrev pub FollowingIsLocal : Type 0
FollowingIsLocal = (a : NameTest) (b : ObjectTest) (z : Space) → Elsewhere a b z → follow z ≡ follow_of a b z

-- ---- after a step

-- of each seat but its own a step leaves the readiness as it was, or reaches the seat
abbrev pub WhomAStepReaches : Type 0
WhomAStepReaches = (h : History) (seat : ℕ) (x : Step) (other : ℕ) → (other ≡ seat → ⊥)
    → (let new = (step (space_after h) seat x).space in (is_ready new other ≡ is_ready (space_after h) other) ⊎ IsReached (space_after h) new other)

-- Where a step is told a note or a fault nothing is another than before, except how many steps were made.
abbrev pub NoStepIsNeeded : Type 0
NoStepIsNeeded = (s : Space) (seat : ℕ) (x : Step) → is_note_or_fault (step s seat x).answer ≡ true → (step s seat x).space ≡ counted s
