-- The laws of every history.
use Rattle.std.specs.Prelude.{ℕ, ◌+◌, ◌≡◌, ◌<◌, ◌≤◌, Bool, true, false, not, ◌||◌, List, length, is_some}
use Rattle.bd_ways.specs.Words.{list_all, Identity, Turn, Work, OfProcess, same, Space}
use Rattle.std.specs.List.{AllPairs}
use Rattle.bd_space.specs.Todo.{is_call, same_list}
use Rattle.bd_space.specs.Turns.{turns_of}
use Rattle.bd_space.specs.References.{object_in, held_in}
use Rattle.bd_space.specs.Histories.{History, IsHistory, space_after}
use Rattle.bd_laws.specs.Laws.{is_out, out_on}
use Rattle.bd_audit.specs.Replays.{beginning}

-- ---- one-way calls: of one object's, one is due or handed out at a time

abbrev pub OneAtATime : Type 0
OneAtATime = (h : History) → IsHistory h → (o : Identity) → length (out_on o (space_after h)) ≤ 1

-- a one-way call that is due stands on the list of the process that its object belongs to, and on no thread's
abbrev pub stands_with_receiver : Work → Turn → Bool
stands_with_receiver w t = not (is_call t.made w.kind) || same_list w.list (OfProcess t.receiver)

-- while the earlier has a buffer, the later isn't due or handed out, if they are on one object
abbrev pub WaitsFor : List Work → Turn → Turn → Type 0
WaitsFor todo t u = is_out todo u ≡ true → same t.target u.target ≡ false

abbrev pub OneWayCallsAreDueInTurn : Type 0
OneWayCallsAreDueInTurn = (h : History) → IsHistory h
    → (list_all (λ w. list_all (stands_with_receiver w) (turns_of (space_after h).buffers)) (space_after h).todo ≡ true)
    × AllPairs (WaitsFor (space_after h).todo) (turns_of (space_after h).buffers)

-- ---- references and names

-- the space after the first n steps
abbrev pub space_at : History → ℕ → Space
space_at h n = space_after (beginning n h)

abbrev pub is_here : Space → Identity → Bool
is_here s o = is_some (object_in s.objects o)

-- the object of each reference and of each name is in the space
abbrev pub ObjectsAreKept : Type 0
ObjectsAreKept = (h : History) → IsHistory h → (n : ℕ)
    → (list_all (λ r. is_here (space_at h n) r.object) (space_at h n).references ≡ true) × (list_all (λ m. is_here (space_at h n) m.object) (space_at h n).names ≡ true)

-- an object that the step at place i takes out never is in the space again, and has no reference, after that step and every later one
abbrev pub GoneUnheld : Type 0
GoneUnheld = (h : History) → IsHistory h → (i : ℕ) → i < length h.entries → (o : Identity)
    → is_here (space_at h i) o ≡ true → is_here (space_at h (i + 1)) o ≡ false
    → (n : ℕ) → i < n → (is_here (space_at h n) o ≡ false) × (held_in (space_at h n).references o ≡ false)
