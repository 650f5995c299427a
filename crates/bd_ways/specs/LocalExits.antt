-- What an exit has to look at: names, objects and frames, as the space before tells.
use Rattle.std.specs.Prelude.{ℕ, ◌==◌, Bool, ◌&&◌, ◌||◌, List, [], ◌∷◌, map, filter}
use Rattle.bd_ways.specs.Words.{list_any, Work, TodoList, OfProcess, OfThread, Frame, same, Space, Reference}
use Rattle.bd_space.specs.Frames.{is_frame, serves}
use Rattle.bd_space.specs.References.{owned_in}
use Rattle.bd_space.specs.ThreadExits.{is_unread_on, is_lost_reference}
use Rattle.bd_space.specs.ProcessExits.{is_dropped_with, seat_of}
use Rattle.bd_space.specs.Todo.{is_notice, is_on}
use Rattle.bd_ways.specs.Local.{NameTest, ObjectTest, names_of_references}

-- one of these threads serves the frame, or finds its call on one of these lists
abbrev pub is_left_frame : List ℕ → List TodoList → List Work → Frame → Bool
is_left_frame seats lists todo f = list_any (λ t. serves t f.server) seats || list_any (λ l. is_unread_on todo l f.made) lists

abbrev pub left_frames : List ℕ → List TodoList → Space → ℕ → Bool
left_frames seats lists s m = list_any (λ f. is_frame m f && is_left_frame seats lists s.todo f) s.frames

-- the object of a lost reference, or of a Notice on a lost list
abbrev pub left_objects : (Reference → Bool) → List TodoList → Space → ObjectTest
left_objects gone lists s o =
    list_any (λ r. same r.object o && gone r) s.references || list_any (λ w. is_notice o w.kind && list_any (λ l. is_on l w) lists) s.todo

-- ExitThread, by its seat
abbrev pub lost_with_thread : Space → ℕ → Reference → Bool
lost_with_thread s seat r = is_lost_reference s.todo (OfThread seat) r

abbrev pub names_left : Space → ℕ → NameTest
names_left s seat = names_of_references (filter (lost_with_thread s seat) s.references)

abbrev pub objects_left : Space → ℕ → ObjectTest
objects_left s seat = left_objects (lost_with_thread s seat) (OfThread seat ∷ []) s

abbrev pub frames_left : Space → ℕ → ℕ → Bool
frames_left s seat = left_frames (seat ∷ []) (OfThread seat ∷ []) s

-- ExitProcess
abbrev pub seats_in : Space → ℕ → List ℕ
seats_in s p = map seat_of (filter (λ t. t.process == p) s.threads)

abbrev pub lists_in : Space → ℕ → List TodoList
lists_in s p = OfProcess p ∷ map (λ t. OfThread t) (seats_in s p)

abbrev pub lost_with_process : Space → ℕ → Reference → Bool
lost_with_process s p r = is_dropped_with s.objects p r || list_any (λ t. is_lost_reference s.todo (OfThread t) r) (seats_in s p)

abbrev pub objects_ended : Space → ℕ → ObjectTest
objects_ended s p o = owned_in s.objects p o || left_objects (lost_with_process s p) (lists_in s p) s o

abbrev pub frames_ended : Space → ℕ → ℕ → Bool
frames_ended s p = left_frames (seats_in s p) (lists_in s p) s
