-- The consequences of a change, worked out at chosen names, objects and frames alone.
use Rattle.std.specs.Prelude.{ℕ, zero, suc, ◌==◌, Bool, false, not, ◌&&◌, ◌||◌, List, filter, fold, Option, None, Some, find, if◌then◌else◌}
use Rattle.bd_ways.specs.Words.{list_any, Identity, Work, DeathNotification, OfProcess, WorkKind, Return, same, is_some_and, Space, Reference, Item, Turn}
use Rattle.bd_space.specs.Frames.{is_frame, closed}
use Rattle.bd_space.specs.Settle.{is_abandoned}
use Rattle.bd_space.specs.References.{stays_in, gives_name_to}
use Rattle.bd_space.specs.Names.{is_named_in}
use Rattle.bd_space.specs.Todo.{with_work, is_call, tell_caller}
use Rattle.bd_space.specs.Turns.{turns_of}
use Rattle.bd_space.specs.Notices.{is_name_of, still_due, with_notice}

-- tests of names, each by its process and object, and of objects
abbrev pub NameTest : Type 0
NameTest = ℕ → Identity → Bool

abbrev pub ObjectTest : Type 0
ObjectTest = Identity → Bool

unfoldable pub names_go_of : NameTest → Space → Space
names_go_of a s = record s { names = filter (λ m. not (a m.process m.object) || is_named_in s.objects s.references m.process m.object) s.names }

unfoldable pub objects_go_of : ObjectTest → Space → Space
objects_go_of b s = record s { objects = filter (λ x. not (b x.id) || stays_in s.processes s.references x) s.objects }

unfoldable pub deaths_go_of : NameTest → Space → Space
deaths_go_of a s = record s { deaths = filter (λ x. not (a x.process x.object) || (x.cleared || is_name_of s.names x.process x.object)) s.deaths }

-- an item to look at: a chosen object's Notice, or a chosen notification's Death
abbrev pub is_touched : NameTest → ObjectTest → List DeathNotification → WorkKind → Bool
is_touched a b deaths (WorkKind.Notice o) = b o
is_touched a b deaths (WorkKind.Death n) = list_any (λ x. (x.made == n) && a x.process x.object) deaths
is_touched a b deaths _ = false

unfoldable pub work_goes_of : NameTest → ObjectTest → List DeathNotification → Space → Space
work_goes_of a b deaths s =
    record s { todo = filter (λ w. not (is_touched a b deaths w.kind) || still_due s.processes s.objects s.references s.deaths w.kind) s.todo }

unfoldable pub notify_of : ObjectTest → Space → Space
notify_of b s =
    record s { todo = fold (λ todo x. with_notice s.steps s.processes s.references (OfProcess x.owner) todo x) s.todo (filter (λ x. b x.id) s.objects) }

unfoldable pub follow_of : NameTest → ObjectTest → Space → Space
follow_of a b s = notify_of b (work_goes_of a b s.deaths (deaths_go_of a (objects_go_of b (names_go_of a s))))

-- ---- ripening on one object

-- its oldest one-way call is made due, unless that has happened already
abbrev pub first_due : ℕ → List Work → Option Turn → List Work
first_due place todo None = todo
first_due place todo (Some t) =
    if not t.handed && not (list_any (λ w. is_call t.made w.kind) todo) then with_work place todo (OfProcess t.receiver) (WorkKind.Call t.made) else todo

unfoldable pub ripen_of : Identity → Space → Space
ripen_of o s = record s { todo = first_due s.steps s.todo (find (λ t. same t.target o) (turns_of s.buffers)) }

-- ---- tests

abbrev pub at_name : ℕ → Identity → NameTest
at_name p o q i = (q == p) && same i o

abbrev pub no_name : NameTest
no_name q i = false

abbrev pub at_object : Identity → ObjectTest
at_object o i = same i o

-- these objects, and p's names of them
abbrev pub is_among : List Identity → ObjectTest
is_among os i = list_any (λ o. at_object o i) os

abbrev pub names_among : ℕ → List Identity → NameTest
names_among p os q i = list_any (λ o. at_name p o q i) os

-- all that these references refer to, and its names
abbrev pub names_of_references : List Reference → NameTest
names_of_references rs p o = list_any (λ r. same r.object o && gives_name_to p r.holder) rs

abbrev pub objects_of_references : List Reference → ObjectTest
objects_of_references rs o = list_any (λ r. same r.object o) rs

-- the objects of a parcel
abbrev pub objects_of_items : List Item → ObjectTest
objects_of_items items o = list_any (λ x. same x.object o) items

-- ---- settling from one frame upwards

-- closes the frame made at m, if it is abandoned, and goes on with its parent: n times at most
abbrev pub close_up : ℕ → Option ℕ → Space → Space
close_up zero m s = s
close_up (suc n) None s = s
close_up (suc n) (Some m) s =
    elim (find (λ f. is_frame m f && is_abandoned s.frames f) s.frames) [
      | None ↦ s
      | Some f ↦ close_up n f.parent (tell_caller (closed s f.made) f (WorkKind.Verdict Return.DeadReply))
    ]

-- ---- settling among chosen frames: closes the oldest abandoned one and adds its parent to the choice, n times at most

abbrev pub close_among : ℕ → (ℕ → Bool) → Space → Space
close_among zero c s = s
close_among (suc n) c s =
    elim (find (λ f. c f.made && is_abandoned s.frames f) s.frames) [
      | None ↦ s
      | Some f ↦ close_among n (λ m. c m || is_some_and f.parent (λ p. p == m)) (tell_caller (closed s f.made) f (WorkKind.Verdict Return.DeadReply))
    ]
