-- What owners are told of their objects: two values an object, and a notice exactly while they differ from what is so.
use Rattle.std.specs.Prelude.{ℕ, ◌==◌, Bool, true, not, ◌&&◌, ◌||◌, List, filter, fold, if◌then◌else◌}
use Rattle.bd_space.specs.{Words.{list_any, beq, Identity, Process, Object, Reference, Name, Work, DeathNotification, TodoList, OfProcess, WorkKind, same, is_some_and, Space}, Seats.lives_in, References.{held_in, strong_in, object_in, objects_go}, Names.names_go, Todo.{with_work, is_notice}}

-- the owner lives, and what it was told isn't what is so
abbrev pub wants_notice : List Process → List Reference → Object → Bool
wants_notice processes references x =
    lives_in processes x.owner && (not (beq x.told_weak (held_in references x.id)) || not (beq x.told_strong (strong_in references x.id)))

abbrev pub has_notice_in : List Work → Identity → Bool
has_notice_in todo o = list_any (λ w. is_notice o w.kind) todo

-- a notice that is missing is made on this list
abbrev pub with_notice : ℕ → List Process → List Reference → TodoList → List Work → Object → List Work
with_notice place processes references list todo x =
    if wants_notice processes references x && not (has_notice_in todo x.id) then with_work place todo list (WorkKind.Notice x.id) else todo

-- ---- what follows after every change: names, objects, death notifications and notices

-- an uncleared death notification goes with the name that it stands on
abbrev pub is_name_of : List Name → ℕ → Identity → Bool
is_name_of names p o = list_any (λ m. (m.process == p) && same m.object o) names

unfoldable pub deaths_go : Space → Space
deaths_go s = record s { deaths = filter (λ x. x.cleared || is_name_of s.names x.process x.object) s.deaths }

-- a notice goes when nothing differs any more, a death's item with its notification
abbrev pub still_due : List Process → List Object → List Reference → List DeathNotification → WorkKind → Bool
still_due processes objects references deaths (WorkKind.Notice o) = is_some_and (object_in objects o) (wants_notice processes references)
still_due processes objects references deaths (WorkKind.Death n) = list_any (λ x. x.made == n) deaths
still_due processes objects references deaths _ = true

unfoldable pub work_goes : Space → Space
work_goes s = record s { todo = filter (λ w. still_due s.processes s.objects s.references s.deaths w.kind) s.todo }

-- each notice that is missing is made on its owner's list
unfoldable pub notify : Space → Space
notify s = record s { todo = fold (λ todo x. with_notice s.steps s.processes s.references (OfProcess x.owner) todo x) s.todo s.objects }

unfoldable pub follow : Space → Space
follow s = notify (work_goes (deaths_go (objects_go (names_go s))))
