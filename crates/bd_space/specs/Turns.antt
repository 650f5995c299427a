-- One-way calls: of one object's, one is due or handed out at a time, in the order in which they were made.
use Rattle.std.specs.Prelude.{ℕ, Bool, not, ◌&&◌, List, [], ◌∷◌, ◌++◌, Option, None, option_map, if◌then◌else◌}
use Rattle.bd_space.specs.{Words.{list_any, filter_map, Buffer, Turn, Work, OfProcess, WorkKind, same, Space}, Todo.{with_work, is_call}}

-- the one-way calls whose buffers live, oldest first
abbrev pub turn_of : Buffer → Option Turn
turn_of b =
    if b.one_way
    then option_map (λ o. record { made = b.made; receiver = b.receiver; target = o; handed = b.handed }) b.target
    else None

abbrev pub turns_of : List Buffer → List Turn
turns_of buffers = filter_map turn_of buffers

-- nobody was told of it yet, and of its object's one-way calls with a buffer it is the oldest
abbrev pub is_ripe : List Work → List Turn → Turn → Bool
is_ripe todo older t =
    not t.handed && not (list_any (λ u. same u.target t.target) older) && not (list_any (λ w. is_call t.made w.kind) todo)

-- the work items after the ripe ones of these calls became due, where older ones stand before them
abbrev pub ripened : ℕ → List Turn → List Work → List Turn → List Work
ripened place older todo [] = todo
ripened place older todo (t ∷ ts) =
    ripened place (older ++ t ∷ []) (if is_ripe todo older t then with_work place todo (OfProcess t.receiver) (WorkKind.Call t.made) else todo) ts

unfoldable pub ripen : Space → Space
ripen s = record s { todo = ripened s.steps [] s.todo (turns_of s.buffers) }
