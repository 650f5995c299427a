-- Each thread's frames as a stack: a bound of all of them, and from each a bound of the older ones.
use Rattle.std.specs.{Prelude.{ℕ, ◌≡◌, ◌==◌, ◌≤◌, ◌<◌, nat_le, Bool, true, false, is_some, List, Option, Some, None, max, nat_lt, get_or, length, unwrap_or, if◌then◌else◌}, HashMap.{get_by}}
use Rattle.std.specs.List.{All}
use Rattle.bd_ways.specs.Words.{is_some_and, Frame, Server, Serving}
use Rattle.bd_space.specs.Frames.{calls, takes_part}
use Rattle.bd_frames.specs.{declared.stacks.Bounds.{Bounds}, declared.frame.Row.{Row}, declared.stacks.Stacks.{Stacks}, Places.{place}}

-- the bound of the older frames of a thread that takes part
abbrev pub below_of : ℕ → Row → Option ℕ
below_of seat r = if calls seat r.frame then r.caller else r.server

-- where there is no bound nothing is said
abbrev pub IsUpTo : Option ℕ → ℕ → Type 0
IsUpTo None made = Unit {0}
IsUpTo (Some bound) made = made ≤ bound

-- if the thread takes part in q, which is older than r's frame, it was made up to what r has below
abbrev pub IsBelow : ℕ → Row → Row → Type 0
IsBelow seat r q = takes_part seat q.frame ≡ true → place q < place r → IsUpTo (below_of seat r) (place q)

-- if the thread takes part in the frame, it was made up to the bound, and those that are older are below it
abbrev pub IsLinked : ℕ → ℕ → List Row → Row → Type 0
IsLinked seat bound rows r = takes_part seat r.frame ≡ true → (place r ≤ bound) × All (IsBelow seat r) rows

-- from this bound down the thread's frames are found
abbrev pub IsStack : ℕ → Option ℕ → List Row → Type 0
IsStack seat None rows = Unit {0}
IsStack seat (Some bound) rows = All (IsLinked seat bound rows) rows

-- the seat's own bound, else that of all who have none of their own
abbrev pub bound_in : Bounds → ℕ → Option ℕ
bound_in b seat = unwrap_or (get_by (λ k. seat == k) b.own) b.rest

abbrev pub top_in : Stacks → ℕ → Option ℕ
top_in s seat = if nat_lt seat (length s.tops) then get_or s.tops seat None else bound_in s.others seat

-- a bound is kept of the seat, beside those of a driver's seats
abbrev pub keeps_top : Stacks → ℕ → Bool
keeps_top s seat = if nat_lt seat (length s.tops) then false else is_some (get_by (λ k. seat == k) s.others.own)

abbrev pub AreStacks : Stacks → List Row → Type 0
AreStacks s rows = (seat : ℕ) → IsStack seat (top_in s seat) rows

-- whatever is up to the first bound is up to the second
abbrev pub Covers : Option ℕ → Option ℕ → Type 0
Covers p None = Unit {0}
Covers None (Some c) = ⊥
Covers (Some b) (Some c) = b ≤ c

abbrev pub wider : Option ℕ → Option ℕ → Option ℕ
wider None b = None
wider (Some a) None = None
wider (Some a) (Some b) = Some (max a b)

-- who serves the call, unless it is its caller
abbrev pub server_but : Option ℕ → Server → Option ℕ
server_but caller (Serving seat) = if is_some_and caller (λ c. c == seat) then None else Some seat
server_but caller _ = None

abbrev pub other_server : Frame → Option ℕ
other_server f = server_but f.caller f.server

-- the top of a stack onto which a frame comes that was made there: none, if one that was made later is on it
abbrev pub put_top : ℕ → Option ℕ → Option ℕ
put_top made None = None
put_top made (Some bound) = if nat_le bound made then Some made else None

-- the top of a stack from which the frame of this row has gone
abbrev pub popped_top : ℕ → Row → Option ℕ → Option ℕ
popped_top seat r top = if is_some_and top (λ m. m == place r) then below_of seat r else top
