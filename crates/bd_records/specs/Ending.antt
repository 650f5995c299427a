-- What goes with a process.
use Rattle.std.specs.{Prelude.{ℕ, ◌≡◌, Bool, true, false, not, ◌&&◌, List, filter, Option, Some, None}, List.{list_any}}
use Rattle.bd_ways.specs.{Words.{Identity, Reference, same}, Local.{is_among}}
use Rattle.bd_space.specs.References.{is_of_owner, is_of_buffer, is_in_window}

-- an owner has it to one of these objects
abbrev pub own_among : List Identity → Reference → Bool
own_among os r = is_among os r.object && is_of_owner r.holder

abbrev pub without_own : List Identity → List Reference → List Reference
without_own os l = filter (λ r. not (own_among os r)) l

-- this is the object
abbrev pub is_named_at : Option Identity → Identity → Bool
is_named_at None x = false
is_named_at (Some o) x = same x o

-- a reference lies in the buffer, and none that does lies outside the process's window
pub record LiesIn (p b : ℕ) (l : List Reference) : Type 0 where
  pub any : list_any (λ r. is_of_buffer b r.holder) l ≡ true
  pub only : list_any (λ r. is_of_buffer b r.holder && not (is_in_window p r.holder)) l ≡ false
