-- How often a descriptor is on its way, on some list.
use Rattle.std.specs.Prelude.{ℕ, ◌≡◌, ◌≤◌, ◌%◌, true, [], List, Option, Some, map, get_or, slice_get, sum_by, is_some, vec_len, vec_capacity}
use Rattle.bd_tickets.specs.declared.tickets.{Parcel.{Parcel}, Tickets.{Tickets}}
use Rattle.bd_tickets.specs.Held.{held, descriptors_of}

abbrev pub held_on : List Tickets → ℕ → ℕ
held_on lists d = sum_by (λ t. held t d) lists

abbrev pub parcels_at : List Tickets → ℕ → List Parcel
parcels_at lists i = get_or (map (λ (t : Tickets). t.parcels.items) lists) i []

-- those of the parcel that the step at this place sends
abbrev pub on_way : List Tickets → ℕ → Option (List ℕ)
on_way lists step = descriptors_of step (parcels_at lists (step % 1024))

-- each step's parcel is on its own list
abbrev pub ArePlaced : List Tickets → Type 0
ArePlaced lists = (i s : ℕ) → is_some (descriptors_of s (parcels_at lists i)) ≡ true → s % 1024 ≡ i

-- the list of a step has no room for one parcel more
abbrev pub IsFull : List Tickets → ℕ → Type 0
IsFull lists step = (t : Tickets) → slice_get lists (step % 1024) ≡ Some t → vec_capacity t.parcels ≤ vec_len t.parcels
