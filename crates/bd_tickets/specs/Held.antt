-- How often a descriptor is on its way.
use Rattle.std.specs.Prelude.{ℕ, ◌==◌, List, Option, count_by, sum_by, find, option_map}
use Rattle.bd_tickets.specs.declared.tickets.{Parcel.{Parcel}, Tickets.{Tickets}}

abbrev pub count_of : ℕ → List ℕ → ℕ
count_of d ds = count_by (λ x. x == d) ds

abbrev pub held_in : List Parcel → ℕ → ℕ
held_in parcels d = sum_by (λ p. count_of d p.descriptors.items) parcels

abbrev pub held : Tickets → ℕ → ℕ
held t d = held_in t.parcels.items d

-- those of the parcel that the step at this place sends
abbrev pub descriptors_of : ℕ → List Parcel → Option (List ℕ)
descriptors_of step parcels = option_map (λ p. p.descriptors.items) (find (λ p. p.step == step) parcels)
