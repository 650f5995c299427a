-- The names of a space, and those when they were last settled: what was given since can be taken back.
use Rattle.std.specs.Prelude.{List, Option, [], min, vec_capacity, vec_len, ℕ, ◌++◌, ◌-◌, ◌∷◌, ◌≡◌}
use Rattle.bd_ways.specs.Words.{Name}
use Rattle.bd_records.specs.{Count.{no_count}, Counting.{asked_of, carried_of}, Names.{name_at, name_room}, NamesAre.{NamesAre}, declared.{names.Names.{Names}, records.Records.{Records}, row.NameRow.{NameRow}}}

-- nothing gives the name yet
abbrev pub IsBlank : Option NameRow → Type 0
IsBlank w = (asked_of w ≡ no_count) × (carried_of w ≡ no_count)

-- each of these
abbrev pub AreBlank : Names → List Name → Type 0
AreBlank t [] = Unit {0}
AreBlank t (m ∷ ms) = IsBlank (name_at t m.process m.object) × AreBlank t ms

pub record Since (t : Records) (base names : List Name) : Type 0 where
  pub stands : NamesAre t.names names
  pub grows : names ≡ base ++ t.given.items
  pub blank : AreBlank t.names t.given.items

-- the room for more names of the process
abbrev pub given_room : Records → ℕ → ℕ
given_room t p = min (name_room t.names p) (vec_capacity t.given - vec_len t.given)

-- none of the names can be taken back
abbrev pub Settled : Records → List Name → Type 0
Settled t names = Since t names names

abbrev pub KeepsSettled : Records → Records → Type 0
KeepsSettled old new = (names : List Name) → Settled old names → Settled new names
