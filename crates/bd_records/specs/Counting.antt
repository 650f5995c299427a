-- Which counters change with a reference, and how.
use Rattle.std.specs.Prelude.{Bool, None, Option, Some, false, if◌then◌else◌, true, ℕ, ◌&&◌, ◌==◌}
use Rattle.bd_space.specs.References.{is_handshake}
use Rattle.bd_ways.specs.Words.{Asked, Carried, Holder, Identity, Manager, Reference, beq, same}
use Rattle.bd_records.specs.{Count.{less, no_count, turned_count}, declared.{count.Count.{Count}, row.{NameRow.{NameRow}, ObjectRow.{ObjectRow}}}}

abbrev pub is_asked : Holder → Bool
is_asked (Asked q) = true
is_asked _ = false

abbrev pub is_carried : Holder → Bool
is_carried (Carried b q) = true
is_carried _ = false

abbrev pub is_managers : Holder → Bool
is_managers Manager = true
is_managers _ = false

-- one more, or one fewer, if this counter is meant
abbrev pub turned_if : Bool → Bool → Bool → Count → Count
turned_if meant more strong c = if meant then turned_count more strong c else c

-- one comes, or goes
abbrev pub turned : Bool → Reference → ObjectRow → ObjectRow
turned more r w = record {
  object = w.object;
  total = turned_count more r.strong w.total;
  owed = turned_if (is_handshake r.holder) more r.strong w.owed;
  managed = turned_if (is_managers r.holder) more r.strong w.managed;
}

abbrev pub name_turned : Bool → Reference → NameRow → NameRow
name_turned more r w = record {
  object = w.object;
  asked = turned_if (is_asked r.holder) more r.strong w.asked;
  carried = turned_if (is_carried r.holder) more r.strong w.carried;
}

-- its owner was told whether the object is held, and whether strongly
abbrev pub told : Bool → Bool → ObjectRow → ObjectRow
told weak strong w = record {
  object = record w.object { told_weak = weak; told_strong = strong };
  total = w.total;
  owed = w.owed;
  managed = w.managed;
}

-- none is left that the owner has to its own object
abbrev pub disowned : ObjectRow → ObjectRow
disowned w = record { object = w.object; total = less (less w.total w.owed) w.managed; owed = no_count; managed = no_count }

-- so many fewer to the object
abbrev pub lowered : Count → ObjectRow → ObjectRow
lowered fewer w = record { object = w.object; total = less w.total fewer; owed = w.owed; managed = w.managed }

-- the process asked for nothing by the name
abbrev pub unasked : NameRow → NameRow
unasked w = record { object = w.object; asked = no_count; carried = w.carried }

-- each counter of an object or a name, 0 where that has no record
abbrev pub total_of : Option ObjectRow → Count
total_of None = no_count
total_of (Some w) = w.total

abbrev pub owed_of : Option ObjectRow → Count
owed_of None = no_count
owed_of (Some w) = w.owed

abbrev pub managed_of : Option ObjectRow → Count
managed_of None = no_count
managed_of (Some w) = w.managed

abbrev pub asked_of : Option NameRow → Count
asked_of None = no_count
asked_of (Some w) = w.asked

abbrev pub carried_of : Option NameRow → Count
carried_of None = no_count
carried_of (Some w) = w.carried

-- ---- of which references

abbrev pub is_to : Identity → Bool → Reference → Bool
is_to o strong r = beq r.strong strong && same r.object o

-- the context manager's
abbrev pub is_managing : Identity → Bool → Reference → Bool
is_managing o strong r = beq r.strong strong && same r.object o && is_managers r.holder

abbrev pub is_carried_to : ℕ → Holder → Bool
is_carried_to p (Carried b q) = q == p
is_carried_to p _ = false

abbrev pub is_carrying : ℕ → Identity → Bool → Reference → Bool
is_carrying p o strong r = beq r.strong strong && same r.object o && is_carried_to p r.holder
