-- The notifications of a table with their slots and the numbers of their lists.
use Rattle.std.specs.{Prelude.{ℕ, ◌≡◌, ◌==◌, ◌<◌, ◌^◌, ◌&&◌, not, Bool, true, false, All, List, [], ◌∷◌, Option, Some, None, if◌then◌else◌, map, find, AllPairs, option_map}, HashMap.{get, get_by}}
use Rattle.slab.specs.Slab as slab
use Rattle.bd_ways.specs.Words.{DeathNotification, Identity}
use Rattle.bd_space.specs.{Words.{is_some_and}, Deaths.{is_told_with}}
use Rattle.bd_space.specs.contracts.step.IdentityPartialEq.TheImpl as objects
use Rattle.bd_chains.specs.{Rows.{Row}, Lists.{Shows}}
use Rattle.bd_deaths.specs.contracts.key.NameKeyPartialEq.TheImpl as keys
use Rattle.bd_deaths.specs.declared.{key.NameKey.{NameKey}, kept.Kept.{Kept}, kept.Watch.{Watch}, kept.Mark.{Mark}, table.DeathTable.{DeathTable}}

-- a notification as it is kept, in which slot, and on which lists
pub record Entry : Type 0 where
  pub kept : Kept
  pub at : ℕ
  pub object : ℕ
  pub process : ℕ

abbrev pub death_of : Entry → DeathNotification
death_of e = e.kept.death

abbrev pub made_of : Entry → ℕ
made_of e = e.kept.death.made

abbrev pub at_of : Entry → ℕ
at_of e = e.at

abbrev pub kept_of : Entry → Kept
kept_of e = e.kept

abbrev pub watch_of : Entry → Watch
watch_of e = record { object = e.kept.death.object; at = e.at }

abbrev pub mark_of : Entry → Mark
mark_of e = record { process = e.kept.death.process; made = e.kept.death.made; at = e.at }

-- among those on its object
abbrev pub object_row : Entry → Row Watch
object_row e = record { key = e.kept.object; list = e.object; held = record { value = watch_of e; counted = false } }

-- among those of its process
abbrev pub process_row : Entry → Row Mark
process_row e = record { key = e.kept.process; list = e.process; held = record { value = mark_of e; counted = false } }

-- those on an object are one list, and those of a process
abbrev pub by_object : Watch → Identity
by_object w = w.object

abbrev pub by_process : Mark → ℕ
by_process m = m.process

abbrev pub same_object : Identity → Identity → Bool
same_object = (objects.ghosts).eq

abbrev pub same_process : ℕ → ℕ → Bool
same_process p q = p == q

abbrev pub object_number : DeathTable → Identity → Option ℕ
object_number t = get same_object t.objects.numbers.all

abbrev pub process_number : DeathTable → ℕ → Option ℕ
process_number t = get same_process t.processes.numbers.all

abbrev pub ObjectsShow : DeathTable → List (Row Watch) → Type 0
ObjectsShow t = Shows by_object (λ _. false) same_object (object_number t) t.objects.chains

abbrev pub ProcessesShow : DeathTable → List (Row Mark) → Type 0
ProcessesShow t = Shows by_process (λ _. false) same_process (process_number t) t.processes.chains

-- ---- what one is found by

abbrev pub same_name : NameKey → NameKey → Bool
same_name = (keys.ghosts).eq

abbrev pub name_of : DeathNotification → NameKey
name_of x = record { process = x.process; object = x.object }

-- it is uncleared, on this name
abbrev pub asks_on : NameKey → DeathNotification → Bool
asks_on k x = not x.cleared && same_name (name_of x) k

-- where the one is kept that was made at this place
abbrev pub place_at : DeathTable → ℕ → Option ℕ
place_at t m = get_by (λ k. m == k) t.places

-- where the uncleared one on this name is
abbrev pub name_at : DeathTable → NameKey → Option ℕ
name_at t = get same_name t.names

abbrev pub kept_at : DeathTable → ℕ → Option Kept
kept_at t k = slab.get t.slots k

-- what is kept in the slot is told, of the process, with the cookie
abbrev pub is_told_in : DeathTable → ℕ → ℕ → ℕ → Bool
is_told_in t p cookie at = is_some_and (kept_at t at) (λ k. is_told_with p cookie k.death)

-- the first slot that passes, of these
abbrev pub first_at : (ℕ → Bool) → List Mark → Option ℕ
first_at q [] = None
first_at q (m ∷ ms) = if q m.at then Some m.at else first_at q ms

-- ---- when a table has these

-- the first came before the other: no two stand in one slot or were made at one place, and at most one is uncleared on a name
pub record Apart (d e : Entry) : Type 0 where
  pub slots : at_of d ≡ at_of e → ⊥
  pub places : made_of d ≡ made_of e → ⊥
  pub names : (k : NameKey) → asks_on k (death_of d) ≡ true → asks_on k (death_of e) ≡ true → ⊥
  pub serials : d.kept.serial < e.kept.serial

pub record Fits (next : ℕ) (e : Entry) : Type 0 where
  pub serial : e.kept.serial < next
  pub at : e.at < 2 ^ 64

pub record EntriesAre (t : DeathTable) (es : List Entry) : Type 0 where
  pub on_objects : ObjectsShow t (map object_row es)
  pub of_processes : ProcessesShow t (map process_row es)
  pub slots_are : (k : ℕ) → kept_at t k ≡ option_map kept_of (find (λ e. at_of e == k) es)
  pub places_are : (m : ℕ) → place_at t m ≡ option_map at_of (find (λ e. made_of e == m) es)
  pub names_are : (k : NameKey) → name_at t k ≡ option_map at_of (find (λ e. asks_on k (death_of e)) es)
  pub apart : AllPairs Apart es
  pub fit : All (Fits t.next) es
