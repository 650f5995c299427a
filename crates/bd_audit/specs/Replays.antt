-- Where a record stops being a history.
use Rattle.std.specs.Prelude.{ℕ, ◌+◌, ◌<◌, ◌≡◌, [], ◌∷◌, ◌++◌, length, take, Some}
use Rattle.bd_ways.specs.Words.{Entry}
use Rattle.std.specs.List.{slice_get}
use Rattle.bd_space.specs.Histories.{History, IsHistory, IsLawful, history_of, BeginsWith}
use Rattle.bd_engine.specs.StepError.{StepError}
use Rattle.bd_engine.specs.StepError.TheVariants as why
use Rattle.bd_audit.specs.declared.judging.AuditFault.{AuditFault}
use Rattle.bd_audit.specs.declared.judging.AuditFault.TheVariants.{Unlawful, NoMemory}

-- The first n entries of a history, as one of as many seats.
abbrev pub beginning : ℕ → History → History
beginning n h = history_of h.seats (take n h.entries)

-- the entry at this place, and what the entries before it are
pub record IsEntryAt (h : History) (place : ℕ) (before : History) (e : Entry) : Type 0 where
  pub begins : before ≡ beginning place h
  pub stands : slice_get h.entries place ≡ Some e

-- the entries before this place are a history, and with its entry they aren't
pub record StopsAt (h : History) (at : ℕ) : Type 0 where
  pub inside : at < length h.entries
  pub before : IsHistory (beginning at h)
  pub stops : IsHistory (beginning (at + 1) h) → ⊥

-- the entries before this place are lawful, and with its entry they aren't
pub record IsLawfulUpTo (h : History) (at : ℕ) : Type 0 where
  pub inside : at < length h.entries
  pub before : IsLawful (beginning at h)
  pub stops : IsLawful (beginning (at + 1) h) → ⊥

abbrev pub IfUnlawful : AuditFault → (ℕ → Type 0) → Type 0
IfUnlawful (Unlawful at) P = P at
IfUnlawful NoMemory P = Unit {0}

abbrev pub IfNoMemory : AuditFault → Type 0 → Type 0
IfNoMemory (Unlawful at) P = Unit {0}
IfNoMemory NoMemory P = P

-- what an engine's refusal says of the entry at this place: one that no history has a place for isn't lawful
abbrev pub fault_of : StepError → ℕ → AuditFault
fault_of why.HistoryFull at = Unlawful at
fault_of why.NoMemory at = NoMemory

-- The history with one entry more.
abbrev pub with_entry : History → Entry → History
with_entry h e = history_of h.seats (h.entries ++ e ∷ [])

-- the second history is the first one and perhaps more
abbrev pub Begins : History → History → Type 0
Begins g h = (h.seats ≡ g.seats) × BeginsWith h.entries g.entries
