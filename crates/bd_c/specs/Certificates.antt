-- What is certified of the history whose journal some bytes are.
use Rattle.std.specs.Prelude.{ℕ, ◌≡◌, ◌⊎◌, List, [], Option, Some, None}
use Rattle.bd_spelling.specs.declared.record.Record.{Record}
use Rattle.bd_space.specs.Histories.{IsHistory, space_after}
use Rattle.bd_spelling.specs.Records.{history_in}
use Rattle.bd_journal.specs.{Spelling.{Tells as IsJournalOf}, Cut.{HasHeading}}
use Rattle.bd_engine.specs.Looks.{named_by}
use Rattle.bd_audit.specs.Gifts.{IsChainOf}
use Rattle.bd_audit.specs.declared.turns.Turn.{Turn}
use Rattle.bd_c.specs.declared.certificates.TurnTold.{TurnTold}
use Rattle.bd_c.specs.declared.status.Status.{Status}
use Rattle.bd_c.specs.declared.status.Status.TheVariants.{Done, NoMemory, NoJournal, Unlawful}

-- the bytes are the journal of this record, whose entries are a history
pub record IsHistoryOf (bytes : List ℕ) (r : Record) : Type 0 where
  pub journal : IsJournalOf bytes r
  pub lawful : IsHistory (history_in r)

-- the bytes are no journal, or one whose entries aren't a history; or memory was refused, which nobody asks for before a heading was read
abbrev pub IsNoHistory : List ℕ → Status → Type 0
IsNoHistory bytes NoJournal = (r : Record) → IsJournalOf bytes r → ⊥
IsNoHistory bytes Unlawful = (r : Record) × IsJournalOf bytes r × (IsHistory (history_in r) → ⊥)
IsNoHistory bytes NoMemory = HasHeading bytes
IsNoHistory bytes _ = ⊥

-- this is said of the history whose journal the bytes are; or they have none, or memory was refused, and nothing is told
abbrev pub Certifies : List ℕ → (Record → Type 0) → Type 0 → Status → Type 0
Certifies bytes Says Untold s = ((s ≡ Done) × ((r : Record) × IsHistoryOf bytes r × Says r)) ⊎ (IsNoHistory bytes s × Untold)

-- the places are a gift chain of what the number names in the end for the live process with this pid; none exactly where it names nothing
abbrev pub IsChain : Record → ℕ → ℕ → List ℕ → Type 0
IsChain r pid number [] = named_by (space_after (history_in r)) pid number ≡ None
IsChain r pid number places = IsChainOf (history_in r) pid number places

-- The number that C is told for a place: where there is none 4294967295, which no place has.
abbrev pub place_told : Option ℕ → ℕ
place_told (Some place) = place
place_told None = 4294967295

abbrev pub turn_told : Turn → TurnTold
turn_told t = record { made = t.made; handed = place_told t.handed; ended = place_told t.ended }
