-- The bytes of a history, and what is said of such bytes.
use Rattle.std.specs.Prelude.{◌≡◌, ℕ, Bool, true, false, List, length}
use Rattle.bd_spelling.specs.declared.record.Record.{Record}
use Rattle.bd_space.specs.Histories.{IsLawful}
use Rattle.bd_spelling.specs.Records.{history_in}
use Rattle.bd_journal.specs.Cut.{HasHeading}
use Rattle.bd_journal.specs.Spelling.{IsJournal, journal_bytes, Tells as IsJournalOf}
use Rattle.bd_audit.specs.Replays.{IsLawfulUpTo}
use Rattle.bd_c.specs.Parts.{Tells}
use Rattle.bd_c.specs.declared.judging.Verdict.{Verdict}
use Rattle.bd_c.specs.declared.status.Status.{Status}
use Rattle.bd_c.specs.declared.status.Status.TheVariants.{Done, NoMemory, NoJournal}

-- the size of the history's journal is told, and its bytes are copied if all of them fit
abbrev pub Journals : Record → List ℕ → List ℕ → ℕ → ℕ → Status → Type 0
Journals r = Tells (IsJournal r) (journal_bytes r)

-- So many of the record's entries are lawful, and if not all are, one more aren't. A journal of version one or two has fewer
-- than 2^32 entries: one whose entries are lawful is that of a history.
abbrev pub Holds : Record → Bool → ℕ → Type 0
Holds r true entries = IsLawful (history_in r) × (entries ≡ length r.entries)
Holds r false entries = (IsLawful (history_in r) → ⊥) × IsLawfulUpTo (history_in r) entries

-- why nothing is said of the bytes: they are no journal, or memory was refused, which nobody asks for before a heading was read
abbrev pub IsUnread : List ℕ → Status → Type 0
IsUnread bytes NoJournal = (r : Record) → IsJournalOf bytes r → ⊥
IsUnread bytes NoMemory = HasHeading bytes
IsUnread bytes _ = ⊥

-- what is said holds of the record whose journal the bytes are, or nothing is said
abbrev pub Judges : List ℕ → Verdict → Verdict → Status → Type 0
Judges bytes old new Done = (r : Record) × IsJournalOf bytes r × Holds r new.lawful new.entries
Judges bytes old new s = IsUnread bytes s × (new ≡ old)
