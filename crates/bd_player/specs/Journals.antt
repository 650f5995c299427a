-- What writing a journal came to.
use Rattle.std.specs.Prelude.{ℕ, List, Option, Bool, true, false}
use Rattle.std.specs.Io.KnownBytes.{Appends}
use Rattle.bd_spelling.specs.declared.record.Record.{Record}
use Rattle.bd_journal.specs.Spelling.{IsJournal, journal_bytes}
use Rattle.bd_spelling.specs.Writing.{Begins}

-- Where all went out, the record has a spelling and a writer that shows its bytes has grown by it; else by a beginning.
abbrev pub Wrote : Option (List ℕ) → Option (List ℕ) → Record → Bool → Type 0
Wrote old new r true = IsJournal r × Appends old new (journal_bytes r)
Wrote old new r false = Begins old new (journal_bytes r)
