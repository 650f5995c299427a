-- What is said of a journal, or why nothing is.
use Rattle.std.proofs.{Common.{◌≡◌, ◌∙◌, ◌++◌, [], List, ℕ, None, length, refl, sym, subst}, lemmas.List.{append-nil}}
use Rattle.std.specs.List.{flat_map}
use Rattle.bd_spelling.specs.declared.record.Record.{Record}
use Rattle.bd_journal.specs.Cut.{HasHeading, IsUnread}
use Rattle.bd_journal.specs.Spelling.{Tells as IsJournalOf, heading_in}
use Rattle.bd_spelling.specs.{Spelling.{entry_bytes}, Reading.{entry_from, word_from}, declared.versions.Version.{Version}}
use Rattle.bd_spelling.specs.declared.fault.ReadError.{ReadError}
use Rattle.bd_spelling.specs.declared.fault.ReadError.TheVariants.{Malformed, Memory}
use Rattle.bd_audit.specs.Journals.{IsJudgment, JudgesJournal}
use Rattle.bd_audit.specs.declared.journals.Judgment.{Judgment}
use Rattle.bd_c.specs.Journals.{Holds}
use Rattle.bd_c.specs.declared.judging.Verdict.{Verdict}

pub judged : (bytes : List ℕ) (j : Judgment) (v : Verdict) → JudgesJournal bytes j → ((r : Record) → IsJudgment r j → Holds r v.lawful v.entries)
    → (r : Record) × IsJournalOf bytes r × Holds r v.lawful v.entries
judged bytes j v is says = (is.0, is.1, says is.0 is.2)

pub no_journal : (bytes : List ℕ) (e : ReadError) → e ≡ Malformed → IsUnread bytes e → (r : Record) → IsJournalOf bytes r → ⊥
no_journal bytes e is why = subst (IsUnread bytes) is why

pub no_memory : (bytes : List ℕ) (e : ReadError) → e ≡ Memory → IsUnread bytes e → HasHeading bytes
no_memory bytes e is why = subst (IsUnread bytes) is why

no_entry : (v : Version) (seats : ℕ) → entry_from v seats [] ≡ None
unfolding entry_from word_from
no_entry v seats = refl

-- what is a journal has a heading
pub has_heading : (bytes : List ℕ) (r : Record) → IsJournalOf bytes r → HasHeading bytes
has_heading bytes r (v, is, told) = (
  r,
  [],
  (
    v,
    length r.entries,
    record {
      seats = is.seats;
      count_fits = is.count;
      entries = is.entries;
      parts = told ∙ sym (append-nil (heading_in v r.seats (length r.entries) ++ flat_map entry_bytes r.entries));
      none_left = no_entry v r.seats;
    },
  ),
)
