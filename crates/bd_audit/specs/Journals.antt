-- What is told of a journal's entries.
use Rattle.std.specs.Prelude.{◌≡◌, ℕ, List, ◌++◌, length, Option, Some}
use Rattle.bd_space.specs.Histories.{History, history_of}
use Rattle.bd_spelling.specs.Records.{history_in}
use Rattle.bd_space.specs.declared.step.Entry.{Entry}
use Rattle.bd_spelling.specs.declared.record.Record.{Record}
use Rattle.bd_journal.specs.{Cut.{IsCut}, Spelling.{Tells}}
use Rattle.bd_audit.specs.Judging.{HasJudged, IsStop}
use Rattle.bd_audit.specs.declared.{judge.Judge.{Judge}, journals.Judgment.{Judgment}}

-- The history with these entries behind its own.
abbrev pub followed_by : History → List Entry → History
followed_by h es = history_of h.seats (h.entries ++ es)

-- after whatever history, the judge has seen these entries too
abbrev pub HasSeenMore : Judge → Judge → List Entry → Type 0
HasSeenMore old new es = (h : History) → HasJudged old h → HasJudged new (followed_by h es)

-- The judge has seen all entries that were left, none of which was misspelt.
abbrev pub HasSeenAll : Judge → Judge → Option (List Entry) → Type 0
HasSeenAll old new left = (es : List Entry) × (left ≡ Some es) × HasSeenMore old new es

-- The judge has seen all entries that are whole; it is told how many they are, and how many bytes are behind them.
abbrev pub HasSeenWhole : Judge → Judge → List Entry × List ℕ → ℕ → ℕ → Type 0
HasSeenWhole old new whole entries left = HasSeenMore old new whole.0 × (entries ≡ length whole.0) × (left ≡ length whole.1)

-- the entries are so many, and are lawful or stop being so there
abbrev pub IsJudgment : Record → Judgment → Type 0
IsJudgment r j = (j.entries ≡ length r.entries) × IsStop (history_in r) j.stopped

-- The judgment is of the record that the bytes spell.
abbrev pub JudgesJournal : List ℕ → Judgment → Type 0
JudgesJournal bytes j = (r : Record) × Tells bytes r × IsJudgment r j

-- The judgment is of the entries that are whole in the bytes, behind which so many bytes are left.
abbrev pub JudgesCut : List ℕ → Judgment → ℕ → Type 0
JudgesCut bytes j so_many = (r : Record) × (left : List ℕ) × IsCut bytes r left × IsJudgment r j × (so_many ≡ length left)
