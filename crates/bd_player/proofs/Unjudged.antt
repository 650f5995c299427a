-- What is said of a journal, or why nothing is.
use Rattle.std.proofs.Common.{◌≡◌, List, [], ℕ, Option, Some, None, Result, Ok, Err, IfSome, sym, subst}
use Rattle.std.specs.Prelude.{IfErr}
use Rattle.bd_spelling.specs.declared.record.Record.{Record}
use Rattle.bd_journal.specs.Cut.{HasHeading, IsUncut, IsUnread}
use Rattle.bd_journal.specs.Spelling.{Tells}
use Rattle.bd_spelling.specs.declared.fault.ReadError.{ReadError}
use Rattle.bd_spelling.specs.declared.fault.ReadError.TheVariants.{Malformed, Memory}
use Rattle.bd_journal.proofs.Cuts.{whole_told}
use Rattle.bd_audit.specs.Journals.{IsJudgment, JudgesCut, JudgesJournal}
use Rattle.bd_audit.specs.declared.journals.Judgment.{Judgment}
use Rattle.bd_player.specs.Cuts.{IsCutUnjudged, IsCutVerdict, SaysNoHeading}
use Rattle.bd_player.specs.Verdicts.{Holds, IsUnjudged, IsVerdict, SaysNoJournal, fault_told}
use Rattle.bd_player.specs.declared.faults.ProgramFault.{ProgramFault}
use Rattle.bd_player.specs.declared.faults.ProgramFault.TheVariants as fault
use Rattle.bd_player.specs.declared.verdicts.Verdict.{Verdict}

pub verdict : (bytes : List ℕ) (j : Judgment) (v : Verdict) → JudgesJournal bytes j → ((r : Record) → IsJudgment r j → Holds r v) → IsVerdict bytes v
verdict bytes j v is says = (is.0, is.1, says is.0 is.2)

pub cut_verdict : (bytes : List ℕ) (j : Judgment) (v : Verdict) (left : ℕ) → JudgesCut bytes j left → ((r : Record) → IsJudgment r j → Holds r v) → IsCutVerdict bytes v left
cut_verdict bytes j v left is says = (is.0, is.1, is.2, says is.0 is.3, is.4)

pub unjudged : (bytes : List ℕ) (e : ReadError) (f : ProgramFault) → f ≡ fault_told e → IsUnread bytes e → IsUnjudged bytes f
unjudged bytes Malformed f is why = subst (IsUnjudged bytes) (sym is) why
unjudged bytes Memory f is why = subst (IsUnjudged bytes) (sym is) why

pub cut_unjudged : (bytes : List ℕ) (e : ReadError) (f : ProgramFault) → f ≡ fault_told e → IsUncut bytes e → IsCutUnjudged bytes f
cut_unjudged bytes Malformed f is why = subst (IsCutUnjudged bytes) (sym is) why
cut_unjudged bytes Memory f is why = subst (IsCutUnjudged bytes) (sym is) why

-- memory that was refused when the record was there
pub no_memory : {X : Type 0} (bytes : List ℕ) (r : Record) (result : Result X ProgramFault) → Tells bytes r → IfErr result (λ f. f ≡ fault.Memory) → IfErr result (IsUnjudged bytes)
no_memory bytes r (Ok x) told is = tt
no_memory bytes r (Err f) told is = subst (IsUnjudged bytes) (sym is) (r, [], whole_told bytes r told)

-- ---- of a reader whose bytes may be known

-- what has no heading is no journal either
pub no_journal : (known : Option (List ℕ)) (f : ProgramFault) → SaysNoHeading known f → SaysNoJournal known f
no_journal None f none = λ is. tt
no_journal (Some xs) f none = λ is r told. none is (r, [], whole_told xs r told)

pub says_cut : (known : Option (List ℕ)) (bytes : List ℕ) (f : ProgramFault) → IfSome known (λ xs. bytes ≡ xs) → IsCutUnjudged bytes f → SaysNoHeading known f
says_cut None bytes f same why = λ is. tt
says_cut (Some xs) bytes f same why = λ is. subst (λ (ys : List ℕ). HasHeading ys → ⊥) same (subst (IsCutUnjudged bytes) is why)

says : (known : Option (List ℕ)) (bytes : List ℕ) (f : ProgramFault) → IfSome known (λ xs. bytes ≡ xs) → IsUnjudged bytes f → SaysNoJournal known f
says None bytes f same why = λ is. tt
says (Some xs) bytes f same why = λ is. subst (λ (ys : List ℕ). (r : Record) → Tells ys r → ⊥) same (subst (IsUnjudged bytes) is why)

-- Whatever a result would have said, its fault calls the bytes no journal only where they are none.
pub all_say : {X : Type 0} (known : Option (List ℕ)) (bytes : List ℕ) (result : Result X ProgramFault) → IfSome known (λ xs. bytes ≡ xs) → IfErr result (IsUnjudged bytes) → IfErr result (SaysNoJournal known)
all_say known bytes (Ok x) same why = tt
all_say known bytes (Err f) same why = says known bytes f same why

pub all_say_cut : {X : Type 0} (known : Option (List ℕ)) (bytes : List ℕ) (result : Result X ProgramFault) → IfSome known (λ xs. bytes ≡ xs) → IfErr result (IsCutUnjudged bytes) → IfErr result (SaysNoHeading known)
all_say_cut known bytes (Ok x) same why = tt
all_say_cut known bytes (Err f) same why = says_cut known bytes f same why
