-- Why a journal isn't read.
use Rattle.std.proofs.Common.{◌≡◌, List, ℕ, Option, Some, None, Result, Ok, Err, refl, sym, ◌∙◌}
use Rattle.std.specs.Prelude.{IfErr}
use Rattle.std.proofs.lemmas.Option.{none-some}
use Rattle.bd_uapi.specs.Bytes.{IsBytes}
use Rattle.bd_spelling.specs.declared.record.Record.{Record}
use Rattle.bd_spelling.specs.declared.fault.ReadError.{ReadError}
use Rattle.bd_spelling.specs.declared.fault.ReadError.TheVariants as errors
use Rattle.bd_spelling.specs.Reading.{Gives}
use Rattle.bd_journal.specs.Reading.{Heading, heading_from, journal_in}
use Rattle.bd_journal.specs.Cut.{HasHeading, IsUncut, IsUnread, cut_in, whole_behind}
use Rattle.bd_journal.proofs.Laws.{is_told}
use Rattle.bd_journal.proofs.Cuts.{is_told as cut_told, whole_found}

-- an error that there is no heading, where there is none
abbrev pub IsExact : {X : Type 0} → List ℕ → Result X ReadError → Type 0
IsExact bytes result = heading_from bytes ≡ None → IfErr result (λ e. e ≡ errors.Malformed)

memory_is_other : errors.Memory ≡ errors.Malformed → ⊥
memory_is_other e = absurd cc

begun : (bytes : List ℕ) → IsBytes bytes → (heading_from bytes ≡ None → errors.Memory ≡ errors.Malformed) → HasHeading bytes
begun bytes fits exact = at (heading_from bytes) refl
  where
    at : (o : Option Heading) → heading_from bytes ≡ o → HasHeading bytes
    at (Some h) e = ((whole_behind h).0, (whole_behind h).1, whole_found bytes h fits e)
    at None e = absurd (memory_is_other (exact e))

pub unread : (bytes : List ℕ) (result : Result Record ReadError) → IsBytes bytes → Gives (λ x. x) result (journal_in bytes) → IsExact bytes result → IfErr result (IsUnread bytes)
unread bytes (Ok x) fits given exact = tt
unread bytes (Err errors.Malformed) fits given exact = λ r told. none-some r (sym given ∙ is_told bytes r told)
unread bytes (Err errors.Memory) fits given exact = begun bytes fits exact

pub uncut : {X : Type 0} (view : X → Record × List ℕ) (bytes : List ℕ) (result : Result X ReadError) → IsBytes bytes → Gives view result (cut_in bytes) → IsExact bytes result
    → IfErr result (IsUncut bytes)
uncut view bytes (Ok x) fits given exact = tt
uncut view bytes (Err errors.Malformed) fits given exact = λ h. none-some (h.0, h.1) (sym given ∙ cut_told bytes h.0 h.1 h.2)
uncut view bytes (Err errors.Memory) fits given exact = begun bytes fits exact
