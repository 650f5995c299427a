-- What a flush keeps, and what a status tells of a journal.
use Rattle.std.proofs.Common.{◌≡◌, ◌≤◌, List, [], ℕ, Option, Some, None, IfSome, length, Bool, true, false, sym, subst, arith}
use Rattle.std.proofs.lemmas.List.{append-nil}
use Rattle.std.proofs.KnownBytes.{Appends-kept}
use Rattle.std.specs.Io.KnownBytes.{Appends, Keeps}
use Rattle.bd_spelling.specs.declared.record.Record.{Record}
use Rattle.bd_journal.specs.Spelling.{IsJournal, journal_bytes}
use Rattle.bd_player.specs.Journals.{Wrote}
use Rattle.bd_journal.specs.Cut.{IsCut}
use Rattle.bd_player.specs.Cuts.{IsCutVerdict, IsLawfulCutAt0, IsWhole}
use Rattle.bd_player.specs.Verdicts.{IsKnownVerdict, IsLawfulAt0, IsVerdict, Judges, JudgesKnown}
use Rattle.bd_player.specs.declared.cuts.Whole.{Whole}
use Rattle.bd_player.specs.declared.verdicts.Judged.{Judged}
use Rattle.bd_player.specs.declared.verdicts.Verdict.{Verdict}
use Rattle.bd_player.specs.declared.verdicts.Verdict.TheVariants.{Lawful}

pub flushed : (o p q : Option (List ℕ)) (r : Record) (b : Bool) → IsJournal r → Appends o p (journal_bytes r) → Keeps p q → Wrote o q r b
flushed o p q r true j s t = (j, Appends-kept o p q (journal_bytes r) s t)
flushed o p q r false j s t = (journal_bytes r, [], sym (append-nil (journal_bytes r)), Appends-kept o p q (journal_bytes r) s t)

pub judged : (known : Option (List ℕ)) (entries status : ℕ) → IsKnownVerdict known (Lawful entries) → IsLawfulAt0 known status
judged None entries status h = λ e. tt
judged (Some bytes) entries status h = λ e. (h.0, h.1, h.2.0)

pub verdict_known : (known : Option (List ℕ)) (bytes : List ℕ) (v : Verdict) → IfSome known (λ xs. bytes ≡ xs) → IsVerdict bytes v → IsKnownVerdict known v
verdict_known None bytes v same h = tt
verdict_known (Some xs) bytes v same h = subst (λ (ys : List ℕ). IsVerdict ys v) same h

pub judges_known : (known : Option (List ℕ)) (bytes : List ℕ) (j : Judged) → IfSome known (λ xs. bytes ≡ xs) → Judges bytes j → JudgesKnown known j
judges_known None bytes j same h = tt
judges_known (Some xs) bytes j same h = subst (λ (ys : List ℕ). Judges ys j) same h

pub not_judged : (known : Option (List ℕ)) (status : ℕ) → 1 ≤ status → IsLawfulAt0 known status
not_judged known status fails = λ e. absurd (omega (arith, fails, e))

pub whole_known : (known : Option (List ℕ)) (bytes left : List ℕ) (w : Whole) → IfSome known (λ xs. bytes ≡ xs) → IsCut bytes w.record left → w.left ≡ length left → IfSome known (λ xs. IsWhole xs w)
whole_known None bytes left w same cut so_many = tt
whole_known (Some xs) bytes left w same cut so_many = subst (λ (ys : List ℕ). IsWhole ys w) same (left, cut, so_many)

pub cut_known : (known : Option (List ℕ)) (bytes : List ℕ) (v : Verdict) (left : ℕ) → IfSome known (λ xs. bytes ≡ xs) → IsCutVerdict bytes v left
    → IfSome known (λ xs. IsCutVerdict xs v left)
cut_known None bytes v left same h = tt
cut_known (Some xs) bytes v left same h = subst (λ (ys : List ℕ). IsCutVerdict ys v left) same h

pub cut_judged : (known : Option (List ℕ)) (entries left status : ℕ) → IfSome known (λ xs. IsCutVerdict xs (Lawful entries) left) → IsLawfulCutAt0 known status
cut_judged None entries left status h = λ e. tt
cut_judged (Some bytes) entries left status h = λ e. (h.0, h.1, h.2, h.3.0)

pub cut_not_judged : (known : Option (List ℕ)) (status : ℕ) → 1 ≤ status → IsLawfulCutAt0 known status
cut_not_judged known status fails = λ e. absurd (omega (arith, fails, e))
