-- The version that a record of so many seats is written in.
use Rattle.std.proofs.Common.{◌≡◌, ℕ, ◌≤◌, length, refl, Bool, true, false, cond, leb, sym, subst, arith}
use Rattle.std.specs.List.{AllByRecursion}
use Rattle.std.proofs.lemmas.Bool.{leb-true, leb-false}
use Rattle.bd_uapi.specs.Limits.{most_seats}
use Rattle.bd_spelling.specs.declared.record.Record.{Record}
use Rattle.bd_spelling.specs.declared.versions.Version.TheVariants.{Two, Three}
use Rattle.bd_spelling.specs.Spelling.{has_spam, IsEntryWith}
use Rattle.bd_spelling.specs.Logged.{AreSeatsOf}
use Rattle.bd_spelling.proofs.Logs.{wider}
use Rattle.bd_journal.specs.Spelling.{newest, IsRecordSeats, IsSeatsIn, IsJournal}
use Rattle.bd_journal.specs.Writing.{IsHeading}

seats_in_newest : (n : ℕ) → IsRecordSeats n → IsSeatsIn (newest n) n
seats_in_newest n are = by (leb n most_seats) refl
  where
    by : (few : Bool) → leb n most_seats ≡ few → IsSeatsIn (cond few Two Three) n
    by true e = (are.0, leb-true _ _ e)
    by false e = (omega (arith, leb-false _ _ e), are.1)

-- each version that is written has the step SetSpam
spam_in_newest : (n : ℕ) → has_spam (newest n) ≡ true
spam_in_newest n = by (leb n most_seats)
  where
    by : (few : Bool) → has_spam (cond few Two Three) ≡ true
    by true = refl
    by false = refl

-- what a heading has room for, and no more seats than it says, is a journal's
pub is_journal : (r : Record) (n : ℕ) → IsHeading r.seats (length r.entries) → AreSeatsOf n r.entries → n ≤ r.seats → IsJournal r
is_journal r n heading told enough =
    record {
      seats = seats_in_newest r.seats heading.0;
      count = heading.1;
      entries = subst (λ (spam : Bool). AllByRecursion (IsEntryWith spam r.seats) r.entries) (sym (spam_in_newest r.seats)) (wider n r.seats r.entries enough told.enough);
    }

-- a journal has no fewer seats than its entries take
pub seats_enough : (r : Record) (n : ℕ) → AreSeatsOf n r.entries → IsJournal r → n ≤ r.seats
seats_enough r n told journal = told.least r.seats (subst (λ (spam : Bool). AllByRecursion (IsEntryWith spam r.seats) r.entries) (spam_in_newest r.seats) journal.entries)
