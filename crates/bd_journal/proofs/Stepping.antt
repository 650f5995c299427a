-- A journal that is read entry by entry is read as it is at once.
use Rattle.std.proofs.Common.{◌≡◌, ℕ, zero, suc, Bool, true, false, ◌-◌, ◌<◌, ◌==◌, if◌then◌else◌, List, [], ◌∷◌, length, Option, Some, None, Result, Ok, Err, refl, sym, ap, ◌∙◌, subst, arith}
use Rattle.std.specs.Prelude.{IfOk, IfErr, IsOkAnd, option_map}
use Rattle.bd_space.specs.declared.step.Entry.{Entry}
use Rattle.bd_spelling.specs.declared.record.Record.{Record}
use Rattle.bd_spelling.specs.declared.versions.Version.{Version}
use Rattle.bd_journal.specs.declared.steps.JournalReader.{JournalReader}
use Rattle.bd_spelling.specs.declared.fault.ReadError.{ReadError}
use Rattle.bd_spelling.specs.declared.fault.ReadError.TheVariants as errors
use Rattle.std.proofs.lemmas.Option.{none-some}
use Rattle.bd_journal.specs.Spelling.{IsRecordSeats, Tells}
use Rattle.bd_spelling.specs.Reading.{◌>>=◌, Fails, Gives, entry_from, entries_from}
use Rattle.bd_journal.specs.Reading.{Heading, record_from, heading_from, journal_in}
use Rattle.bd_journal.specs.Cut.{IsCut, cut_in, whole_behind}
use Rattle.bd_journal.specs.Steps.{all_from, cut_left, entries_left, record_of, record_left, with_next}
use Rattle.bd_uapi.specs.Bytes.{IsBytes}
use Rattle.bd_spelling.proofs.FieldLaws.{bind_some, demand_some, some_is}
use Rattle.bd_journal.proofs.Loop.{so_many}
use Rattle.bd_journal.proofs.Laws.{heading_takes, is_told, journal_takes}
use Rattle.bd_journal.proofs.Cuts.{is_told as cut_told, whole_found}
use Rattle.bd_journal.proofs.SeatsTold.{seats_in}

-- ---- the heading

abbrev heading_of : JournalReader → Heading
heading_of r = (r.version, r.seats, r.left, r.rest.now)

ended : (seats : ℕ) (es : List Entry) (b : Bool) → (if b then Some (record_of seats es) else None) ≡ option_map (record_of seats) (if b then Some es else None)
ended seats es true = refl
ended seats es false = refl

by_entries : (seats : ℕ) (read : Option (List Entry × List ℕ))
    → (read >>= λ x. if length x.1 == 0 then Some (record_of seats x.0) else None) ≡ option_map (record_of seats) (read >>= λ x. if length x.1 == 0 then Some x.0 else None)
by_entries seats (Some x) = ended seats x.0 (length x.1 == 0)
by_entries seats None = refl

reads : (bytes : List ℕ) (r : JournalReader) → heading_from bytes ≡ Some (heading_of r) → journal_in bytes ≡ record_left r
unfolding journal_in record_from
reads bytes r given = ap (λ x. x >>= record_from) given ∙ by_entries r.seats (entries_from r.version r.seats r.left r.rest.now)

cuts : (bytes : List ℕ) (r : JournalReader) → heading_from bytes ≡ Some (heading_of r) → cut_in bytes ≡ Some (cut_left r)
unfolding cut_in
cuts bytes r given = ap (λ x. x >>= λ h. Some (whole_behind h)) given

-- where there is no heading there is no journal, and none that was cut off
none_reads : (bytes : List ℕ) → heading_from bytes ≡ None → journal_in bytes ≡ None
unfolding journal_in
none_reads bytes given = ap (λ x. x >>= record_from) given

none_cut : (bytes : List ℕ) → heading_from bytes ≡ None → cut_in bytes ≡ None
unfolding cut_in
none_cut bytes given = ap (λ x. x >>= λ h. Some (whole_behind h)) given

-- what a reader was made of, or why there is none
abbrev Begins : List ℕ → Result JournalReader ReadError → Type 0
Begins bytes begun = Gives heading_of begun (heading_from bytes)

abbrev IsExact : Result JournalReader ReadError → Type 0
IsExact begun = IfErr begun (λ e. e ≡ errors.Malformed)

no_heading : (bytes : List ℕ) (e : ReadError) → Fails e (heading_from bytes) → e ≡ errors.Malformed → heading_from bytes ≡ None
no_heading bytes e given exact = subst (λ x. Fails x (heading_from bytes)) exact given

pub found : (bytes : List ℕ) (begun : Result JournalReader ReadError) → IsBytes bytes → Begins bytes begun → IfOk begun (λ r. (x : Record) → record_left r ≡ Some x → Tells bytes x)
found bytes (Ok r) fits given = λ x is. journal_takes bytes x fits (reads bytes r given ∙ is)
found bytes (Err e) fits given = tt

pub only : (bytes : List ℕ) (begun : Result JournalReader ReadError) → Begins bytes begun → IsExact begun → (x : Record) → Tells bytes x → IsOkAnd begun (λ r. record_left r ≡ Some x)
only bytes (Ok r) given exact x told = sym (reads bytes r given) ∙ is_told bytes x told
only bytes (Err e) given exact x told = absurd (none-some x (sym (none_reads bytes (no_heading bytes e given exact)) ∙ is_told bytes x told))

pub seats_begun : (bytes : List ℕ) (begun : Result JournalReader ReadError) → IsBytes bytes → Begins bytes begun → IfOk begun (λ r. IsRecordSeats r.seats)
seats_begun bytes (Ok r) fits given = seats_in r.version r.seats (heading_takes bytes (heading_of r) fits given).1.0
seats_begun bytes (Err e) fits given = tt

pub cut_found : (bytes : List ℕ) (begun : Result JournalReader ReadError) → IsBytes bytes → Begins bytes begun → IfOk begun (λ r. IsCut bytes (cut_left r).0 (cut_left r).1)
cut_found bytes (Ok r) fits given = whole_found bytes (heading_of r) fits given
cut_found bytes (Err e) fits given = tt

pub only_cut : (bytes : List ℕ) (begun : Result JournalReader ReadError) → Begins bytes begun → IsExact begun
    → (x : Record) (left : List ℕ) → IsCut bytes x left → IsOkAnd begun (λ r. cut_left r ≡ (x, left))
only_cut bytes (Ok r) given exact x left is = some_is (cut_left r) (x, left) (sym (cuts bytes r given) ∙ cut_told bytes x left is)
only_cut bytes (Err e) given exact x left is = absurd (none-some (x, left) (sym (none_cut bytes (no_heading bytes e given exact)) ∙ cut_told bytes x left is))

-- ---- entry by entry

-- the entry before those that are read behind it
abbrev before : Entry → List Entry × List ℕ → Option (List Entry × List ℕ)
before e x = Some (e ∷ x.0, x.1)

taken : (e : Entry) (after : Option (List Entry × List ℕ))
    → ((after >>= before e) >>= λ x. if length x.1 == 0 then Some x.0 else None) ≡ option_map (λ es. e ∷ es) (after >>= λ x. if length x.1 == 0 then Some x.0 else None)
taken e (Some x) = chosen (length x.1 == 0)
  where
    chosen : (b : Bool) → (if b then Some (e ∷ x.0) else None) ≡ option_map (λ es. e ∷ es) (if b then Some x.0 else None)
    chosen true = refl
    chosen false = refl
taken e None = refl

pub goes_on : (v : Version) (seats left : ℕ) (bytes : List ℕ) (e : Entry) (after : List ℕ) → 0 < left → entry_from v seats bytes ≡ Some (e, after)
    → all_from v seats left bytes ≡ with_next (Some e) (all_from v seats (left - 1) after)
unfolding entries_from
goes_on v seats zero bytes e after some read = absurd (omega (arith, some))
goes_on v seats (suc n) bytes e after some read = let k : suc n - 1 ≡ n = omega arith in rw (k, read) (taken e (entries_from v seats n after))

pub none_stands : (v : Version) (seats left : ℕ) (bytes : List ℕ) (e : ReadError) → 0 < left → Fails e (entry_from v seats bytes) → Fails e (all_from v seats left bytes)
unfolding entries_from
none_stands v seats left bytes errors.Memory some read = tt
none_stands v seats left bytes errors.Malformed some read =
    let k : left ≡ suc (left - 1) = omega arith in
    rw (k, read) refl

pub all_read : (v : Version) (seats left : ℕ) (bytes : List ℕ) → left ≡ 0 → length bytes ≡ 0 → all_from v seats left bytes ≡ Some []
unfolding entries_from
all_read v seats left bytes none empty = rw (none, empty) refl

pub more_stands : (v : Version) (seats left : ℕ) (bytes : List ℕ) → left ≡ 0 → (length bytes == 0) ≡ false → all_from v seats left bytes ≡ None
unfolding entries_from
more_stands v seats left bytes none more = rw (none, more) refl

-- ---- how many

pub so_many_left : (r : JournalReader) (es : List Entry) → entries_left r ≡ Some es → r.left ≡ length es
so_many_left r es left =
    let p = bind_some (entries_from r.version r.seats r.left r.rest.now) (λ x. if length x.1 == 0 then Some x.0 else None) es left in
    let d = demand_some (length p.0.1 == 0) (Some p.0.0) es p.2 in
    sym (so_many r.version r.seats r.left r.rest.now p.0 p.1) ∙ ap length (some_is p.0.0 es d.1)
