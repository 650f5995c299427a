-- What is read of a journal that was cut off is what is whole of it.
use Rattle.std.proofs.Common.{arith, ◌≡◌, ℕ, zero, suc, ◌+◌, ◌-◌, ◌^◌, ◌<◌, ◌≤◌, List, [], ◌∷◌, ◌++◌, Option, Some, None, Result, Ok, Err, length, refl, ap, sym, subst, ◌∙◌, append_assoc}
use Rattle.std.specs.Prelude.{IfOk}
use Rattle.std.specs.List.{flat_map, AllByRecursion}
use Rattle.std.proofs.lemmas.List.{append-nil, length-append}
use Rattle.std.proofs.lemmas.List.Concat.{flat_map-cons}
use Rattle.bd_uapi.specs.Bytes.{IsBytes, word}
use Rattle.bd_space.specs.declared.step.Entry.{Entry}
use Rattle.bd_spelling.specs.declared.record.Record.{Record}
use Rattle.bd_spelling.specs.declared.fault.ReadError.{ReadError}
use Rattle.bd_spelling.specs.declared.versions.Version.{Version}
use Rattle.bd_spelling.specs.Spelling.{block, step_bytes, answer_bytes, entry_bytes, IsEntryIn}
use Rattle.bd_journal.specs.Spelling.{heading_in, count_limit, IsRecordSeats, IsSeatsIn, Tells}
use Rattle.bd_spelling.specs.Reading.{◌>>=◌, Gives, word_from, entry_from}
use Rattle.bd_journal.specs.Reading.{Heading, heading_from}
use Rattle.bd_journal.specs.Steps.{IsFirstWhole}
use Rattle.bd_journal.specs.Cut.{behind, whole_behind, whole_with, whole_from, cut_in, IsCutIn, IsCut, Continues}
use Rattle.bd_spelling.proofs.FieldLaws.{bind_some, some_is, Takes, Takes_then}
use Rattle.bd_journal.proofs.SeatsTold.{seats_in}
use Rattle.bd_spelling.proofs.Laws.{entry_takes, entry_again}
use Rattle.bd_journal.proofs.Laws.{heading_takes, heading_again, seats_small}

-- ---- entries

-- Reading an entry makes the rest shorter, so that reading entries comes to an end.
entry_has_bytes : (e : Entry) (rest : List ℕ) → length rest < length (entry_bytes e ++ rest)
entry_has_bytes e rest =
    let four : length (word e.seat) ≡ 4 = refl in
    omega (
      arith,
      four,
      length-append (entry_bytes e) rest,
      length-append (word e.seat ++ block (step_bytes e.step)) (block (answer_bytes e.answer)),
      length-append (word e.seat) (block (step_bytes e.step)),
    )

-- what was read of the front has this spelling
abbrev IsRead : Version → ℕ → List ℕ → List Entry × List ℕ → Type 0
IsRead v seats bytes x = Takes bytes (flat_map entry_bytes x.0) x.1 × AllByRecursion (IsEntryIn v seats) x.0

whole_takes : (v : Version) (seats n : ℕ) (bytes : List ℕ) → IsBytes bytes → IsRead v seats bytes (whole_from v seats n bytes)
unfolding whole_from
whole_takes v seats zero bytes fits = (record { parts = refl; rest_fits = fits }, tt)
whole_takes v seats (suc n) bytes fits = at (whole_takes v seats n) (entry_from v seats bytes) refl
  where
    at : ((rest : List ℕ) → IsBytes rest → IsRead v seats rest (whole_from v seats n rest)) → (o : Option (Entry × List ℕ)) → entry_from v seats bytes ≡ o
        → IsRead v seats bytes (whole_with (whole_from v seats n) bytes o)
    at go None e = (record { parts = refl; rest_fits = fits }, tt)
    at go (Some x) e =
        let first = entry_takes v seats bytes x fits e in
        let others = go x.1 first.0.rest_fits in
        let read = whole_from v seats n x.1 in
        (Takes_then bytes (entry_bytes x.0) x.1 (flat_map entry_bytes read.0) read.1 first.0 others.0, (first.1, others.1))

-- where it stops, no entry begins
stops : (v : Version) (seats n : ℕ) (bytes : List ℕ) → IsBytes bytes → length bytes ≤ n → entry_from v seats (whole_from v seats n bytes).1 ≡ None
unfolding whole_from
stops v seats zero bytes fits few = at (entry_from v seats bytes) refl
  where
    at : (o : Option (Entry × List ℕ)) → entry_from v seats bytes ≡ o → entry_from v seats bytes ≡ None
    at None e = e
    at (Some x) e = let t = entry_takes v seats bytes x fits e in absurd (omega (arith, few, ap length t.0.parts, entry_has_bytes x.0 x.1))
stops v seats (suc n) bytes fits few = at (stops v seats n) (entry_from v seats bytes) refl
  where
    at : ((rest : List ℕ) → IsBytes rest → length rest ≤ n → entry_from v seats (whole_from v seats n rest).1 ≡ None) → (o : Option (Entry × List ℕ))
        → entry_from v seats bytes ≡ o → entry_from v seats (whole_with (whole_from v seats n) bytes o).1 ≡ None
    at go None e = e
    at go (Some x) e =
        let t = entry_takes v seats bytes x fits e in
        go x.1 t.0.rest_fits (omega (arith, few, ap length t.0.parts, entry_has_bytes x.0 x.1))

-- entries that are spelled one after the other are read, and then what stands behind them
passes : (v : Version) (seats m : ℕ) (es : List Entry) (rest : List ℕ) → seats < 2 ^ 32 → AllByRecursion (IsEntryIn v seats) es
    → whole_from v seats (length es + m) (flat_map entry_bytes es ++ rest) ≡ behind es (whole_from v seats m rest)
unfolding whole_from
passes v seats m [] rest few fits =
    let none : 0 + m ≡ m = omega arith in
    ap (λ (k : ℕ). whole_from v seats k rest) none
passes v seats m (e ∷ es) rest few fits =
    let more : length (e ∷ es) + m ≡ suc (length es + m) = omega arith in
    let regrouped : flat_map entry_bytes (e ∷ es) ++ rest ≡ entry_bytes e ++ (flat_map entry_bytes es ++ rest) =
    ap (λ (t : List ℕ). t ++ rest) (flat_map-cons entry_bytes e es) ∙ append_assoc (entry_bytes e) (flat_map entry_bytes es) rest in
    ap (λ (k : ℕ). whole_from v seats k (flat_map entry_bytes (e ∷ es) ++ rest)) more
    ∙ ap (whole_from v seats (suc (length es + m))) regrouped
    ∙ rw (entry_again v seats e (flat_map entry_bytes es ++ rest) few fits.0, passes v seats m es rest few fits.1) refl

-- Entries have at least as many bytes as there are entries.
entries_have_bytes : (es : List Entry) (rest : List ℕ) → length es ≤ length (flat_map entry_bytes es ++ rest)
entries_have_bytes [] rest = omega arith
entries_have_bytes (e ∷ es) rest =
    let regrouped : flat_map entry_bytes (e ∷ es) ++ rest ≡ entry_bytes e ++ (flat_map entry_bytes es ++ rest) =
    ap (λ (t : List ℕ). t ++ rest) (flat_map-cons entry_bytes e es) ∙ append_assoc (entry_bytes e) (flat_map entry_bytes es) rest in
    omega (arith, ap length regrouped, entry_has_bytes e (flat_map entry_bytes es ++ rest), entries_have_bytes es rest)

-- with room for them all, they are read first, whatever stands behind
first_of : (v : Version) (seats : ℕ) (es : List Entry) (rest : List ℕ) → seats < 2 ^ 32 → AllByRecursion (IsEntryIn v seats) es
    → (let all = flat_map entry_bytes es ++ rest in (m : ℕ) × (whole_from v seats (length all) all ≡ behind es (whole_from v seats m rest)))
first_of v seats es rest few fits =
    let all = flat_map entry_bytes es ++ rest in
    let m = length all - length es in
    let n : length all ≡ length es + m = omega (arith, entries_have_bytes es rest) in
    (m, ap (λ (k : ℕ). whole_from v seats k all) n ∙ passes v seats m es rest few fits)

-- where no entry begins nothing is read
nothing_more : (v : Version) (seats m : ℕ) (rest : List ℕ) → entry_from v seats rest ≡ None → whole_from v seats m rest ≡ ([], rest)
unfolding whole_from
nothing_more v seats zero rest e = refl
nothing_more v seats (suc m) rest e = rw e refl

no_entry_in_nothing : (v : Version) (seats : ℕ) → entry_from v seats [] ≡ None
unfolding entry_from word_from
no_entry_in_nothing v seats = refl

-- as much is read with any room that there is for all of the bytes
enough : (v : Version) (seats n m : ℕ) (bytes : List ℕ) → IsBytes bytes → length bytes ≤ n → length bytes ≤ m → whole_from v seats n bytes ≡ whole_from v seats m bytes
unfolding whole_from
enough v seats zero m [] fits few_n few_m = sym (nothing_more v seats m [] (no_entry_in_nothing v seats))
enough v seats zero m (b ∷ bs) fits few_n few_m = absurd (omega (arith, few_n))
enough v seats (suc n) zero [] fits few_n few_m = nothing_more v seats (suc n) [] (no_entry_in_nothing v seats)
enough v seats (suc n) zero (b ∷ bs) fits few_n few_m = absurd (omega (arith, few_m))
enough v seats (suc n) (suc m) bytes fits few_n few_m = at (enough v seats n m) (entry_from v seats bytes) refl
  where
    at : ((rest : List ℕ) → IsBytes rest → length rest ≤ n → length rest ≤ m → whole_from v seats n rest ≡ whole_from v seats m rest) → (o : Option (Entry × List ℕ))
        → entry_from v seats bytes ≡ o → whole_with (whole_from v seats n) bytes o ≡ whole_with (whole_from v seats m) bytes o
    at go None e = refl
    at go (Some x) e =
        let t = entry_takes v seats bytes x fits e in
        let fewer : length x.1 < length bytes = omega (arith, ap length t.0.parts, entry_has_bytes x.0 x.1) in
        ap (behind (x.0 ∷ [])) (go x.1 t.0.rest_fits (omega (arith, few_n, fewer)) (omega (arith, few_m, fewer)))

-- one entry, and what is whole behind it
one_whole : (v : Version) (seats : ℕ) (bytes : List ℕ) (x : Entry × List ℕ) → IsBytes bytes → entry_from v seats bytes ≡ Some x → IsFirstWhole v seats bytes (Some x)
unfolding whole_from
one_whole v seats bytes x fits read =
    let t = entry_takes v seats bytes x fits read in
    let fewer : length x.1 < length bytes = omega (arith, ap length t.0.parts, entry_has_bytes x.0 x.1) in
    let k : length bytes ≡ suc (length bytes - 1) = omega (arith, fewer) in
    let first : whole_from v seats (suc (length bytes - 1)) bytes ≡ behind (x.0 ∷ []) (whole_from v seats (length bytes - 1) x.1) = rw read refl in
    let behind_it = enough v seats (length bytes - 1) (length x.1) x.1 t.0.rest_fits (omega (arith, fewer)) (omega arith) in
    (ap (λ (n : ℕ). whole_from v seats n bytes) k ∙ first ∙ ap (behind (x.0 ∷ [])) behind_it, fewer)

-- what is found to begin there, or not
pub first_whole : (v : Version) (seats : ℕ) (bytes : List ℕ) (o : Option (Entry × List ℕ)) → IsBytes bytes → entry_from v seats bytes ≡ o → IsFirstWhole v seats bytes o
first_whole v seats bytes None fits read = nothing_more v seats (length bytes) bytes read
first_whole v seats bytes (Some x) fits read = one_whole v seats bytes x fits read

-- ---- the record

heading_read : (v : Version) (seats count : ℕ) (tail : List ℕ) → IsSeatsIn v seats → count < count_limit v
    → cut_in (heading_in v seats count ++ tail) ≡ Some (whole_behind (v, seats, count, tail))
unfolding cut_in
heading_read v seats count tail are fits = ap (λ x. x >>= λ h. Some (whole_behind h)) (heading_again v seats count tail are fits)

-- A journal that was cut off is read up to its cut, whatever stands behind.
module _ (v : Version) (count : ℕ) (bytes : List ℕ) (r : Record) (left : List ℕ) (is : IsCutIn v count bytes r left) where
  abbrev few_seats : r.seats < 2 ^ 32
  few_seats = seats_small v r.seats is.seats.1

  read_first : (lost : List ℕ) → (m : ℕ) × (let read = behind r.entries (whole_from v r.seats m (left ++ lost)) in
      cut_in (bytes ++ lost) ≡ Some (record { seats = r.seats; entries = read.0 }, read.1))
  read_first lost =
      let heading = heading_in v r.seats count in
      let spelled = flat_map entry_bytes r.entries in
      let tail = spelled ++ (left ++ lost) in
      let regrouped : bytes ++ lost ≡ heading ++ tail =
      ap (λ (b : List ℕ). b ++ lost) is.parts ∙ append_assoc (heading ++ spelled) left lost ∙ append_assoc heading spelled (left ++ lost) in
      let k = first_of v r.seats r.entries (left ++ lost) few_seats is.entries in (
        k.0,
        ap cut_in regrouped ∙ heading_read v r.seats count tail is.seats is.count_fits
            ∙ ap (λ (x : List Entry × List ℕ). Some (record { seats = r.seats; entries = x.0 }, x.1)) k.1,
      )

  told : cut_in bytes ≡ Some (r, left)
  told =
      let k = read_first [] in
      let nothing : whole_from v r.seats k.0 (left ++ []) ≡ ([], left) =
      ap (whole_from v r.seats k.0) (append-nil left) ∙ nothing_more v r.seats k.0 left is.none_left in
      ap cut_in (sym (append-nil bytes)) ∙ k.1
      ∙ ap (λ (x : List Entry × List ℕ). let read = behind r.entries x in Some (record { seats = r.seats; entries = read.0 }, read.1)) nothing
      ∙ ap (λ (es : List Entry). Some (record { seats = r.seats; entries = es }, left)) (append-nil r.entries)

  continued : (lost : List ℕ) → (y : Record) × (behind_it : List ℕ) × (cut_in (bytes ++ lost) ≡ Some (y, behind_it)) × Continues r y
  continued lost =
      let k = read_first lost in
      let read = whole_from v r.seats k.0 (left ++ lost) in
      (record { seats = r.seats; entries = r.entries ++ read.0 }, read.1, k.1, record { seats = refl; entries = (read.0, refl) })

pub is_told : (bytes : List ℕ) (r : Record) (left : List ℕ) → IsCut bytes r left → cut_in bytes ≡ Some (r, left)
is_told bytes r left is = told is.0 is.1 bytes r left is.2

-- what is read behind a heading is so
pub whole_found : (bytes : List ℕ) (h : Heading) → IsBytes bytes → heading_from bytes ≡ Some h → IsCut bytes (whole_behind h).0 (whole_behind h).1
whole_found bytes h fits e =
    let t = heading_takes bytes h fits e in
    let read = whole_takes h.0 h.1 (length h.3) h.3 t.0.rest_fits in
    let whole = whole_from h.0 h.1 (length h.3) h.3 in
    let all = Takes_then bytes (heading_in h.0 h.1 h.2) h.3 (flat_map entry_bytes whole.0) whole.1 t.0 read.0 in (
      h.0,
      h.2,
      record {
        seats = t.1.0;
        count_fits = t.1.1;
        entries = read.1;
        parts = all.parts;
        none_left = stops h.0 h.1 (length h.3) h.3 t.0.rest_fits (omega arith);
      },
    )

-- what is read is so
pub found_in : (bytes : List ℕ) (x : Record × List ℕ) → IsBytes bytes → cut_in bytes ≡ Some x → IsCut bytes x.0 x.1
unfolding cut_in
found_in bytes x fits e =
    let p = bind_some (heading_from bytes) (λ h. Some (whole_behind h)) x e in
    subst (λ (y : Record × List ℕ). IsCut bytes y.0 y.1) (some_is (whole_behind p.0) x p.2) (whole_found bytes p.0 fits p.1)

-- of a whole journal nothing is left
pub whole_told : (bytes : List ℕ) (r : Record) → Tells bytes r → IsCut bytes r []
whole_told bytes r is = let fits = is.1 in (
  is.0,
  length r.entries,
  record {
    seats = fits.seats;
    count_fits = fits.count;
    entries = fits.entries;
    parts = is.2 ∙ sym (append-nil _);
    none_left = no_entry_in_nothing is.0 r.seats;
  },
)

-- ---- of what a reader returned

module _ {X : Type 0} (record_of : X → Record) (left_of : X → List ℕ) (bytes : List ℕ) (fits : IsBytes bytes) where
  abbrev Reads : Result X ReadError → Type 0
  Reads result = Gives (λ x. (record_of x, left_of x)) result (cut_in bytes)

  pub is_found : (result : Result X ReadError) → Reads result → IfOk result (λ x. IsCut bytes (record_of x) (left_of x))
  is_found (Ok x) read = found_in bytes (record_of x, left_of x) fits read
  is_found (Err e) read = tt

  pub seats_found : (result : Result X ReadError) → Reads result → IfOk result (λ x. IsRecordSeats (record_of x).seats)
  seats_found (Ok x) read = let is = found_in bytes (record_of x, left_of x) fits read in seats_in is.0 (record_of x).seats is.2.seats
  seats_found (Err e) read = tt

  pub goes_on : (result : Result X ReadError) → Reads result
      → IfOk result (λ x. (lost : List ℕ) → (y : Record) × (left : List ℕ) × (cut_in (bytes ++ lost) ≡ Some (y, left)) × Continues (record_of x) y)
  goes_on (Ok x) read = λ lost. let is = found_in bytes (record_of x, left_of x) fits read in continued is.0 is.1 bytes (record_of x) (left_of x) is.2 lost
  goes_on (Err e) read = tt
