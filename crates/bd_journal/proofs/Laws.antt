-- Reading a journal undoes spelling it, and spelling undoes reading.
use Rattle.std.proofs.Common.{◌≡◌, ℕ, ◌^◌, ◌<◌, ◌≤◌, Bool, true, false, cond, eqb, leb, ◌&&◌, List, [], ◌++◌, length, take, drop, Some, None, Result, Ok, Err, refl, sym, ap, subst, ◌∙◌, append_assoc, arith}
use Rattle.std.specs.Prelude.{IfOk}
use Rattle.std.specs.List.{flat_map}
use Rattle.std.specs.Str.{bytes_eq}
use Rattle.std.specs.Cmp.Lexicographic.{same_text}
use Rattle.std.proofs.lemmas.Bool.{eqb-true, leb-true, le-leb}
use Rattle.std.proofs.lemmas.List.{append-nil, nil_from_length, take-append-drop}
use Rattle.bd_uapi.specs.Bytes.{IsBytes, word}
use Rattle.bd_uapi.proofs.Pieces.{IsBytes_drop}
use Rattle.bd_spelling.specs.declared.record.Record.{Record}
use Rattle.bd_spelling.specs.declared.versions.Version.{Version}
use Rattle.bd_spelling.specs.declared.versions.Version.TheVariants.{One, Two, Three}
use Rattle.bd_spelling.specs.declared.fault.ReadError.{ReadError}
use Rattle.bd_spelling.specs.Spelling.{entry_bytes}
use Rattle.bd_journal.specs.Spelling.{magic, least_seats_in, most_seats_in, count_bytes, count_limit, heading_in, spelling_in, IsSeatsIn, IsJournalIn, Tells}
use Rattle.bd_spelling.specs.Reading.{◌>>=◌, Gives, word_from, entries_from}
use Rattle.bd_journal.specs.Reading.{version_from, seats_from, count_from, Heading, heading_from, record_from, journal_in}
use Rattle.bd_spelling.proofs.FieldLaws.{bind_some, demand_some, some_is, Takes, Takes_then, Reads, words, longs}
use Rattle.bd_spelling.proofs.Laws.{none_is_not_some, entries_take, entries_again}

-- the number of entries, in each version
pub counts : (v : Version) → Reads (count_from v) (count_bytes v) (λ n. n < count_limit v)
counts One = words
counts Two = words
counts Three = longs

-- ---- journals

both_true : (a b : Bool) → (a && b) ≡ true → (a ≡ true) × (b ≡ true)
both_true true b e = (refl, e)
both_true false b e = absurd cc

pub magic_takes : (bytes : List ℕ) (x : Version × List ℕ) → IsBytes bytes → version_from bytes ≡ Some x → Takes bytes (magic x.0) x.1
unfolding version_from
magic_takes bytes x fits e = by (bytes_eq (take 8 bytes) (magic Three)) (bytes_eq (take 8 bytes) (magic Two)) (bytes_eq (take 8 bytes) (magic One)) refl refl refl e
  where
    begins : (v : Version) → bytes_eq (take 8 bytes) (magic v) ≡ true → Takes bytes (magic v) (drop 8 bytes)
    begins v is = record {
      parts = sym (take-append-drop 8 bytes) ∙ ap (λ (t : List ℕ). t ++ drop 8 bytes) (same_text (take 8 bytes) (magic v) (sym is));
      rest_fits = IsBytes_drop 8 bytes fits;
    }

    is_begun : (v : Version) → bytes_eq (take 8 bytes) (magic v) ≡ true → Some (v, drop 8 bytes) ≡ Some x → Takes bytes (magic x.0) x.1
    is_begun v is f = subst (λ (y : Version × List ℕ). Takes bytes (magic y.0) y.1) (some_is (v, drop 8 bytes) x f) (begins v is)

    by : (three two one : Bool) → bytes_eq (take 8 bytes) (magic Three) ≡ three → bytes_eq (take 8 bytes) (magic Two) ≡ two → bytes_eq (take 8 bytes) (magic One) ≡ one
        → cond three (Some (Three, drop 8 bytes)) (cond two (Some (Two, drop 8 bytes)) (cond one (Some (One, drop 8 bytes)) None)) ≡ Some x → Takes bytes (magic x.0) x.1
    by true two one o p q f = is_begun Three o f
    by false true one o p q f = is_begun Two p f
    by false false true o p q f = is_begun One q f
    by false false false o p q f = let h : None ≡ Some x = f in absurd (none_is_not_some x h)

pub magic_again : (v : Version) (rest : List ℕ) → version_from (magic v ++ rest) ≡ Some (v, rest)
unfolding version_from
magic_again One rest = refl
magic_again Two rest = refl
magic_again Three rest = refl

abbrev seats_fit : Version → ℕ → Bool
seats_fit v n = leb (least_seats_in v) n && leb n (most_seats_in v)

pub seats_take : (v : Version) (bytes : List ℕ) (x : ℕ × List ℕ) → IsBytes bytes → seats_from v bytes ≡ Some x → Takes bytes (word x.0) x.1 × IsSeatsIn v x.0
unfolding seats_from
seats_take v bytes x fits e =
    let p = bind_some (word_from bytes) (λ b. cond (seats_fit v b.0) (Some b) None) x e in
    let d = demand_some (seats_fit v p.0.0) (Some p.0) x p.2 in
    let limits = both_true _ _ d.0 in
    let t = words.takes bytes p.0 fits p.1 in
    let made : Takes bytes (word p.0.0) p.0.1 × IsSeatsIn v p.0.0 = (t.0, (leb-true _ _ limits.0, leb-true _ _ limits.1)) in
    subst (λ (y : ℕ × List ℕ). Takes bytes (word y.0) y.1 × IsSeatsIn v y.0) (some_is p.0 x d.1) made

-- a number of seats has its width
pub seats_small : (v : Version) (n : ℕ) → n ≤ most_seats_in v → n < 2 ^ 32
seats_small One n few = omega (arith, few)
seats_small Two n few = omega (arith, few)
seats_small Three n few = omega (arith, few)

pub seats_again : (v : Version) (n : ℕ) (rest : List ℕ) → IsSeatsIn v n → seats_from v (word n ++ rest) ≡ Some (n, rest)
unfolding seats_from
seats_again v n rest fits = rw (words.again n rest (seats_small v n fits.1), le-leb (least_seats_in v) n fits.0, le-leb n (most_seats_in v) fits.1) refl

-- the number of seats and of entries are what a heading of this version has
abbrev pub IsHeadingIn : Heading → Type 0
IsHeadingIn h = IsSeatsIn h.0 h.1 × (h.2 < count_limit h.0)

pub heading_takes : (bytes : List ℕ) (h : Heading) → IsBytes bytes → heading_from bytes ≡ Some h → Takes bytes (heading_in h.0 h.1 h.2) h.3 × IsHeadingIn h
unfolding heading_from
heading_takes bytes h fits e =
    let p = bind_some (version_from bytes) (λ a. seats_from a.0 a.1 >>= λ b. count_from a.0 b.1 >>= λ c. Some (a.0, b.0, c.0, c.1)) h e in
    let v = p.0.0 in
    let q = bind_some (seats_from v p.0.1) (λ b. count_from v b.1 >>= λ c. Some (v, b.0, c.0, c.1)) h p.2 in
    let u = bind_some (count_from v q.0.1) (λ c. Some (v, q.0.0, c.0, c.1)) h q.2 in
    let begun = magic_takes bytes p.0 fits p.1 in
    let s = seats_take v p.0.1 q.0 begun.rest_fits q.1 in
    let t0 : Takes bytes (magic v ++ word q.0.0) q.0.1 = Takes_then bytes (magic v) p.0.1 (word q.0.0) q.0.1 begun s.0 in
    let t1 = (counts v).takes q.0.1 u.0 t0.rest_fits u.1 in
    let all = Takes_then bytes (magic v ++ word q.0.0) q.0.1 (count_bytes v u.0.0) u.0.1 t0 t1.0 in
    let made : Takes bytes (heading_in v q.0.0 u.0.0) u.0.1 × IsHeadingIn (v, q.0.0, u.0.0, u.0.1) = (all, (s.1, t1.1)) in
    subst (λ (y : Heading). Takes bytes (heading_in y.0 y.1 y.2) y.3 × IsHeadingIn y) (some_is (v, q.0.0, u.0.0, u.0.1) h u.2) made

pub heading_again : (v : Version) (seats count : ℕ) (tail : List ℕ) → IsSeatsIn v seats → count < count_limit v
    → heading_from (heading_in v seats count ++ tail) ≡ Some (v, seats, count, tail)
unfolding heading_from
heading_again v seats count tail are fits =
    let counted = count_bytes v count ++ tail in
    let regrouped : heading_in v seats count ++ tail ≡ magic v ++ (word seats ++ counted) =
    append_assoc (magic v ++ word seats) (count_bytes v count) tail ∙ append_assoc (magic v) (word seats) counted in
    ap heading_from regrouped ∙ rw (magic_again v (word seats ++ counted), seats_again v seats counted are, (counts v).again count tail fits) refl

-- what is read behind a heading is a journal of its version
record_takes : (bytes : List ℕ) (h : Heading) (r : Record) → Takes bytes (heading_in h.0 h.1 h.2) h.3 → IsHeadingIn h → record_from h ≡ Some r → IsJournalIn h.0 r × (bytes ≡ spelling_in h.0 r)
unfolding record_from
record_takes bytes h r begun fits e =
    let v = h.0 in
    let seats = h.1 in
    let u = bind_some (entries_from v seats h.2 h.3) (λ c. cond (eqb (length c.1) 0) (Some (record { seats = seats; entries = c.0 })) None) r e in
    let found : Record = record { seats = seats; entries = u.0.0 } in
    let d = demand_some (eqb (length u.0.1) 0) (Some found) r u.2 in
    let t = entries_take v seats h.2 h.3 u.0 begun.rest_fits u.1 in
    let nothing : u.0.1 ≡ [] = nil_from_length u.0.1 (eqb-true _ _ d.0) in
    let heading : Takes bytes (heading_in v seats (length u.0.0)) h.3 = subst (λ (n : ℕ). Takes bytes (heading_in v seats n) h.3) (sym t.1) begun in
    let parts = (Takes_then bytes (heading_in v seats (length u.0.0)) h.3 (flat_map entry_bytes u.0.0) u.0.1 heading t.0).parts in
    let all : bytes ≡ spelling_in v found = parts ∙ ap (λ (t : List ℕ). spelling_in v found ++ t) nothing ∙ append-nil (spelling_in v found) in
    let made : IsJournalIn v found × (bytes ≡ spelling_in v found) = (record { seats = fits.0; count = omega (arith, fits.1, t.1); entries = t.2 }, all) in
    subst (λ (y : Record). IsJournalIn v y × (bytes ≡ spelling_in v y)) (some_is found r d.1) made

pub journal_takes : (bytes : List ℕ) (r : Record) → IsBytes bytes → journal_in bytes ≡ Some r → Tells bytes r
unfolding journal_in
journal_takes bytes r fits e =
    let p = bind_some (heading_from bytes) record_from r e in
    let begun = heading_takes bytes p.0 fits p.1 in
    let t = record_takes bytes p.0 r begun.0 begun.1 p.2 in
    (p.0.0, t.0, t.1)

record_again : (v : Version) (r : Record) → IsJournalIn v r → record_from (v, r.seats, length r.entries, flat_map entry_bytes r.entries) ≡ Some r
unfolding record_from
record_again v r fits =
    let rest : entries_from v r.seats (length r.entries) (flat_map entry_bytes r.entries) ≡ Some (r.entries, []) =
    ap (entries_from v r.seats (length r.entries)) (sym (append-nil (flat_map entry_bytes r.entries))) ∙ entries_again v r.seats r.entries [] (seats_small v r.seats fits.seats.1) fits.entries in
    rw rest refl

journal_again : (v : Version) (r : Record) → IsJournalIn v r → journal_in (spelling_in v r) ≡ Some r
unfolding journal_in
journal_again v r fits =
    ap (λ x. x >>= record_from) (heading_again v r.seats (length r.entries) (flat_map entry_bytes r.entries) fits.seats fits.count) ∙ record_again v r fits

pub is_told : (bytes : List ℕ) (r : Record) → Tells bytes r → journal_in bytes ≡ Some r
is_told bytes r told = ap journal_in told.2 ∙ journal_again told.0 r told.1

pub is_found : (bytes : List ℕ) (r : Result Record ReadError) → IsBytes bytes → Gives (λ x. x) r (journal_in bytes) → IfOk r (Tells bytes)
is_found bytes (Ok x) fits given = journal_takes bytes x fits given
is_found bytes (Err e) fits given = tt
