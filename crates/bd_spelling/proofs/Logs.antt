-- Bytes that are kept as spellings: what is read from them when one comes, and when the first is taken.
use Rattle.std.proofs.Common.{max, ◌≡◌, ℕ, zero, suc, ◌+◌, ◌-◌, ◌<◌, ◌≤◌, List, [], ◌∷◌, ◌++◌, length, Some, get_or, refl, sym, ap, subst, ◌∙◌, arith}
use Rattle.std.specs.List.{flat_map, AllByRecursion}
use Rattle.std.proofs.lemmas.List.{append-nil, append_assoc, length-append}
use Rattle.std.proofs.lemmas.List.Concat.{flat_map-cons}
use Rattle.std.proofs.lemmas.Grind.{flat_map-append}
use Rattle.bd_space.specs.declared.step.Entry.{Entry}
use Rattle.bd_spelling.specs.declared.versions.Version.TheVariants.{Two}
use Rattle.bd_uapi.specs.Bytes.{word}
use Rattle.bd_spelling.specs.Spelling.{entry_bytes, step_bytes, answer_bytes, block, IsEntry}
use Rattle.bd_spelling.specs.Reading.{entry_from, entries_from}
use Rattle.bd_spelling.proofs.FieldLaws.{some_is}
use Rattle.bd_spelling.proofs.Laws.{entry_again, entries_again}
use Rattle.bd_spelling.specs.Logged.{LogView, all_entries, entries_of, AreSpelled, AreSeatsOf, entries_in, read_of, every_seat}

told : (es : List Entry) → AllByRecursion (IsEntry every_seat) es → entries_in (length es) (flat_map entry_bytes es) ≡ es
unfolding entries_in
told es fit =
    let bytes = flat_map entry_bytes es in
    ap (λ (t : List ℕ). read_of (entries_from Two every_seat (length es) t)) (sym (append-nil bytes))
    ∙ ap read_of (entries_again Two every_seat es [] (omega arith) fit)

-- what makes bytes the spelling of a list: its entries are what is read from them
pub spells : (n : ℕ) (bytes : List ℕ) (es : List Entry) → n ≡ length es → bytes ≡ flat_map entry_bytes es → AllByRecursion (IsEntry every_seat) es → (entries_in n bytes ≡ es) × AreSpelled n bytes
spells n bytes es len is fit =
    let read : entries_in n bytes ≡ es = ap (λ (k : ℕ). entries_in k bytes) len ∙ ap (entries_in (length es)) is ∙ told es fit in (
      read,
      record {
        bytes_are = is ∙ ap (flat_map entry_bytes) (sym read);
        counted = ap length read ∙ sym len;
        fit = subst (AllByRecursion (IsEntry every_seat)) (sym read) fit;
      },
    )

pub none : (entries_in 0 [] ≡ []) × AreSpelled 0 []
none = spells 0 [] [] refl refl tt

all_push : (n : ℕ) (es : List Entry) (e : Entry) → AllByRecursion (IsEntry n) es → IsEntry n e → AllByRecursion (IsEntry n) (es ++ e ∷ [])
all_push n [] e fit one = (one, tt)
all_push n (x ∷ es) e fit one = (fit.0, all_push n es e fit.1 one)

-- an entry that comes
pub more : (n : ℕ) (bytes : List ℕ) (e : Entry) → AreSpelled n bytes → IsEntry every_seat e → (entries_in (n + 1) (bytes ++ entry_bytes e) ≡ entries_in n bytes ++ e ∷ []) × AreSpelled (n + 1) (bytes ++ entry_bytes e)
more n bytes e s fit =
    let es = entries_in n bytes in
    let one : flat_map entry_bytes (e ∷ []) ≡ entry_bytes e = flat_map-cons entry_bytes e [] ∙ append-nil (entry_bytes e) in
    let all : bytes ++ entry_bytes e ≡ flat_map entry_bytes (es ++ e ∷ []) =
    ap (λ (t : List ℕ). t ++ entry_bytes e) s.bytes_are ∙ ap (λ (t : List ℕ). flat_map entry_bytes es ++ t) (sym one) ∙ sym (flat_map-append entry_bytes es (e ∷ [])) in
    spells (n + 1) (bytes ++ entry_bytes e) (es ++ e ∷ []) (omega (arith, length-append es (e ∷ []), s.counted)) all (all_push every_seat es e s.fit fit)

-- ---- how many seats entries take

pub wider : (n m : ℕ) (es : List Entry) → n ≤ m → AllByRecursion (IsEntry n) es → AllByRecursion (IsEntry m) es
wider n m [] more fit = tt
wider n m (e ∷ es) more fit = (record { seat = omega (arith, fit.0.seat, more); step = fit.0.step; step_block = fit.0.step_block; answer = fit.0.answer; answer_block = fit.0.answer_block }, wider n m es more fit.1)

before_last : (n : ℕ) (es : List Entry) (e : Entry) → AllByRecursion (IsEntry n) (es ++ e ∷ []) → AllByRecursion (IsEntry n) es × IsEntry n e
before_last n [] e fit = (tt, fit.0)
before_last n (x ∷ es) e fit = let rest = before_last n es e fit.1 in ((fit.0, rest.0), rest.1)

pub more_seats : (n : ℕ) (es : List Entry) (e : Entry) → AreSeatsOf n es → IsEntry every_seat e → AreSeatsOf (max n (e.seat + 1)) (es ++ e ∷ [])
more_seats n es e s fit =
    let m = max n (e.seat + 1) in
    let past : e.seat < m = omega arith in
    record {
      enough = all_push m es e (wider n m es (omega arith) s.enough) (record { seat = past; step = fit.step; step_block = fit.step_block; answer = fit.answer; answer_block = fit.answer_block });
      least = λ k all. let parts = before_last k es e all in omega (arith, s.least k parts.0, parts.1.seat);
    }

-- an entry that is taken
pub first : (n : ℕ) (bytes : List ℕ) (e : Entry) (rest : List ℕ) → AreSpelled n bytes → 0 < n → entry_from Two every_seat bytes ≡ Some (e, rest) → (entries_in n bytes ≡ e ∷ entries_in (n - 1) rest) × AreSpelled (n - 1) rest
first n bytes e rest s some read = by (entries_in n bytes) refl
  where
    by : (es : List Entry) → es ≡ entries_in n bytes → (entries_in n bytes ≡ e ∷ entries_in (n - 1) rest) × AreSpelled (n - 1) rest
    by [] is = absurd (omega (arith, s.counted, ap length is))
    by (x ∷ es) is =
        let fit : AllByRecursion (IsEntry every_seat) (x ∷ es) = subst (AllByRecursion (IsEntry every_seat)) (sym is) s.fit in
        let parts : bytes ≡ entry_bytes x ++ flat_map entry_bytes es = s.bytes_are ∙ ap (flat_map entry_bytes) (sym is) ∙ flat_map-cons entry_bytes x es in
        let here : entry_from Two every_seat bytes ≡ Some (x, flat_map entry_bytes es) = ap (entry_from Two every_seat) parts ∙ entry_again Two every_seat x (flat_map entry_bytes es) (omega arith) fit.0 in
        let same : (x, flat_map entry_bytes es) ≡ (e, rest) = some_is (x, flat_map entry_bytes es) (e, rest) (sym here ∙ read) in
        let after = spells (n - 1) rest es (omega (arith, s.counted, ap length is)) (sym (ap (λ (p : Entry × List ℕ). p.1) same)) fit.1 in
        (sym is ∙ ap (λ (y : Entry). y ∷ es) (ap (λ (p : Entry × List ℕ). p.0) same) ∙ ap (λ (t : List Entry). e ∷ t) (sym after.0), after.1)

pub nothing : (es : List Entry) → length es ≡ 0 → es ≡ []
nothing [] none = refl
nothing (x ∷ es) none = absurd (omega (arith, none))

-- where the count is 0 nothing is read
pub none_left : (bytes : List ℕ) → AreSpelled 0 bytes → entries_in 0 bytes ≡ []
none_left bytes s = nothing (entries_in 0 bytes) s.counted

-- an entry that comes, by the new count and the new bytes
pub more_at : (n m : ℕ) (bytes all : List ℕ) (e : Entry) → AreSpelled n bytes → IsEntry every_seat e → m ≡ n + 1 → all ≡ bytes ++ entry_bytes e → (entries_in m all ≡ entries_in n bytes ++ e ∷ []) × AreSpelled m all
more_at n m bytes all e s fit counted grown = rw (counted, grown) (more n bytes e s fit)

-- each entry has a byte at least, so the count is below the length
few : (es : List Entry) → length es ≤ length (flat_map entry_bytes es)
few [] = omega arith
few (e ∷ es) =
    let four : length (word e.seat) ≡ 4 = refl in
    let rest = few es in
    omega (arith, ap length (flat_map-cons entry_bytes e es), length-append (entry_bytes e) (flat_map entry_bytes es), length-append (word e.seat) (block (step_bytes e.step) ++ block (answer_bytes e.answer)))

pub fewer : (n : ℕ) (bytes : List ℕ) → AreSpelled n bytes → n ≤ length bytes
fewer n bytes s = let f = few (entries_in n bytes) in let c = s.counted in omega (arith, ap length s.bytes_are)

pub longer : (e : Entry) → 1 ≤ length (entry_bytes e)
longer e =
    let four : length (word e.seat) ≡ 4 = refl in
    omega (arith, length-append (word e.seat) (block (step_bytes e.step) ++ block (answer_bytes e.answer)))

abbrev pub piece : LogView → List ℕ
piece c = flat_map entry_bytes c.entries

-- what chunks have, written in turn, is the spelling of all entries
pub spelled_all : (full : List LogView) (last : LogView) → flat_map piece full ++ piece last ≡ flat_map entry_bytes (all_entries full last)
spelled_all [] last = refl
spelled_all (c ∷ full) last =
    append_assoc (piece c) (flat_map piece full) (piece last)
    ∙ ap (λ (t : List ℕ). piece c ++ t) (spelled_all full last)
    ∙ sym (flat_map-append entry_bytes c.entries (all_entries full last))
    ∙ ap (flat_map entry_bytes) (sym (append_assoc c.entries (flat_map (λ (x : LogView). x.entries) full) last.entries))

-- where chunks have no entry, each of them has none
pub none_in : (full : List LogView) (at : ℕ) (x : LogView) → at < length full → length (entries_of full) ≡ 0 → length (get_or full at x).entries ≡ 0
none_in [] at x within none = absurd (omega (arith, within))
none_in (c ∷ full) zero x within none = omega (arith, none, ap length (flat_map-cons (λ (y : LogView). y.entries) c full), length-append c.entries (entries_of full))
none_in (c ∷ full) (suc at) x within none =
    none_in full at x (omega (arith, within)) (omega (arith, none, ap length (flat_map-cons (λ (y : LogView). y.entries) c full), length-append c.entries (entries_of full)))
