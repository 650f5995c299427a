-- What a table of rows reads, for commands and returns alike.
use Rattle.std.proofs.Common.{◌≡◌, ℕ, ◌+◌, ◌^◌, ◌<◌, ◌≤◌, Bool, true, false, cond, eqb, ltb, List, [], ◌∷◌, ◌++◌, length, take, Option, Some, None, Result, Ok, Err, refl, sym, ap, ◌∙◌, subst, arith, inl, inr, ◌⊎◌}
use Rattle.std.specs.List.{AllByRecursion}
use Rattle.std.specs.Prelude.{MatchResult, IfOk, map}
use Rattle.std.proofs.lemmas.List.{append_cancel_left}
use Rattle.std.proofs.lemmas.Bool.{ltb-false, le-ltb, eqb-true}
use Rattle.bd_uapi.specs.declared.fault.Fault.{Fault}
use Rattle.bd_uapi.specs.declared.fault.Fault.TheVariants.{ShortCommand, UnknownCommand, RefusedCommand}
use Rattle.bd_uapi.specs.Bytes.{word, number, word_at}
use Rattle.bd_uapi.proofs.Pieces.{IsBytes, word_is, word_again}
use Rattle.bd_codec.specs.Spelling.{Found}
use Rattle.bd_uapi.specs.Codes.{is_in}
use Rattle.bd_codec.specs.Faults.{payload_size, fault_by, fault_among}
use Rattle.bd_codec.specs.Reading.{sized, Row, row_in, by_row, by_table, by_code}
use Rattle.bd_codec.proofs.Shapes.{Right}

-- ---- what is found is spelled so

-- a test that did not fail
guard : {A : Type 0} (b : Bool) (d : Fault) (x y : A) → cond b (Err d) (Ok x) ≡ Ok y → (b ≡ false) × (x ≡ y)
guard true d x y e = absurd cc
guard false d x y e = (refl, cc)

guard_result : {A : Type 0} (b : Bool) (d : Fault) (r : Result A Fault) (y : A) → cond b (Err d) r ≡ Ok y → (b ≡ false) × (r ≡ Ok y)
guard_result true d r y e = absurd cc
guard_result false d r y e = (refl, e)

cases_bool : (b : Bool) → (b ≡ true) ⊎ (b ≡ false)
cases_bool true = inl refl
cases_bool false = inr refl

sized_found : {A : Type 0} (spelling : A → List ℕ) (IsValue : A → Type 0) (row : Row A) (bytes : List ℕ) (x : A × ℕ)
    → Right spelling IsValue row → IsBytes bytes → word_at 0 bytes ≡ row.code → sized row.size bytes (row.value bytes, row.size) ≡ Ok x → Found spelling IsValue bytes x.0 x.1
sized_found {A} spelling IsValue row bytes x right h is e =
    let g = guard (ltb (length bytes) row.size) ShortCommand (row.value bytes, row.size) x e in
    let le : row.size ≤ length bytes = ltb-false _ _ g.0 in
    subst (λ (y : A × ℕ). Found spelling IsValue bytes y.0 y.1) g.1 (record { within = le; spelled = sym (right.spelled bytes h le is); fits = right.fits bytes h })

by_row_found : {A : Type 0} (spelling : A → List ℕ) (IsValue : A → Type 0) (refused : List ℕ) (rows : List (Row A)) (code : ℕ) (bytes : List ℕ) (x : A × ℕ)
    → AllByRecursion (Right spelling IsValue) rows → IsBytes bytes → word_at 0 bytes ≡ code → by_row refused (row_in rows code) code bytes ≡ Ok x → Found spelling IsValue bytes x.0 x.1
by_row_found spelling IsValue refused [] code bytes x right h is e = absurd cc
by_row_found spelling IsValue refused (row ∷ rows) code bytes x right h is e =
    elim (cases_bool (eqb code row.code)) [
      | inl hit ↦ sized_found spelling IsValue row bytes x right.0 h (is ∙ eqb-true _ _ hit) (rw hit at e)
      | inr miss ↦ by_row_found spelling IsValue refused rows code bytes x right.1 h is (rw miss at e)
    ]

table_found : {A : Type 0} (spelling : A → List ℕ) (IsValue : A → Type 0) (refused : List ℕ) (rows : List (Row A)) (bytes : List ℕ) (x : A × ℕ)
    → AllByRecursion (Right spelling IsValue) rows → IsBytes bytes → by_code (by_table refused rows) bytes ≡ Ok x → Found spelling IsValue bytes x.0 x.1
table_found spelling IsValue refused rows bytes x right h e =
    let g = guard_result (ltb (length bytes) 4) ShortCommand (by_table refused rows (word_at 0 bytes) bytes) x e in
    by_row_found spelling IsValue refused rows (word_at 0 bytes) bytes x right h refl g.1

-- what a function that reads so returns
pub found_in : {A : Type 0} (spelling : A → List ℕ) (IsValue : A → Type 0) (refused : List ℕ) (rows : List (Row A)) (bytes : List ℕ) (r : Result (A × ℕ) Fault)
    → AllByRecursion (Right spelling IsValue) rows → IsBytes bytes → r ≡ by_code (by_table refused rows) bytes → IfOk r (λ x. Found spelling IsValue bytes x.0 x.1)
found_in spelling IsValue refused rows bytes (Ok x) right h e = table_found spelling IsValue refused rows bytes x right h (sym e)
found_in spelling IsValue refused rows bytes (Err f) right h e = tt

-- ---- what is spelled is read, so no spelling begins another

pub code_again : {A : Type 0} (of_code : ℕ → List ℕ → Result (A × ℕ) Fault) (code : ℕ) (rest : List ℕ) (x : A × ℕ)
    → code < 2 ^ 32 → of_code code (word code ++ rest) ≡ Ok x → by_code of_code (word code ++ rest) ≡ Ok x
unfolding word_at
code_again of_code code rest x fits e =
    let short : ltb (length (word code ++ rest)) 4 ≡ false = le-ltb _ _ (omega arith) in
    rw (short, word_again code rest fits) e

abbrev done : {A : Type 0} → A × ℕ → Result (A × ℕ) Fault
done x = Ok x

ok_is : {A : Type 0} (x y : A × ℕ) → done x ≡ done y → x ≡ y
ok_is x y e = cc

pub apart : {A : Type 0} (spelling : A → List ℕ) (read : List ℕ → Result (A × ℕ) Fault) (a b : A) (x y : List ℕ)
    → read (spelling a ++ x) ≡ Ok (a, length (spelling a)) → read (spelling b ++ y) ≡ Ok (b, length (spelling b)) → spelling a ++ x ≡ spelling b ++ y → (a ≡ b) × (x ≡ y)
apart {A} spelling read a b x y ra rb e =
    let same : a ≡ b = ap (λ (p : A × ℕ). p.0) (ok_is (a, length (spelling a)) (b, length (spelling b)) (sym ra ∙ ap read e ∙ rb)) in
    (same, append_cancel_left (spelling b) x y (ap (λ (k : A). spelling k ++ x) (sym same) ∙ e))

-- ---- faults

-- the fault that a function returned is this one
abbrev pub Says : {A : Type 0} → Result A Fault → Option Fault → Type 0
Says r fault = MatchResult r (λ _. fault ≡ None) (λ f. fault ≡ Some f)

-- no row is of a refused code, and its size is the one in its code
pub record Plain {A : Type 0} (refused : List ℕ) (row : Row A) : Type 0 where
  pub size : row.size ≡ 4 + payload_size row.code
  pub kept : is_in refused row.code ≡ false

sized_says : {A : Type 0} (n len : ℕ) (b : Bool) (x : A) → Says (cond b (Err ShortCommand) (Ok x)) (cond b (Some ShortCommand) None)
sized_says n len true x = refl
sized_says n len false x = refl

missed : (A : Type 0) (b : Bool) (code len : ℕ) → Says {A = A × ℕ} (Err (cond b RefusedCommand UnknownCommand)) (fault_by b false code len)
missed A true code len = refl
missed A false code len = refl

by_row_says : {A : Type 0} (refused : List ℕ) (rows : List (Row A)) (code : ℕ) (bytes : List ℕ) → AllByRecursion (Plain refused) rows
    → Says (by_row refused (row_in rows code) code bytes) (fault_by (is_in refused code) (is_in (map (λ r. r.code) rows) code) code (length bytes))
by_row_says {A} refused [] code bytes plain = missed A (is_in refused code) code (length bytes)
by_row_says refused (row ∷ rows) code bytes plain =
    elim (cases_bool (eqb code row.code)) [
      | inl hit ↦
          let is = eqb-true code row.code hit in
          let kept : is_in refused code ≡ false = ap (is_in refused) is ∙ plain.0.kept in
          let size : row.size ≡ 4 + payload_size code = plain.0.size ∙ ap (λ c. 4 + payload_size c) (sym is) in
          rw (hit, kept, size) (sized_says (4 + payload_size code) (length bytes) (ltb (length bytes) (4 + payload_size code)) (row.value bytes, 4 + payload_size code))
      | inr miss ↦ rw miss (by_row_says refused rows code bytes plain.1)
    ]

long_says : {A : Type 0} (refused : List ℕ) (rows : List (Row A)) (b : Bool) (bytes : List ℕ) → AllByRecursion (Plain refused) rows → ltb (length bytes) 4 ≡ b
    → Says (cond b (Err ShortCommand) (by_table refused rows (word_at 0 bytes) bytes))
    (cond b (Some ShortCommand) (let code = number (take 4 bytes) in fault_by (is_in refused code) (is_in (map (λ r. r.code) rows) code) code (length bytes)))
long_says refused rows true bytes plain e = refl
long_says refused rows false bytes plain e = rw (← word_is 0 bytes (ltb-false _ _ e)) (by_row_says refused rows (word_at 0 bytes) bytes plain)

pub table_says : {A : Type 0} (refused : List ℕ) (rows : List (Row A)) (bytes : List ℕ) → AllByRecursion (Plain refused) rows
    → Says (by_code (by_table refused rows) bytes) (fault_among refused (map (λ r. r.code) rows) bytes)
unfolding fault_among
table_says refused rows bytes plain = long_says refused rows (ltb (length bytes) 4) bytes plain refl
