-- Reading undoes spelling, and spelling undoes reading.
use Rattle.std.proofs.Common.{◌≡◌, ℕ, zero, suc, ◌^◌, ◌<◌, Bool, true, false, cond, eqb, ltb, eq-eqb, ◌&&◌, List, [], ◌∷◌, ◌++◌, length, take, Option, Some, None, Result, Ok, Err, refl, sym, ap, subst, ◌∙◌, append_assoc, arith}
use Rattle.std.specs.List.{flat_map, AllByRecursion}
use Rattle.std.proofs.lemmas.Bool.{eqb-true, ltb-true, lt-ltb}
use Rattle.std.proofs.lemmas.List.{append-nil, nil_from_length, take_all, length-append}
use Rattle.std.proofs.lemmas.List.Concat.{flat_map-cons}
use Rattle.bd_uapi.specs.Bytes.{IsBytes, word}
use Rattle.bd_uapi.specs.declared.fault.Fault.{Fault}
use Rattle.bd_uapi.specs.declared.command.Command.{Command}
use Rattle.bd_codec.specs.Spelling.{command_bytes, IsCommand}
use Rattle.bd_codec.specs.Reading.{command_at}
use Rattle.bd_codec.proofs.CommandRows.{command_found, command_again}
use Rattle.bd_space.specs.declared.step.Parcel.{Parcel}
use Rattle.bd_space.specs.declared.step.Step.{Step}
use Rattle.bd_space.specs.declared.step.Step.TheVariants as step
use Rattle.bd_space.specs.declared.step.StepAnswer.{StepAnswer}
use Rattle.bd_space.specs.declared.step.StepAnswer.TheVariants as answer
use Rattle.bd_space.specs.declared.step.Entry.{Entry}
use Rattle.bd_uapi.specs.declared.fault.Note.{Note}
use Rattle.bd_uapi.specs.declared.fault.Cause.{Cause}
use Rattle.bd_spelling.specs.declared.versions.Version.{Version}
use Rattle.bd_spelling.specs.declared.versions.Version.TheVariants.{One, Two, Three}
use Rattle.bd_spelling.specs.declared.codes.TheConstants.{NOTES, CAUSES, FAULTS}
use Rattle.bd_spelling.specs.Codes.{numbered, bit, bits, note_number, cause_number, fault_number}
use Rattle.bd_spelling.specs.Spelling.{block, has_spam, carries, parcel_bytes, step_bytes, answer_bytes, entry_bytes, IsBlock, IsParcel, IsStepIn, IsAnswer, IsEntryIn}
use Rattle.bd_spelling.specs.Reading.{◌>>=◌, byte_from, word_from, block_from, whole, whole_block_from, spelled_by, command_in, blocks_from, parcel_by, parcel_from, command_step_from, open_from, number_step_from, numbered_from, tagged, later_step_rows, step_rows, step_from, got_from, answer_rows, answer_from, entry_from, entries_from}
use Rattle.bd_spelling.proofs.FieldLaws.{bind_some, demand_some, some_is, Takes, Takes_then, Takes_behind, IsBytes_rest, byte_takes, words, blocks, block_bytes}
use Rattle.bd_spelling.proofs.Tags.{Row, RowOf, bare_row, once_row, thrice_row, thrice_again, numbered_row, rows_take}

pub none_is_not_some : {A : Type 0} (x : A) → None ≡ Some x → ⊥
none_is_not_some x e = cc

-- ---- commands

-- the command takes all of the bytes
command_spelled : (bytes : List ℕ) (c : Command) → IsBytes bytes → command_in bytes ≡ Some c → (bytes ≡ command_bytes c) × IsCommand c
unfolding command_in
command_spelled bytes c fits e = by (command_at bytes) refl e
  where
    by : (r : Result (Command × ℕ) Fault) → r ≡ command_at bytes → spelled_by (length bytes) r ≡ Some c → (bytes ≡ command_bytes c) × IsCommand c
    by (Ok x) is f =
        let d = demand_some (eqb x.1 (length bytes)) (Some x.0) c f in
        let found = command_found bytes (Ok x) fits is in
        let len : x.1 ≡ length bytes = eqb-true _ _ d.0 in
        let whole_is : bytes ≡ command_bytes x.0 = sym (ap (λ (n : ℕ). take n bytes) len ∙ take_all (length bytes) bytes (omega arith)) ∙ found.spelled in
        subst (λ (y : Command). (bytes ≡ command_bytes y) × IsCommand y) (some_is x.0 c d.1) (whole_is, found.fits)
    by (Err f) is g = absurd cc

command_read : (c : Command) → IsCommand c → command_in (command_bytes c) ≡ Some c
unfolding command_in
command_read c fits =
    let again : command_at (command_bytes c) ≡ Ok (c, length (command_bytes c)) = ap command_at (sym (append-nil (command_bytes c))) ∙ command_again c [] fits in
    rw (again, eq-eqb (length (command_bytes c)) (length (command_bytes c)) refl) refl

-- ---- parcels

two_blocks : (c : Command) (bytes : List ℕ) (x : Option Parcel × List ℕ) → carries c ≡ true → IsBytes bytes → blocks_from bytes ≡ Some x → Takes (1 ∷ bytes) (parcel_bytes x.0) x.1 × IsParcel c x.0
two_blocks c bytes x carrying fits e =
    let p = bind_some (block_from bytes) (λ a. block_from a.1 >>= λ b. Some (Some (record { bytes = a.0; offsets = b.0 }), b.1)) x e in
    let q = bind_some (block_from p.0.1) (λ b. Some (Some (record { bytes = p.0.0; offsets = b.0 }), b.1)) x p.2 in
    let t0 = blocks.takes bytes p.0 fits p.1 in
    let t1 = blocks.takes p.0.1 q.0 t0.0.rest_fits q.1 in
    let v : Option Parcel = Some (record { bytes = p.0.0; offsets = q.0.0 }) in
    let both = Takes_behind 1 bytes (block p.0.0 ++ block q.0.0) q.0.1 (Takes_then bytes (block p.0.0) p.0.1 (block q.0.0) q.0.1 t0.0 t1.0) in
    let made : Takes (1 ∷ bytes) (parcel_bytes v) q.0.1 × IsParcel c v = (both, (carrying, t0.1, t1.1)) in
    subst (λ (y : Option Parcel × List ℕ). Takes (1 ∷ bytes) (parcel_bytes y.0) y.1 × IsParcel c y.0) (some_is (v, q.0.1) x q.2) made

flag_takes : (c : Command) (flag : ℕ) (bytes : List ℕ) (x : Option Parcel × List ℕ) → IsBytes bytes → parcel_by (carries c) flag bytes ≡ Some x → Takes (flag ∷ bytes) (parcel_bytes x.0) x.1 × IsParcel c x.0
flag_takes c flag bytes x fits e = by (eqb flag 0) (eqb flag 1) refl refl e
  where
    by : (s t : Bool) → eqb flag 0 ≡ s → eqb flag 1 ≡ t → cond s (Some (None, bytes)) (cond (t && carries c) (blocks_from bytes) None) ≡ Some x → Takes (flag ∷ bytes) (parcel_bytes x.0) x.1 × IsParcel c x.0
    by true t p q f =
        let made : Takes (0 ∷ bytes) (0 ∷ []) bytes × IsParcel c None = (record { parts = refl; rest_fits = fits }, tt) in
        let plain : Takes (0 ∷ bytes) (parcel_bytes x.0) x.1 × IsParcel c x.0 = subst (λ (y : Option Parcel × List ℕ). Takes (0 ∷ bytes) (parcel_bytes y.0) y.1 × IsParcel c y.0) (some_is (None, bytes) x f) made in
        subst (λ (n : ℕ). Takes (n ∷ bytes) (parcel_bytes x.0) x.1 × IsParcel c x.0) (sym (eqb-true _ _ p)) plain
    by false true p q f =
        let d = demand_some (carries c) (blocks_from bytes) x f in
        subst (λ (n : ℕ). Takes (n ∷ bytes) (parcel_bytes x.0) x.1 × IsParcel c x.0) (sym (eqb-true _ _ q)) (two_blocks c bytes x d.0 fits d.1)
    by false false p q f = let h : None ≡ Some x = f in absurd (none_is_not_some x h)

parcel_takes : (c : Command) (bytes : List ℕ) (x : Option Parcel × List ℕ) → IsBytes bytes → parcel_from c bytes ≡ Some x → Takes bytes (parcel_bytes x.0) x.1 × IsParcel c x.0
unfolding parcel_from
parcel_takes c bytes x fits e =
    let p = bind_some (byte_from bytes) (λ flag. parcel_by (carries c) flag.0 flag.1) x e in
    let is : bytes ≡ p.0.0 ∷ p.0.1 = byte_takes bytes p.0 p.1 in
    let rest_fits : IsBytes p.0.1 = IsBytes_rest p.0.0 p.0.1 (subst IsBytes is fits) in
    subst (λ (b : List ℕ). Takes b (parcel_bytes x.0) x.1 × IsParcel c x.0) (sym is) (flag_takes c p.0.0 p.0.1 x rest_fits p.2)

parcel_again : (c : Command) (p : Option Parcel) (rest : List ℕ) → IsParcel c p → parcel_from c (parcel_bytes p ++ rest) ≡ Some (p, rest)
unfolding parcel_from byte_from
parcel_again c None rest fits = refl
parcel_again c (Some p) rest fits =
    let regrouped : block p.bytes ++ block p.offsets ++ rest ≡ block p.bytes ++ (block p.offsets ++ rest) = append_assoc (block p.bytes) (block p.offsets) rest in
    let both : blocks_from (block p.bytes ++ block p.offsets ++ rest) ≡ Some (Some p, rest) =
    ap blocks_from regrouped ∙ rw (blocks.again p.bytes (block p.offsets ++ rest) fits.1, blocks.again p.offsets rest fits.2) refl in
    rw fits.0 both

-- ---- steps

command_row : (v : Version) → Row step_bytes (IsStepIn v) 3 command_step_from
unfolding command_step_from
command_row v = record {
  takes = λ bytes x fits e.
      let p = bind_some (block_from bytes) (λ b. command_in b.0 >>= λ c. parcel_from c b.1 >>= λ q. Some (step.Command c q.0, q.1)) x e in
      let q = bind_some (command_in p.0.0) (λ c. parcel_from c p.0.1 >>= λ q. Some (step.Command c q.0, q.1)) x p.2 in
      let u = bind_some (parcel_from q.0 p.0.1) (λ y. Some (step.Command q.0 y.0, y.1)) x q.2 in
      let t0 = blocks.takes bytes p.0 fits p.1 in
      let spelled = command_spelled p.0.0 q.0 (block_bytes bytes p.0 fits p.1) q.1 in
      let t1 : Takes bytes (block (command_bytes q.0)) p.0.1 = subst (λ (b : List ℕ). Takes bytes (block b) p.0.1) spelled.0 t0.0 in
      let t2 = parcel_takes q.0 p.0.1 u.0 t0.0.rest_fits u.1 in
      let all = Takes_behind 3 bytes (block (command_bytes q.0) ++ parcel_bytes u.0.0) u.0.1 (Takes_then bytes (block (command_bytes q.0)) p.0.1 (parcel_bytes u.0.0) u.0.1 t1 t2.0) in
      let s = step.Command q.0 u.0.0 in
      let made : Takes (3 ∷ bytes) (step_bytes s) u.0.1 × IsStepIn v s = (all, (spelled.1, t2.1)) in
      subst (λ (y : Step × List ℕ). Takes (3 ∷ bytes) (step_bytes y.0) y.1 × IsStepIn v y.0) (some_is (s, u.0.1) x u.2) made;
}

open_row : (v : Version) → Row step_bytes (IsStepIn v) 0 open_from
unfolding open_from
open_row v = thrice_row step_bytes (IsStepIn v) word_from word (λ n. n < 2 ^ 32) words 0 step.Open (λ a b c. refl) (λ a b c p q r. (p, q, r))

spam_row : (v : Version) → has_spam v ≡ true → RowOf step_bytes (IsStepIn v) (7, numbered_from bit bits step.SetSpam)
spam_row v has = numbered_row step_bytes (IsStepIn v) bit bits 7 step.SetSpam (λ on. refl) (λ on. has)

later_rows_right : (v : Version) → AllByRecursion (RowOf step_bytes (IsStepIn v)) (later_step_rows v)
later_rows_right One = tt
later_rows_right Two = (spam_row Two refl, tt)
later_rows_right Three = (spam_row Three refl, tt)

step_rows_right : (v : Version) → AllByRecursion (RowOf step_bytes (IsStepIn v)) (step_rows v)
step_rows_right v = (
  open_row v,
  (
    once_row step_bytes (IsStepIn v) word_from word (λ n. n < 2 ^ 32) words 1 step.Attach (λ n. refl) (λ n p. p),
    (
      bare_row step_bytes (IsStepIn v) 2 step.SetManager refl tt,
      (
        command_row v,
        (
          once_row step_bytes (IsStepIn v) word_from word (λ n. n < 2 ^ 32) words 4 step.Read (λ n. refl) (λ n p. p),
          (
            bare_row step_bytes (IsStepIn v) 5 step.ExitThread refl tt,
            (bare_row step_bytes (IsStepIn v) 6 step.ExitProcess refl tt, later_rows_right v),
          ),
        ),
      ),
    ),
  ),
)

step_takes : (v : Version) (bytes : List ℕ) (x : Step × List ℕ) → IsBytes bytes → step_from v bytes ≡ Some x → Takes bytes (step_bytes x.0) x.1 × IsStepIn v x.0
unfolding step_from
step_takes v bytes x fits e = rows_take step_bytes (IsStepIn v) (step_rows v) (step_rows_right v) bytes x fits e

open_again : (a b c : ℕ) (rest : List ℕ) → a < 2 ^ 32 → b < 2 ^ 32 → c < 2 ^ 32 → open_from (word a ++ word b ++ word c ++ rest) ≡ Some (step.Open a b c, rest)
unfolding open_from
open_again a b c rest p q r = thrice_again word_from word (λ n. n < 2 ^ 32) words step.Open a b c rest p q r

command_step_again : (c : Command) (p : Option Parcel) (rest : List ℕ) → IsBlock (command_bytes c) → IsCommand c → IsParcel c p → command_step_from (block (command_bytes c) ++ parcel_bytes p ++ rest) ≡ Some (step.Command c p, rest)
unfolding command_step_from
command_step_again c p rest short fc fp =
    let regrouped : block (command_bytes c) ++ parcel_bytes p ++ rest ≡ block (command_bytes c) ++ (parcel_bytes p ++ rest) = append_assoc (block (command_bytes c)) (parcel_bytes p) rest in
    ap (λ (bytes : List ℕ). block_from bytes >>= λ b. command_in b.0 >>= λ x. parcel_from x b.1 >>= λ q. Some (step.Command x q.0, q.1)) regrouped
    ∙ rw (blocks.again (command_bytes c) (parcel_bytes p ++ rest) short, command_read c fc, parcel_again c p rest fp) refl

number_step_again : (make : ℕ → Step) (n : ℕ) (rest : List ℕ) → n < 2 ^ 32 → number_step_from make (word n ++ rest) ≡ Some (make n, rest)
number_step_again make n rest lt = ap (λ (o : Option (ℕ × List ℕ)). o >>= λ x. Some (make x.0, x.1)) (words.again n rest lt)

-- the first of the pieces of a short block is short
front_short : (tag : ℕ) (a b : List ℕ) → IsBlock (tag ∷ block a ++ b) → IsBlock a
front_short tag a b short = omega (arith, length-append a b)

bit_again : (on : Bool) → numbered bit bits (bit on) ≡ Some on
bit_again true = refl
bit_again false = refl

spam_again : (v : Version) (on : Bool) (rest : List ℕ) → has_spam v ≡ true → tagged (later_step_rows v) 7 (bit on ∷ rest) ≡ Some (step.SetSpam on, rest)
unfolding byte_from
spam_again One on rest has = absurd cc
spam_again Two on rest has = ap (λ (o : Option Bool). o >>= λ a. Some (step.SetSpam a, rest)) (bit_again on)
spam_again Three on rest has = ap (λ (o : Option Bool). o >>= λ a. Some (step.SetSpam a, rest)) (bit_again on)

step_again : (v : Version) (s : Step) (rest : List ℕ) → IsStepIn v s → IsBlock (step_bytes s) → step_from v (step_bytes s ++ rest) ≡ Some (s, rest)
unfolding step_from byte_from
step_again v (step.Open a b c) rest fits short = open_again a b c rest fits.0 fits.1 fits.2
step_again v (step.Attach n) rest fits short = number_step_again step.Attach n rest fits
step_again v step.SetManager rest fits short = refl
step_again v (step.SetSpam on) rest fits short = spam_again v on rest fits
step_again v (step.Command c p) rest fits short = command_step_again c p rest (front_short 3 (command_bytes c) (parcel_bytes p) short) fits.0 fits.1
step_again v (step.Read n) rest fits short = number_step_again step.Read n rest fits
step_again v step.ExitThread rest fits short = refl
step_again v step.ExitProcess rest fits short = refl

-- ---- answers

note_again : (n : Note) → numbered note_number NOTES (note_number n) ≡ Some n
note_again n = grind arith

cause_again : (x : Cause) → numbered cause_number CAUSES (cause_number x) ≡ Some x
cause_again x = grind arith

fault_again : (f : Fault) → numbered fault_number FAULTS (fault_number f) ≡ Some f
fault_again f = grind arith

got_row : Row answer_bytes IsAnswer 6 got_from
unfolding got_from
got_row = thrice_row answer_bytes IsAnswer block_from block IsBlock blocks 6 answer.Got (λ a b c. refl) (λ a b c p q r. (p, q, r))

answer_rows_right : AllByRecursion (RowOf answer_bytes IsAnswer) answer_rows
answer_rows_right = (
  bare_row answer_bytes IsAnswer 0 answer.Opened refl tt,
  (
    bare_row answer_bytes IsAnswer 1 answer.Set refl tt,
    (
      bare_row answer_bytes IsAnswer 2 answer.Exited refl tt,
      (
        bare_row answer_bytes IsAnswer 3 answer.Accepted refl tt,
        (
          numbered_row answer_bytes IsAnswer note_number NOTES 4 answer.Noted (λ n. refl) (λ n. tt),
          (
            numbered_row answer_bytes IsAnswer cause_number CAUSES 5 answer.Stopped (λ x. refl) (λ x. tt),
            (
              got_row,
              (numbered_row answer_bytes IsAnswer fault_number FAULTS 7 answer.Refused (λ f. refl) (λ f. tt), tt),
            ),
          ),
        ),
      ),
    ),
  ),
)

answer_takes : (bytes : List ℕ) (x : StepAnswer × List ℕ) → IsBytes bytes → answer_from bytes ≡ Some x → Takes bytes (answer_bytes x.0) x.1 × IsAnswer x.0
unfolding answer_from
answer_takes bytes x fits e = rows_take answer_bytes IsAnswer answer_rows answer_rows_right bytes x fits e

got_again : (a b c rest : List ℕ) → IsBlock a → IsBlock b → IsBlock c → got_from (block a ++ block b ++ block c ++ rest) ≡ Some (answer.Got a b c, rest)
unfolding got_from
got_again a b c rest p q r = thrice_again block_from block IsBlock blocks answer.Got a b c rest p q r

answer_again : (a : StepAnswer) (rest : List ℕ) → IsAnswer a → answer_from (answer_bytes a ++ rest) ≡ Some (a, rest)
unfolding answer_from byte_from
answer_again answer.Opened rest fits = refl
answer_again answer.Set rest fits = refl
answer_again answer.Exited rest fits = refl
answer_again answer.Accepted rest fits = refl
answer_again (answer.Noted n) rest fits = ap (λ (o : Option Note). o >>= λ a. Some (answer.Noted a, rest)) (note_again n)
answer_again (answer.Stopped x) rest fits = ap (λ (o : Option Cause). o >>= λ a. Some (answer.Stopped a, rest)) (cause_again x)
answer_again (answer.Got a b c) rest fits = got_again a b c rest fits.0 fits.1 fits.2
answer_again (answer.Refused f) rest fits = ap (λ (o : Option Fault). o >>= λ a. Some (answer.Refused a, rest)) (fault_again f)

-- ---- blocks that are all of one value

whole_takes : {A : Type 0} (read : List ℕ → Option (A × List ℕ)) (spell : A → List ℕ) (Fits : A → Type 0)
    → ((bytes : List ℕ) (x : A × List ℕ) → IsBytes bytes → read bytes ≡ Some x → Takes bytes (spell x.0) x.1 × Fits x.0)
    → (bytes : List ℕ) (x : A × List ℕ) → IsBytes bytes → whole_block_from read bytes ≡ Some x → Takes bytes (block (spell x.0)) x.1 × Fits x.0 × IsBlock (spell x.0)
whole_takes {A} read spell Fits takes bytes x fits e =
    let p = bind_some (block_from bytes) (λ b. whole read b.0 >>= λ y. Some (y, b.1)) x e in
    let q = bind_some (whole read p.0.0) (λ y. Some (y, p.0.1)) x p.2 in
    let u = bind_some (read p.0.0) (λ y. cond (eqb (length y.1) 0) (Some y.0) None) q.0 q.1 in
    let d = demand_some (eqb (length u.0.1) 0) (Some u.0.0) q.0 u.2 in
    let t0 = blocks.takes bytes p.0 fits p.1 in
    let t1 = takes p.0.0 u.0 (block_bytes bytes p.0 fits p.1) u.1 in
    let nothing : u.0.1 ≡ [] = nil_from_length u.0.1 (eqb-true _ _ d.0) in
    let inside : p.0.0 ≡ spell u.0.0 = t1.0.parts ∙ ap (λ (r : List ℕ). spell u.0.0 ++ r) nothing ∙ append-nil (spell u.0.0) in
    let made : Takes bytes (block (spell u.0.0)) p.0.1 × Fits u.0.0 × IsBlock (spell u.0.0) =
    (subst (λ (b : List ℕ). Takes bytes (block b) p.0.1) inside t0.0, t1.1, subst IsBlock inside t0.1) in
    let same : q.0 ≡ u.0.0 = sym (some_is u.0.0 q.0 d.1) in
    let made_q : Takes bytes (block (spell q.0)) p.0.1 × Fits q.0 × IsBlock (spell q.0) = subst (λ (a : A). Takes bytes (block (spell a)) p.0.1 × Fits a × IsBlock (spell a)) (sym same) made in
    subst (λ (y : A × List ℕ). Takes bytes (block (spell y.0)) y.1 × Fits y.0 × IsBlock (spell y.0)) (some_is (q.0, p.0.1) x q.2) made_q

whole_again : {A : Type 0} (read : List ℕ → Option (A × List ℕ)) (spell : A → List ℕ) (a : A) (rest : List ℕ) → read (spell a) ≡ Some (a, []) → IsBlock (spell a)
    → whole_block_from read (block (spell a) ++ rest) ≡ Some (a, rest)
whole_again read spell a rest e short = rw (blocks.again (spell a) rest short, e) refl

-- ---- entries

pub entry_takes : (v : Version) (seats : ℕ) (bytes : List ℕ) (x : Entry × List ℕ) → IsBytes bytes → entry_from v seats bytes ≡ Some x → Takes bytes (entry_bytes x.0) x.1 × IsEntryIn v seats x.0
unfolding entry_from
entry_takes v seats bytes x fits e =
    let p = bind_some (word_from bytes) (λ a. whole_block_from (step_from v) a.1 >>= λ b. whole_block_from answer_from b.1 >>= λ c. cond (ltb a.0 seats) (Some (record { seat = a.0; step = b.0; answer = c.0 }, c.1)) None) x e in
    let q = bind_some (whole_block_from (step_from v) p.0.1) (λ b. whole_block_from answer_from b.1 >>= λ c. cond (ltb p.0.0 seats) (Some (record { seat = p.0.0; step = b.0; answer = c.0 }, c.1)) None) x p.2 in
    let u = bind_some (whole_block_from answer_from q.0.1) (λ c. cond (ltb p.0.0 seats) (Some (record { seat = p.0.0; step = q.0.0; answer = c.0 }, c.1)) None) x q.2 in
    let one : Entry = record { seat = p.0.0; step = q.0.0; answer = u.0.0 } in
    let d = demand_some (ltb p.0.0 seats) (Some (one, u.0.1)) x u.2 in
    let t0 = words.takes bytes p.0 fits p.1 in
    let t1 = whole_takes (step_from v) step_bytes (IsStepIn v) (step_takes v) p.0.1 q.0 t0.0.rest_fits q.1 in
    let t2 = whole_takes answer_from answer_bytes IsAnswer answer_takes q.0.1 u.0 t1.0.rest_fits u.1 in
    let two = Takes_then bytes (word p.0.0) p.0.1 (block (step_bytes q.0.0)) q.0.1 t0.0 t1.0 in
    let all = Takes_then bytes (word p.0.0 ++ block (step_bytes q.0.0)) q.0.1 (block (answer_bytes u.0.0)) u.0.1 two t2.0 in
    let made : Takes bytes (entry_bytes one) u.0.1 × IsEntryIn v seats one = (all, record { seat = ltb-true _ _ d.0; step = t1.1; step_block = t1.2; answer = t2.1; answer_block = t2.2 }) in
    subst (λ (y : Entry × List ℕ). Takes bytes (entry_bytes y.0) y.1 × IsEntryIn v seats y.0) (some_is (one, u.0.1) x d.1) made

pub entry_again : (v : Version) (seats : ℕ) (e : Entry) (rest : List ℕ) → seats < 2 ^ 32 → IsEntryIn v seats e → entry_from v seats (entry_bytes e ++ rest) ≡ Some (e, rest)
unfolding entry_from
entry_again v seats e rest few fits =
    let done : step_from v (step_bytes e.step) ≡ Some (e.step, []) = ap (step_from v) (sym (append-nil (step_bytes e.step))) ∙ step_again v e.step [] fits.step fits.step_block in
    let given : answer_from (answer_bytes e.answer) ≡ Some (e.answer, []) = ap answer_from (sym (append-nil (answer_bytes e.answer))) ∙ answer_again e.answer [] fits.answer in
    let regrouped : entry_bytes e ++ rest ≡ word e.seat ++ (block (step_bytes e.step) ++ (block (answer_bytes e.answer) ++ rest)) =
    append_assoc (word e.seat ++ block (step_bytes e.step)) (block (answer_bytes e.answer)) rest ∙ append_assoc (word e.seat) (block (step_bytes e.step)) (block (answer_bytes e.answer) ++ rest) in
    let seat : e.seat < 2 ^ 32 = omega (arith, fits.seat, few) in
    ap (entry_from v seats) regrouped
    ∙ rw (
      words.again e.seat (block (step_bytes e.step) ++ (block (answer_bytes e.answer) ++ rest)) seat,
      whole_again (step_from v) step_bytes e.step (block (answer_bytes e.answer) ++ rest) done fits.step_block,
      whole_again answer_from answer_bytes e.answer rest given fits.answer_block,
      lt-ltb e.seat seats fits.seat,
    ) refl

pub entries_take : (v : Version) (seats n : ℕ) (bytes : List ℕ) (x : List Entry × List ℕ) → IsBytes bytes → entries_from v seats n bytes ≡ Some x → Takes bytes (flat_map entry_bytes x.0) x.1 × (length x.0 ≡ n) × AllByRecursion (IsEntryIn v seats) x.0
unfolding entries_from
entries_take v seats zero bytes x fits e =
    let made : Takes bytes [] bytes × (zero ≡ zero) × Unit {0} = (record { parts = refl; rest_fits = fits }, refl, tt) in
    subst (λ (y : List Entry × List ℕ). Takes bytes (flat_map entry_bytes y.0) y.1 × (length y.0 ≡ zero) × AllByRecursion (IsEntryIn v seats) y.0) (some_is ([], bytes) x e) made
entries_take v seats (suc n) bytes x fits e =
    let a = bind_some (entry_from v seats bytes) (λ first. entries_from v seats n first.1 >>= λ others. Some (first.0 ∷ others.0, others.1)) x e in
    let b = bind_some (entries_from v seats n a.0.1) (λ others. Some (a.0.0 ∷ others.0, others.1)) x a.2 in
    let first = entry_takes v seats bytes a.0 fits a.1 in
    let second = entries_take v seats n a.0.1 b.0 first.0.rest_fits b.1 in
    let both = Takes_then bytes (entry_bytes a.0.0) a.0.1 (flat_map entry_bytes b.0.0) b.0.1 first.0 second.0 in
    let all : List Entry × List ℕ = (a.0.0 ∷ b.0.0, b.0.1) in
    let made : Takes bytes (flat_map entry_bytes all.0) all.1 × (length all.0 ≡ suc n) × AllByRecursion (IsEntryIn v seats) all.0 = (both, ap suc second.1, (first.1, second.2)) in
    subst (λ (y : List Entry × List ℕ). Takes bytes (flat_map entry_bytes y.0) y.1 × (length y.0 ≡ suc n) × AllByRecursion (IsEntryIn v seats) y.0) (some_is all x b.2) made

pub entries_again : (v : Version) (seats : ℕ) (es : List Entry) (rest : List ℕ) → seats < 2 ^ 32 → AllByRecursion (IsEntryIn v seats) es → entries_from v seats (length es) (flat_map entry_bytes es ++ rest) ≡ Some (es, rest)
unfolding entries_from
entries_again v seats [] rest few fits = refl
entries_again v seats (e ∷ es) rest few fits =
    let regrouped : flat_map entry_bytes (e ∷ es) ++ rest ≡ entry_bytes e ++ (flat_map entry_bytes es ++ rest) =
    ap (λ (t : List ℕ). t ++ rest) (flat_map-cons entry_bytes e es) ∙ append_assoc (entry_bytes e) (flat_map entry_bytes es) rest in
    ap (entries_from v seats (suc (length es))) regrouped ∙ rw (entry_again v seats e (flat_map entry_bytes es ++ rest) few fits.0, entries_again v seats es rest few fits.1) refl
