-- One offset of a walk: judged by itself, and behind another object.
use Rattle.std.proofs.Common.{◌≡◌, ℕ, ◌+◌, ◌*◌, ◌%◌, ◌/◌, ◌<◌, ◌≤◌, Bool, true, false, cond, List, [], ◌∷◌, length, take, drop, Option, Some, None, refl, sym, ap, ◌∙◌, arith}
use Rattle.std.specs.Prelude.{Result, Ok, Err, IfOk, IfSome, slice_get}
use Rattle.std.proofs.lemmas.List.{length-drop}
use Rattle.std.proofs.lemmas.Bool.{eq-eqb, ne_eqb, le-leb, lt-leb, and_left, and_right}
use Rattle.std.proofs.lemmas.Option.{slice_get_past}
use Rattle.bd_uapi.specs.Bytes.{number_from, long_at}
use Rattle.bd_uapi.specs.Codes.{is_in}
use Rattle.bd_uapi.specs.declared.object.FlatObject.{FlatObject}
use Rattle.bd_parcel.specs.declared.fault.WalkFault.{WalkFault}
use Rattle.bd_parcel.specs.declared.fault.WalkFault.TheVariants.{Size, Bad, Unsupported}
use Rattle.bd_parcel.specs.Parcels.{offsets_in, supported_types, unsupported_types, is_placed, type_at, fault_at, fault_in, first_of_two}
use Rattle.bd_parcel.specs.Reading.{object_at, objects_at}
use Rattle.bd_parcel.proofs.Offsets.{length_offsets_in, eight_front}
use Rattle.bd_parcel.proofs.Walks.{start_at}
use Rattle.bd_c.specs.declared.walks.WalkInC.{WalkInC}
use Rattle.bd_c.specs.Walks.{judged, next_object, with_index}

-- ---- the bytes of an offset

eight : (xs : List ℕ) → number_from 0 8 (take 8 xs) ≡ number_from 0 8 xs
eight [] = refl
eight (a ∷ []) = refl
eight (a ∷ b ∷ []) = refl
eight (a ∷ b ∷ c ∷ []) = refl
eight (a ∷ b ∷ c ∷ d ∷ []) = refl
eight (a ∷ b ∷ c ∷ d ∷ e ∷ []) = refl
eight (a ∷ b ∷ c ∷ d ∷ e ∷ f ∷ []) = refl
eight (a ∷ b ∷ c ∷ d ∷ e ∷ f ∷ g ∷ []) = refl
eight (a ∷ b ∷ c ∷ d ∷ e ∷ f ∷ g ∷ h ∷ xs) = refl

pub cut_out : (i : ℕ) (xs : List ℕ) → long_at 0 (take 8 (drop i xs)) ≡ long_at i xs
unfolding long_at
cut_out i xs = eight (drop i xs)

nothing : (os : List ℕ) → length os ≡ 0 → os ≡ []
nothing [] e = refl
nothing (o ∷ os) e = absurd (omega arith)

pub one_offset : (xs : List ℕ) → length xs ≡ 8 → offsets_in xs ≡ long_at 0 xs ∷ []
one_offset xs len =
    eight_front xs (omega arith) ∙ ap (λ (os : List ℕ). long_at 0 xs ∷ os) (nothing (offsets_in (drop 8 xs)) (omega (arith, length_offsets_in (drop 8 xs), length-drop 8 xs)))

-- ---- the fault of one offset, in a parcel and by itself

judge : Bool → Bool → Bool → ℕ → Option WalkFault
judge placed known other i = cond placed (cond known None (Some (cond other (Unsupported i) (Bad i)))) (Some (Bad i))

again : Option WalkFault → ℕ → Option WalkFault
again None i = None
again (Some fault) i = Some (with_index fault i)

judged_again : (placed known other : Bool) (i j : ℕ) → judge placed known other i ≡ again (judge placed known other j) i
unfolding judge again
judged_again true true other i j = refl
judged_again true false true i j = refl
judged_again true false false i j = refl
judged_again false known other i j = refl

of_two : (x : Option WalkFault) → first_of_two x None ≡ x
of_two None = refl
of_two (Some fault) = refl

-- The fault of one offset in a parcel is that of a parcel with this offset alone, told of the other index.
alone : (bytes xs : List ℕ) (i : ℕ) → length xs ≡ 8 → fault_at bytes 0 i (long_at 0 xs) ≡ again (fault_in bytes (offsets_in xs)) i
unfolding judge
alone bytes xs i len =
    let o = long_at 0 xs in
    judged_again (is_placed bytes 0 o) (is_in supported_types (type_at bytes o)) (is_in unsupported_types (type_at bytes o)) i 0
    ∙ ap (λ (x : Option WalkFault). again x i) (sym (of_two (fault_at bytes 0 0 o)) ∙ sym (ap (λ (os : List ℕ). fault_in bytes os) (one_offset xs len)))

-- behind an object that ends no later, it is the same
behind : (bytes : List ℕ) (end i o : ℕ) → end ≤ o → fault_at bytes end i o ≡ fault_at bytes 0 i o
behind bytes end i o le =
    let here : is_placed bytes end o ≡ is_placed bytes 0 o = rw (le-leb end o le, le-leb 0 o (omega arith)) refl in
    rw here refl

before : (bytes : List ℕ) (end i o : ℕ) → o < end → fault_at bytes end i o ≡ Some (Bad i)
before bytes end i o lt =
    let out : is_placed bytes end o ≡ false = and_left _ _ (and_right _ _ (lt-leb end o lt)) in
    rw out refl

-- ---- what a walk of the one offset says

pub early : (bytes : List ℕ) (end i o : ℕ) → o < end → Err (Bad i) ≡ judged bytes (fault_at bytes end i o) o
early bytes end i o lt = rw (before bytes end i o lt) refl

pub faulty : (bytes xs : List ℕ) (end i : ℕ) (fault : WalkFault) → length xs ≡ 8 → end ≤ long_at 0 xs → fault_in bytes (offsets_in xs) ≡ Some fault
    → Err (with_index fault i) ≡ judged bytes (fault_at bytes end i (long_at 0 xs)) (long_at 0 xs)
unfolding again
faulty bytes xs end i fault len le found =
    let is : fault_at bytes end i (long_at 0 xs) ≡ Some (with_index fault i) = behind bytes end i (long_at 0 xs) le ∙ alone bytes xs i len ∙ ap (λ (x : Option WalkFault). again x i) found in
    rw is refl

pub sound : (bytes xs starts : List ℕ) (objects : List FlatObject) (end i : ℕ) (x : FlatObject) (start : ℕ) → length xs ≡ 8 → end ≤ long_at 0 xs
    → fault_in bytes (offsets_in xs) ≡ None → starts ≡ offsets_in xs → objects ≡ objects_at bytes (offsets_in xs)
    → slice_get objects 0 ≡ Some x → slice_get starts 0 ≡ Some start → Ok (Some (x, start)) ≡ judged bytes (fault_at bytes end i (long_at 0 xs)) (long_at 0 xs)
unfolding again
sound bytes xs starts objects end i x start len le none starts-are objects-are at-x at_start =
    let is : fault_at bytes end i (long_at 0 xs) ≡ None = behind bytes end i (long_at 0 xs) le ∙ alone bytes xs i len ∙ ap (λ (y : Option WalkFault). again y i) none in
    let one = one_offset xs len in
    let begins : Some start ≡ Some (long_at 0 xs) = sym at_start ∙ ap (λ (os : List ℕ). slice_get os 0) (starts-are ∙ one) in
    let stands : Some x ≡ Some (object_at (long_at 0 xs) bytes) = sym at-x ∙ ap (λ (ys : List FlatObject). slice_get ys 0) (objects-are ∙ ap (λ (os : List ℕ). objects_at bytes os) one) in
    let same-start : start ≡ long_at 0 xs = cc in
    let same-x : x ≡ object_at (long_at 0 xs) bytes = cc in
    rw (is, same-start, same-x) refl

-- ---- the next of all offsets

pub odd : (bytes offsets : List ℕ) (w : WalkInC) → (length offsets % 8 ≡ 0 → ⊥) → Err Size ≡ next_object bytes offsets w
odd bytes offsets w ne = rw (ne_eqb (length offsets % 8) 0 ne) refl

pub at_end : (bytes offsets : List ℕ) (w : WalkInC) → length offsets % 8 ≡ 0 → length offsets / 8 ≤ w.index → Ok None ≡ next_object bytes offsets w
at_end bytes offsets w whole le =
    rw (eq-eqb (length offsets % 8) 0 whole, slice_get_past (offsets_in offsets) w.index (omega (arith, length_offsets_in offsets))) refl

pub at_next : (bytes offsets : List ℕ) (w : WalkInC) (o : ℕ) → length offsets % 8 ≡ 0 → 8 * w.index + 8 ≤ length offsets → o ≡ long_at (8 * w.index) offsets
    → judged bytes (fault_at bytes w.end w.index o) o ≡ next_object bytes offsets w
at_next bytes offsets w o whole le is = rw (eq-eqb (length offsets % 8) 0 whole, start_at offsets w.index o le is) refl

-- what is so at any rate is so of what is found
pub within : {A E : Type 0} (r : Result (Option A) E) (P : Type 0) → P → IfOk r (λ x. IfSome x (λ _. P))
within (Ok None) P p = tt
within (Ok (Some x)) P p = p
within (Err e) P p = tt
