-- Returns, one behind the other.
use Rattle.std.proofs.Common.{◌≡◌, ℕ, zero, suc, ◌+◌, ◌-◌, ◌%◌, ◌<◌, ◌≤◌, Bool, true, false, List, [], ◌∷◌, length, drop, Option, Some, None, refl, sym, ap, ◌∙◌, arith}
use Rattle.std.specs.Prelude.{nat_le, ◌==◌, ◌&&◌, ◌||◌, if◌then◌else◌}
use Rattle.std.proofs.lemmas.Bool.{leb-true, le-leb, eq-eqb, ne_eqb}
use Rattle.std.proofs.lemmas.List.{length-drop, drop-drop}
use Rattle.bd_uapi.specs.Bytes.{word_at}
use Rattle.bd_reader.specs.declared.reader.Reader.{Reader}
use Rattle.bd_reader.specs.Readers.{is_completion, read, told}
use Rattle.bd_reader.specs.Returns.{size_of, is_call, is_whole, is_one_way, first_in, returns_among, returns_in, size_of_all, read_all, up_to_call, call_at, fits, next_into, fitting, told_all, has_call, has_completion}

both : (a b : Bool) → (a && b) ≡ true → (a ≡ true) × (b ≡ true)
both true b e = (refl, e)
both false b e = absurd cc

whole : (bytes : List ℕ) → is_whole bytes ≡ true → (4 ≤ length bytes) × (size_of (word_at 0 bytes) ≤ length bytes)
whole bytes e =
    let b = both (nat_le 4 (length bytes)) (nat_le (size_of (word_at 0 bytes)) (length bytes)) e in
    (leb-true 4 (length bytes) b.0, leb-true (size_of (word_at 0 bytes)) (length bytes) b.1)

-- Nothing is whole where no byte is.
none : (bytes : List ℕ) → length bytes ≤ 0 → is_whole bytes ≡ false
none bytes le = by (is_whole bytes) refl
  where
    by : (b : Bool) → is_whole bytes ≡ b → is_whole bytes ≡ false
    by true e = let w = whole bytes e in absurd (omega (arith, w.0, le))
    by false e = e

rest : List ℕ → List ℕ
rest bytes = drop (size_of (word_at 0 bytes)) bytes

-- So many as there are bytes are enough, and more bring nothing.
enough : (n m : ℕ) (bytes : List ℕ) → length bytes ≤ n → length bytes ≤ m → returns_among n bytes ≡ returns_among m bytes
unfolding rest
enough zero zero bytes p q = refl
enough zero (suc m) bytes p q = rw (none bytes p) refl
enough (suc n) zero bytes p q = rw (none bytes q) refl
enough (suc n) (suc m) bytes p q = by (λ e. enough n m (rest bytes) (fewer n p e) (fewer m q e)) (is_whole bytes) refl
  where
    fewer : (k : ℕ) → length bytes ≤ suc k → is_whole bytes ≡ true → length (rest bytes) ≤ k
    fewer k le e = let w = whole bytes e in omega (arith, w.0, length-drop (size_of (word_at 0 bytes)) bytes, le)

    by : (is_whole bytes ≡ true → returns_among n (rest bytes) ≡ returns_among m (rest bytes)) → (b : Bool) → is_whole bytes ≡ b
        → (if b then (word_at 0 bytes, is_one_way bytes) ∷ returns_among n (rest bytes) else []) ≡ (if b then (word_at 0 bytes, is_one_way bytes) ∷ returns_among m (rest bytes) else [])
    by same true e = ap (λ (rs : List (ℕ × Bool)). (word_at 0 bytes, is_one_way bytes) ∷ rs) (same e)
    by same false e = refl

more : (bytes : List ℕ) → is_whole bytes ≡ true → returns_in bytes ≡ (word_at 0 bytes, is_one_way bytes) ∷ returns_in (rest bytes)
unfolding rest
more [] e = absurd cc
more (b ∷ bs) e =
    let len = length-drop (size_of (word_at 0 (b ∷ bs))) (b ∷ bs) in
    rw e (ap (λ (rs : List (ℕ × Bool)). (word_at 0 (b ∷ bs), is_one_way (b ∷ bs)) ∷ rs) (enough (length bs) (length (rest (b ∷ bs))) (rest (b ∷ bs)) (omega (arith, len)) (omega arith)))

stops : (bytes : List ℕ) → is_whole bytes ≡ false → returns_in bytes ≡ []
stops [] e = refl
stops (b ∷ bs) e = rw e refl

-- ---- by the first of them

chosen : (b : Bool) (x r : ℕ × Bool) → (if b then Some x else None) ≡ Some r → (b ≡ true) × (r ≡ x)
chosen true x r e = (refl, cc)
chosen false x r e = absurd cc

not_chosen : (b : Bool) (x : ℕ × Bool) → (if b then Some x else None) ≡ None → b ≡ false
not_chosen true x e = absurd cc
not_chosen false x e = refl

found : (bytes : List ℕ) (r : ℕ × Bool) → first_in bytes ≡ Some r → (is_whole bytes ≡ true) × (r ≡ (word_at 0 bytes, is_one_way bytes))
found bytes r e = chosen (is_whole bytes) (word_at 0 bytes, is_one_way bytes) r e

none_found : (bytes : List ℕ) → first_in bytes ≡ None → is_whole bytes ≡ false
none_found bytes e = not_chosen (is_whole bytes) (word_at 0 bytes, is_one_way bytes) e

pub first_fits : (at : ℕ) (bytes : List ℕ) (r : ℕ × Bool) → at ≤ length bytes → first_in (drop at bytes) ≡ Some r → at + size_of r.0 ≤ length bytes
first_fits at bytes r le is =
    let f = found (drop at bytes) r is in
    let w = whole (drop at bytes) f.0 in
    rw f.1 (omega (arith, w.1, length-drop at bytes, le))

pub first : (at : ℕ) (bytes : List ℕ) (r : ℕ × Bool) → first_in (drop at bytes) ≡ Some r → returns_in (drop at bytes) ≡ r ∷ returns_in (drop (at + size_of r.0) bytes)
unfolding rest
first at bytes r is =
    let f = found (drop at bytes) r is in
    rw f.1 (more (drop at bytes) f.0 ∙ ap (λ (xs : List ℕ). (word_at 0 (drop at bytes), is_one_way (drop at bytes)) ∷ returns_in xs) (drop-drop (size_of (word_at 0 (drop at bytes))) at bytes))

pub no_first : (at : ℕ) (bytes : List ℕ) → first_in (drop at bytes) ≡ None → returns_in (drop at bytes) ≡ []
no_first at bytes is = stops (drop at bytes) (none_found (drop at bytes) is)

-- ---- reading

pub read_on : (at : ℕ) (bytes : List ℕ) (r : ℕ × Bool) (s total : Reader) → first_in (drop at bytes) ≡ Some r → is_call r.0 ≡ false
    → read_all (up_to_call (returns_in (drop at bytes))) s ≡ total → read_all (up_to_call (returns_in (drop (at + size_of r.0) bytes))) (read r.0 r.1 s) ≡ total
read_on at bytes r s total is other same =
    sym (ap (λ (rs : List (ℕ × Bool)). read_all (up_to_call rs) s) (first at bytes r is) ∙ by (is_call r.0) other) ∙ same
  where
    by : (b : Bool) → b ≡ false
        → read_all (r ∷ (if b then [] else up_to_call (returns_in (drop (at + size_of r.0) bytes)))) s ≡ read_all (up_to_call (returns_in (drop (at + size_of r.0) bytes))) (read r.0 r.1 s)
    by true e = absurd cc
    by false e = refl

pub read_last : (at : ℕ) (bytes : List ℕ) (r : ℕ × Bool) (s total : Reader) → first_in (drop at bytes) ≡ Some r → is_call r.0 ≡ true
    → read_all (up_to_call (returns_in (drop at bytes))) s ≡ total → read r.0 r.1 s ≡ total
read_last at bytes r s total is call same =
    sym (ap (λ (rs : List (ℕ × Bool)). read_all (up_to_call rs) s) (first at bytes r is) ∙ by (is_call r.0) call) ∙ same
  where
    by : (b : Bool) → b ≡ true → read_all (r ∷ (if b then [] else up_to_call (returns_in (drop (at + size_of r.0) bytes)))) s ≡ read r.0 r.1 s
    by true e = refl
    by false e = absurd cc

pub read_none : (at : ℕ) (bytes : List ℕ) (s total : Reader) → first_in (drop at bytes) ≡ None → read_all (up_to_call (returns_in (drop at bytes))) s ≡ total → s ≡ total
read_none at bytes s total is same = sym (ap (λ (rs : List (ℕ × Bool)). read_all (up_to_call rs) s) (no_first at bytes is)) ∙ same

pub call_on : (at : ℕ) (bytes : List ℕ) (r : ℕ × Bool) (total : ℕ) → first_in (drop at bytes) ≡ Some r → is_call r.0 ≡ false
    → at + call_at (returns_in (drop at bytes)) ≡ total → at + size_of r.0 + call_at (returns_in (drop (at + size_of r.0) bytes)) ≡ total
call_on at bytes r total is other same =
    let here : call_at (returns_in (drop at bytes)) ≡ size_of r.0 + call_at (returns_in (drop (at + size_of r.0) bytes)) = ap call_at (first at bytes r is) ∙ rw other refl in
    omega (arith, here, same)

pub call_here : (at : ℕ) (bytes : List ℕ) (r : ℕ × Bool) (total : ℕ) → first_in (drop at bytes) ≡ Some r → is_call r.0 ≡ true
    → at + call_at (returns_in (drop at bytes)) ≡ total → at ≡ total
call_here at bytes r total is call same =
    let here : call_at (returns_in (drop at bytes)) ≡ 0 = ap call_at (first at bytes r is) ∙ rw call refl in
    omega (arith, here, same)

pub call_none : (at : ℕ) (bytes : List ℕ) (total : ℕ) → first_in (drop at bytes) ≡ None → at + call_at (returns_in (drop at bytes)) ≡ total → at ≡ total
call_none at bytes total is same =
    let here : call_at (returns_in (drop at bytes)) ≡ 0 = ap call_at (no_first at bytes is) in
    omega (arith, here, same)

-- ---- telling

-- what is told next, and the same of all behind it
pub next : (at left code : ℕ) (bytes : List ℕ) → at ≤ length bytes → next_into left (first_in (drop at bytes)) ≡ Some code
    → (w : Bool) × (fitting left (returns_in (drop at bytes)) ≡ (code, w) ∷ fitting (left - size_of code) (returns_in (drop (at + size_of code) bytes)))
    × (size_of code ≤ left) × (at + size_of code ≤ length bytes)
next at left code bytes le is = by (first_in (drop at bytes)) refl is
  where
    of : (r : ℕ × Bool) (b : Bool) → fits r.0 left ≡ b → first_in (drop at bytes) ≡ Some r → (if b then Some r.0 else None) ≡ Some code
        → (w : Bool) × (fitting left (returns_in (drop at bytes)) ≡ (code, w) ∷ fitting (left - size_of code) (returns_in (drop (at + size_of code) bytes)))
        × (size_of code ≤ left) × (at + size_of code ≤ length bytes)
    of r true fit one e =
        let same : r.0 ≡ code = cc in
        let there = first at bytes r one in
        let room = (both (nat_le 76 left) (nat_le (size_of r.0) left) fit).1 in
        rw (← same) (
          r.1,
          ap (fitting left) there ∙ rw fit refl,
          leb-true (size_of r.0) left room,
          first_fits at bytes r le one,
        )
    of r false fit one e = absurd cc

    by : (o : Option (ℕ × Bool)) → first_in (drop at bytes) ≡ o → next_into left o ≡ Some code
        → (w : Bool) × (fitting left (returns_in (drop at bytes)) ≡ (code, w) ∷ fitting (left - size_of code) (returns_in (drop (at + size_of code) bytes)))
        × (size_of code ≤ left) × (at + size_of code ≤ length bytes)
    by None one e = absurd cc
    by (Some r) one e = of r (fits r.0 left) refl one e

pub no_next : (at left : ℕ) (bytes : List ℕ) → next_into left (first_in (drop at bytes)) ≡ None → fitting left (returns_in (drop at bytes)) ≡ []
no_next at left bytes is = by (first_in (drop at bytes)) refl is
  where
    of : (r : ℕ × Bool) (b : Bool) → fits r.0 left ≡ b → first_in (drop at bytes) ≡ Some r → (if b then Some r.0 else None) ≡ None → fitting left (returns_in (drop at bytes)) ≡ []
    of r true fit one e = absurd cc
    of r false fit one e = ap (fitting left) (first at bytes r one) ∙ rw fit refl

    by : (o : Option (ℕ × Bool)) → first_in (drop at bytes) ≡ o → next_into left o ≡ None → fitting left (returns_in (drop at bytes)) ≡ []
    by None one e = ap (fitting left) (no_first at bytes one)
    by (Some r) one e = of r (fits r.0 left) refl one e

pub told_on : (code : ℕ) (w : Bool) (all rest : List (ℕ × Bool)) (s total : Reader) → all ≡ (code, w) ∷ rest → told_all all s ≡ total → told_all rest (told code s) ≡ total
told_on code w all rest s total is same = sym (ap (λ (rs : List (ℕ × Bool)). told_all rs s) is) ∙ same

pub told_none : (all : List (ℕ × Bool)) (s total : Reader) → all ≡ [] → told_all all s ≡ total → s ≡ total
told_none all s total is same = sym (ap (λ (rs : List (ℕ × Bool)). told_all rs s) is) ∙ same

pub size_on : (code at total : ℕ) (w : Bool) (all rest : List (ℕ × Bool)) → all ≡ (code, w) ∷ rest → at + size_of_all all ≡ total → at + size_of code + size_of_all rest ≡ total
size_on code at total w all rest is same = let here : size_of_all all ≡ size_of code + size_of_all rest = ap size_of_all is in omega (arith, here, same)

pub size_none : (at total : ℕ) (all : List (ℕ × Bool)) → all ≡ [] → at + size_of_all all ≡ total → at ≡ total
size_none at total all is same = let here : size_of_all all ≡ 0 = ap size_of_all is in omega (arith, here, same)

either_on : (a b c : Bool) → ((a || b) || c) ≡ (a || (b || c))
either_on true b c = refl
either_on false b c = refl

either_none : (a : Bool) → (a || false) ≡ a
either_none true = refl
either_none false = refl

pub call_more : (code : ℕ) (w a total : Bool) (all rest : List (ℕ × Bool)) → all ≡ (code, w) ∷ rest → (a || has_call all) ≡ total → ((a || is_call code) || has_call rest) ≡ total
call_more code w a total all rest is same = either_on a (is_call code) (has_call rest) ∙ sym (ap (λ (rs : List (ℕ × Bool)). a || has_call rs) is) ∙ same

pub call_no_more : (a total : Bool) (all : List (ℕ × Bool)) → all ≡ [] → (a || has_call all) ≡ total → a ≡ total
call_no_more a total all is same = sym (either_none a) ∙ sym (ap (λ (rs : List (ℕ × Bool)). a || has_call rs) is) ∙ same

pub completion_more : (code : ℕ) (w a total : Bool) (all rest : List (ℕ × Bool)) → all ≡ (code, w) ∷ rest → (a || has_completion all) ≡ total
    → ((a || is_completion code) || has_completion rest) ≡ total
completion_more code w a total all rest is same = either_on a (is_completion code) (has_completion rest) ∙ sym (ap (λ (rs : List (ℕ × Bool)). a || has_completion rs) is) ∙ same

pub completion_no_more : (a total : Bool) (all : List (ℕ × Bool)) → all ≡ [] → (a || has_completion all) ≡ total → a ≡ total
completion_no_more a total all is same = sym (either_none a) ∙ sym (ap (λ (rs : List (ℕ × Bool)). a || has_completion rs) is) ∙ same

-- ---- the first of them, as the code finds it

here : (at k : ℕ) (bytes : List ℕ) → word_at (at + k) bytes ≡ word_at k (drop at bytes)
unfolding word_at
here at k bytes = rw (drop-drop k at bytes) refl

at_place : (at : ℕ) (bytes : List ℕ) → word_at at bytes ≡ word_at 0 (drop at bytes)
unfolding word_at
at_place at bytes = refl

too_long : (n m : ℕ) → m < n → nat_le n m ≡ false
too_long n m lt = by (nat_le n m) refl
  where
    by : (b : Bool) → nat_le n m ≡ b → nat_le n m ≡ false
    by true e = let le = leb-true n m e in absurd (omega arith)
    by false e = e

pub is_short : (at : ℕ) (bytes : List ℕ) → at ≤ length bytes → length bytes - at < 4 → None ≡ first_in (drop at bytes)
is_short at bytes le lt = rw (too_long 4 (length (drop at bytes)) (omega (arith, length-drop at bytes, lt))) refl

whole_if : (bytes : List ℕ) → 4 ≤ length bytes → is_whole bytes ≡ nat_le (size_of (word_at 0 bytes)) (length bytes)
whole_if bytes le = rw (le-leb 4 (length bytes) le) refl

pub is_cut : (at code : ℕ) (bytes : List ℕ) → code ≡ word_at at bytes → at ≤ length bytes → 4 ≤ length bytes - at → length bytes - at < size_of code → None ≡ first_in (drop at bytes)
is_cut at code bytes is le four lt =
    let len = length-drop at bytes in
    let short : nat_le (size_of (word_at 0 (drop at bytes))) (length (drop at bytes)) ≡ false = too_long (size_of (word_at 0 (drop at bytes))) (length (drop at bytes)) (omega (arith, len, lt, ap size_of (is ∙ at_place at bytes))) in
    let cut : is_whole (drop at bytes) ≡ false = whole_if (drop at bytes) (omega (arith, len, four)) ∙ short in
    rw cut refl

pub is_first : (at code : ℕ) (one_way : Bool) (bytes : List ℕ) → code ≡ word_at at bytes → at ≤ length bytes → 4 ≤ length bytes - at → size_of code ≤ length bytes - at
    → one_way ≡ is_one_way (drop at bytes) → Some (code, one_way) ≡ first_in (drop at bytes)
is_first at code one_way bytes is le four fit same =
    let len = length-drop at bytes in
    let long : nat_le (size_of (word_at 0 (drop at bytes))) (length (drop at bytes)) ≡ true = le-leb (size_of (word_at 0 (drop at bytes))) (length (drop at bytes)) (omega (arith, len, fit, ap size_of (is ∙ at_place at bytes))) in
    let there : is_whole (drop at bytes) ≡ true = whole_if (drop at bytes) (omega (arith, len, four)) ∙ long in
    let code_is : code ≡ word_at 0 (drop at bytes) = is ∙ at_place at bytes in
    rw (there, code_is, same) refl

pub one_way_of : (at code flags : ℕ) (bytes : List ℕ) → code ≡ word_at at bytes → flags ≡ word_at (at + 24) bytes → code ≡ 0x80407202 → (flags % 2 == 1) ≡ is_one_way (drop at bytes)
one_way_of at code flags bytes is flags_are call =
    let first : (word_at 0 (drop at bytes) == 0x80407202) ≡ true = eq-eqb (word_at 0 (drop at bytes)) 0x80407202 (sym (is ∙ at_place at bytes) ∙ call) in
    rw (first, flags_are, here at 24 bytes) refl

pub not_one_way : (at code : ℕ) (bytes : List ℕ) → code ≡ word_at at bytes → (code ≡ 0x80407202 → ⊥) → (code == 0x80407202) ≡ is_one_way (drop at bytes)
not_one_way at code bytes is other =
    let same = is ∙ at_place at bytes in
    let first : (word_at 0 (drop at bytes) == 0x80407202) ≡ false = rw (← same) (ne_eqb code 0x80407202 other) in
    rw (ne_eqb code 0x80407202 other, first) refl
