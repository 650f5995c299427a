-- Returns that can wait, one after the other.
use Rattle.std.proofs.Common.{◌≡◌, ℕ, zero, suc, ◌+◌, ◌-◌, ◌<◌, ◌≤◌, Bool, true, false, List, length, drop, Option, Some, None, refl, sym, ap, ◌∙◌, arith}
use Rattle.std.specs.Prelude.{◌==◌, nat_le}
use Rattle.std.proofs.lemmas.Bool.{eqb-true, eq-eqb, leb-true, le-leb}
use Rattle.std.proofs.lemmas.List.{length-drop, drop-drop}
use Rattle.bd_uapi.specs.Bytes.{word_at}
use Rattle.bd_bridge_live.specs.Deferring.{size_behind, is_whole, all_can_wait}

some_left : (n : ℕ) → 0 < n → (n == 0) ≡ false
some_left n lt = by (n == 0) refl
  where
    by : (b : Bool) → (n == 0) ≡ b → (n == 0) ≡ false
    by true e = let none = eqb-true n 0 e in absurd (omega arith)
    by false e = e

too_long : (n m : ℕ) → m < n → nat_le n m ≡ false
too_long n m lt = by (nat_le n m) refl
  where
    by : (b : Bool) → nat_le n m ≡ b → nat_le n m ≡ false
    by true e = let le = leb-true n m e in absurd (omega arith)
    by false e = e

-- what is no such return, or not whole
stops : (n : ℕ) (bytes : List ℕ) → 0 < length bytes → is_whole (size_behind (word_at 0 bytes)) (length bytes) ≡ false → all_can_wait (suc n) bytes ≡ false
stops n bytes lt no_return = rw (some_left (length bytes) lt, no_return) refl

short : (o : Option ℕ) (n : ℕ) → n < 4 → is_whole o n ≡ false
short None n lt = refl
short (Some k) n lt = too_long (4 + k) n (omega arith)

goes : (n : ℕ) (bytes : List ℕ) (k : ℕ) → 0 < length bytes → size_behind (word_at 0 bytes) ≡ Some k → 4 + k ≤ length bytes → all_can_wait (suc n) bytes ≡ all_can_wait n (drop (4 + k) bytes)
goes n bytes k lt is le = rw (some_left (length bytes) lt, is, le-leb (4 + k) (length bytes) le) refl

none_left : (n : ℕ) (bytes : List ℕ) → length bytes ≡ 0 → all_can_wait n bytes ≡ true
none_left zero bytes e = rw e refl
none_left (suc n) bytes e = rw e refl

here : (at : ℕ) (bytes : List ℕ) → word_at at bytes ≡ word_at 0 (drop at bytes)
unfolding word_at
here at bytes = refl

-- ---- of bytes, from a place on

pub all_read : (n at : ℕ) (bytes : List ℕ) (total : Bool) → at ≡ length bytes → all_can_wait n (drop at bytes) ≡ total → true ≡ total
all_read n at bytes total e same = sym (none_left n (drop at bytes) (omega (arith, length-drop at bytes, e))) ∙ same

stops_at : (n at : ℕ) (bytes : List ℕ) (total : Bool) → 0 < n → at < length bytes → is_whole (size_behind (word_at 0 (drop at bytes))) (length (drop at bytes)) ≡ false
    → all_can_wait n (drop at bytes) ≡ total → false ≡ total
stops_at zero at bytes total lt some no_return same = absurd (omega arith)
stops_at (suc n) at bytes total lt some no_return same = sym (stops n (drop at bytes) (omega (arith, length-drop at bytes, some)) no_return) ∙ same

pub is_short : (n at : ℕ) (bytes : List ℕ) (total : Bool) → 0 < n → at < length bytes → length bytes - at < 4 → all_can_wait n (drop at bytes) ≡ total → false ≡ total
is_short n at bytes total lt some few same = stops_at n at bytes total lt some (short (size_behind (word_at 0 (drop at bytes))) (length (drop at bytes)) (omega (arith, length-drop at bytes, few))) same

pub is_other : (n at : ℕ) (bytes : List ℕ) (total : Bool) → 0 < n → at < length bytes → size_behind (word_at at bytes) ≡ None → all_can_wait n (drop at bytes) ≡ total → false ≡ total
is_other n at bytes total lt some none same =
    stops_at n at bytes total lt some (ap (λ (o : Option ℕ). is_whole o (length (drop at bytes))) (sym (ap size_behind (here at bytes)) ∙ none)) same

pub is_cut : (n at k : ℕ) (bytes : List ℕ) (total : Bool) → 0 < n → at < length bytes → size_behind (word_at at bytes) ≡ Some k → length bytes - at - 4 < k → 4 ≤ length bytes - at
    → all_can_wait n (drop at bytes) ≡ total → false ≡ total
is_cut n at k bytes total lt some is few four same =
    stops_at n at bytes total lt some
    (ap (λ (o : Option ℕ). is_whole o (length (drop at bytes))) (sym (ap size_behind (here at bytes)) ∙ is) ∙ too_long (4 + k) (length (drop at bytes)) (omega (arith, length-drop at bytes, few, four))) same

pub goes_on : (n next at k : ℕ) (bytes : List ℕ) (total : Bool) → next + 1 ≡ n → at < length bytes → size_behind (word_at at bytes) ≡ Some k → at + (4 + k) ≤ length bytes
    → all_can_wait n (drop at bytes) ≡ total → all_can_wait next (drop (at + (4 + k)) bytes) ≡ total
goes_on zero next at k bytes total e some is le same = absurd (omega arith)
goes_on (suc n) next at k bytes total e some is le same =
    let one : next ≡ n = omega arith in
    let step = goes n (drop at bytes) k (omega (arith, length-drop at bytes, some)) (sym (ap size_behind (here at bytes)) ∙ is) (omega (arith, length-drop at bytes, le)) in
    rw one (ap (all_can_wait n) (sym (drop-drop (4 + k) at bytes)) ∙ sym step ∙ same)

pub ends : (n at : ℕ) (bytes : List ℕ) (total : Bool) → n ≡ 0 → at ≤ length bytes → all_can_wait n (drop at bytes) ≡ total → (at == length bytes) ≡ total
ends n at bytes total e le same = by (at == length bytes) refl
  where
    total_is : (length (drop at bytes) == 0) ≡ total
    total_is = ap (λ (m : ℕ). all_can_wait m (drop at bytes)) (sym e) ∙ same

    by : (b : Bool) → (at == length bytes) ≡ b → (at == length bytes) ≡ total
    by true is = let all = eqb-true at (length bytes) is in is ∙ all_read n at bytes total all same
    by false is = is ∙ sym (some_left (length (drop at bytes)) (omega (arith, length-drop at bytes, apart, le))) ∙ total_is
      where
        apart : at ≡ length bytes → ⊥
        apart same' = let yes = eq-eqb at (length bytes) same' in cc
