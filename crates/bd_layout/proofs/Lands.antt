-- What is put right stays so, and nothing else changes.
use Rattle.std.proofs.Common.{◌≡◌, ℕ, ◌+◌, ◌-◌, ◌*◌, ◌≤◌, ◌⊎◌, inl, inr, List, [], ◌∷◌, ◌++◌, length, take, drop, replicate, refl, sym, ap, ◌∙◌, subst, arith, append_assoc, length-append, length-drop}
use Rattle.std.proofs.lemmas.List.{length-take-le, length-replicate, take-take, take-append-le, drop-append-le, drop-drop, drop-take}
use Rattle.std.proofs.Math.Seq.{drop-append_seam, take-append_seam, drop-append-add}
use Rattle.bd_uapi.specs.Bytes.{long}
use Rattle.bd_layout.specs.declared.fixup.Fixup.{Fixup}
use Rattle.bd_layout.specs.declared.fixup.Fixup.TheVariants.{Pointer, Descriptor, Descriptors}
use Rattle.bd_layout.specs.Landed.{put_at, landed}
use Rattle.bd_layout.specs.Apart.{start_of, size_of, Each, IsClearOf, AllApart, Stands, HasLanded}

-- ---- bytes written over others

abbrev over : ℕ → List ℕ → List ℕ → List ℕ
over p new xs = take p xs ++ (new ++ drop (p + length new) xs)

over_length : (p : ℕ) (new xs : List ℕ) → p + length new ≤ length xs → length (over p new xs) ≡ length xs
over_length p new xs le =
    omega (arith, length-append (take p xs) (new ++ drop (p + length new) xs), length-append new (drop (p + length new) xs), length-take-le p xs (omega arith), length-drop (p + length new) xs)

over_reads : (p : ℕ) (new xs : List ℕ) → p + length new ≤ length xs → take (length new) (drop p (over p new xs)) ≡ new
over_reads p new xs le =
    let front : drop p (over p new xs) ≡ new ++ drop (p + length new) xs =
    subst (λ (q : ℕ). drop q (over p new xs) ≡ new ++ drop (p + length new) xs) (length-take-le p xs (omega arith)) (drop-append_seam (take p xs) (new ++ drop (p + length new) xs)) in
    ap (take (length new)) front ∙ take-append_seam new (drop (p + length new) xs)

over_before : (p : ℕ) (new xs : List ℕ) (at k : ℕ) → p + length new ≤ length xs → at + k ≤ p → take k (drop at (over p new xs)) ≡ take k (drop at xs)
over_before p new xs at k le before =
    let rest = new ++ drop (p + length new) xs in
    let whole = length-take-le p xs (omega arith) in
    let split : drop at (over p new xs) ≡ drop at (take p xs) ++ rest = drop-append-le at (take p xs) rest (omega (arith, whole)) in
    let cut : drop at (take (at + (p - at)) xs) ≡ take (p - at) (drop at xs) = drop-take at (p - at) xs in
    let same : at + (p - at) ≡ p = omega arith in
    let piece : drop at (take p xs) ≡ take (p - at) (drop at xs) = subst (λ (q : ℕ). drop at (take q xs) ≡ take (p - at) (drop at xs)) same cut in
    ap (take k) split ∙ take-append-le k (drop at (take p xs)) rest (omega (arith, length-drop at (take p xs), whole)) ∙ ap (take k) piece ∙ take-take k (p - at) (drop at xs) (omega arith)

over_behind : (p : ℕ) (new xs : List ℕ) (at k : ℕ) → p + length new ≤ length xs → p + length new ≤ at → take k (drop at (over p new xs)) ≡ take k (drop at xs)
over_behind p new xs at k le behind =
    let whole = length-take-le p xs (omega arith) in
    let n = at - (p + length new) in
    let first : drop (length (take p xs) + (length new + n)) (over p new xs) ≡ drop (length new + n) (new ++ drop (p + length new) xs) =
    drop-append-add (take p xs) (new ++ drop (p + length new) xs) (length new + n) in
    let second : drop (length new + n) (new ++ drop (p + length new) xs) ≡ drop n (drop (p + length new) xs) = drop-append-add new (drop (p + length new) xs) n in
    let there : length (take p xs) + (length new + n) ≡ at = omega (arith, whole) in
    let third : drop n (drop (p + length new) xs) ≡ drop at xs = drop-drop n (p + length new) xs ∙ ap (λ (q : ℕ). drop q xs) (omega arith) in
    ap (take k) (subst (λ (q : ℕ). drop q (over p new xs) ≡ drop (length new + n) (new ++ drop (p + length new) xs)) there first ∙ second ∙ third)

over_clear : (p : ℕ) (new xs : List ℕ) (at k : ℕ) → p + length new ≤ length xs → (at + k ≤ p) ⊎ (p + length new ≤ at) → take k (drop at (over p new xs)) ≡ take k (drop at xs)
over_clear p new xs at k le (inl before) = over_before p new xs at k le before
over_clear p new xs at k le (inr behind) = over_behind p new xs at k le behind

-- ---- one fix-up is such a writing

abbrev new_bytes : ℕ → Fixup → List ℕ
new_bytes base (Pointer at to) = long (base + to)
new_bytes base (Descriptor at) = long 0xffffffff
new_bytes base (Descriptors at count) = replicate (4 * count) 255

long_length : (n : ℕ) → length (long n) ≡ 8
long_length n = refl

new_length : (base : ℕ) (f : Fixup) → length (new_bytes base f) ≡ size_of f
new_length base (Pointer at to) = long_length (base + to)
new_length base (Descriptor at) = long_length 0xffffffff
new_length base (Descriptors at count) = length-replicate (4 * count) 255

put_is : (base : ℕ) (f : Fixup) (xs : List ℕ) → put_at base f xs ≡ over (start_of f) (new_bytes base f) xs
put_is base (Pointer at to) xs = append_assoc (take at xs) (long (base + to)) (drop (at + 8) xs)
put_is base (Descriptor at) xs = append_assoc (take at xs) (long 0xffffffff) (drop (at + 8) xs)
put_is base (Descriptors at count) xs =
    append_assoc (take at xs) (replicate (4 * count) 255) (drop (at + 4 * count) xs)
    ∙ ap (λ (n : ℕ). take at xs ++ (replicate (4 * count) 255 ++ drop (at + n) xs)) (sym (length-replicate (4 * count) 255))

abbrev pub EndsWithin : ℕ → Fixup → Type 0
EndsWithin n f = start_of f + size_of f ≤ n

ends_within : (n base : ℕ) (f : Fixup) → EndsWithin n f → start_of f + length (new_bytes base f) ≤ n
ends_within n base f w = rw (new_length base f) w

put_length : (base : ℕ) (f : Fixup) (xs : List ℕ) → EndsWithin (length xs) f → length (put_at base f xs) ≡ length xs
put_length base f xs w = ap length (put_is base f xs) ∙ over_length (start_of f) (new_bytes base f) xs (ends_within (length xs) base f w)

stands_as : (base : ℕ) (f : Fixup) (xs : List ℕ) → take (size_of f) (drop (start_of f) xs) ≡ new_bytes base f → Stands base xs f
stands_as base (Pointer at to) xs e = e
stands_as base (Descriptor at) xs e = e
stands_as base (Descriptors at count) xs e = e

put_stands : (base : ℕ) (f : Fixup) (xs : List ℕ) → EndsWithin (length xs) f → take (size_of f) (drop (start_of f) (put_at base f xs)) ≡ new_bytes base f
put_stands base f xs w =
    subst (λ (n : ℕ). take n (drop (start_of f) (put_at base f xs)) ≡ new_bytes base f) (new_length base f)
    (ap (λ (ys : List ℕ). take (length (new_bytes base f)) (drop (start_of f) ys)) (put_is base f xs) ∙ over_reads (start_of f) (new_bytes base f) xs (ends_within (length xs) base f w))

put_clear : (base : ℕ) (f : Fixup) (xs : List ℕ) (at k : ℕ) → EndsWithin (length xs) f → IsClearOf at k f → take k (drop at (put_at base f xs)) ≡ take k (drop at xs)
put_clear base f xs at k w clear =
    ap (λ (ys : List ℕ). take k (drop at ys)) (put_is base f xs)
    ∙ over_clear (start_of f) (new_bytes base f) xs at k (ends_within (length xs) base f w) (subst (λ (n : ℕ). (at + k ≤ start_of f) ⊎ (start_of f + n ≤ at)) (sym (new_length base f)) clear)

-- ---- all of them

all_clear : (base : ℕ) (fs : List Fixup) (xs : List ℕ) (at k : ℕ) → Each (EndsWithin (length xs)) fs → Each (IsClearOf at k) fs → take k (drop at (landed base fs xs)) ≡ take k (drop at xs)
all_clear base [] xs at k w clear = refl
all_clear base (f ∷ fs) xs at k w clear =
    all_clear base fs (put_at base f xs) at k (subst (λ (n : ℕ). Each (EndsWithin n) fs) (sym (put_length base f xs w.0)) w.1) clear.1 ∙ put_clear base f xs at k w.0 clear.0

all_stand : (base : ℕ) (fs : List Fixup) (xs : List ℕ) → Each (EndsWithin (length xs)) fs → AllApart fs → Each (Stands base (landed base fs xs)) fs
all_stand base [] xs w apart = tt
all_stand base (f ∷ fs) xs w apart =
    let left : Each (EndsWithin (length (put_at base f xs))) fs = subst (λ (n : ℕ). Each (EndsWithin n) fs) (sym (put_length base f xs w.0)) w.1 in (
      stands_as base f (landed base fs (put_at base f xs)) (all_clear base fs (put_at base f xs) (start_of f) (size_of f) left apart.0 ∙ put_stands base f xs w.0),
      all_stand base fs (put_at base f xs) left apart.1,
    )

pub has_landed : (base : ℕ) (fs : List Fixup) (sent : List ℕ) → Each (EndsWithin (length sent)) fs → AllApart fs → HasLanded base fs sent (landed base fs sent)
has_landed base fs sent w apart = record { stand = all_stand base fs sent w apart; others = λ at k clear. all_clear base fs sent at k w clear }
