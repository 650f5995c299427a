-- One parcel more or less.
use Rattle.std.proofs.Common.{◌≡◌, ℕ, ◌+◌, ◌<◌, ◌≤◌, Bool, true, false, List, [], ◌∷◌, ◌++◌, length, drop, get_or, Option, Some, None, zero, suc, refl, sym, ap, ◌∙◌, arith}
use Rattle.std.specs.Prelude.{◌==◌, remove, find, option_map, option_to_list, is_some}
use Rattle.std.proofs.lemmas.Bool.{eqb-true, eq-eqb}
use Rattle.std.proofs.lemmas.List.{drop_more, drop_all}
use Rattle.std.proofs.lemmas.List.Sums.{sum_by-append, sum_by-remove}
use Rattle.bd_tickets.specs.declared.tickets.Parcel.{Parcel}
use Rattle.bd_tickets.specs.Held.{count_of, held_in, descriptors_of}

pub held_more : (xs : List Parcel) (p : Parcel) (d : ℕ) → held_in (xs ++ p ∷ []) d ≡ held_in xs d + count_of d p.descriptors.items
held_more xs p d = let all = sum_by-append (λ (q : Parcel). count_of d q.descriptors.items) xs (p ∷ []) in omega (arith, all)

pub held_less : (xs : List Parcel) (i : ℕ) (p : Parcel) (d : ℕ) → i < length xs → held_in xs d ≡ held_in (remove xs i) d + count_of d (get_or xs i p).descriptors.items
held_less xs i p d lt = sym (sum_by-remove (λ (q : Parcel). count_of d q.descriptors.items) xs i p lt)

-- the search from a place on
pub is_here : (xs : List Parcel) (i step : ℕ) (p : Parcel) (total : Option (List ℕ)) → i < length xs → (get_or xs i p).step ≡ step → descriptors_of step (drop i xs) ≡ total
    → Some (get_or xs i p).descriptors.items ≡ total
is_here xs i step p total lt is so_far =
    let front : descriptors_of step (drop i xs) ≡ descriptors_of step (get_or xs i p ∷ drop (i + 1) xs) = ap (descriptors_of step) (drop_more xs i p lt) in
    sym (front ∙ rw (eq-eqb (get_or xs i p).step step is) refl) ∙ so_far

pub is_later : (xs : List Parcel) (i step : ℕ) (p : Parcel) (total : Option (List ℕ)) → i < length xs → ((get_or xs i p).step ≡ step → ⊥) → descriptors_of step (drop i xs) ≡ total
    → descriptors_of step (drop (i + 1) xs) ≡ total
is_later xs i step p total lt isnt so_far =
    let front : descriptors_of step (drop i xs) ≡ descriptors_of step (get_or xs i p ∷ drop (i + 1) xs) = ap (descriptors_of step) (drop_more xs i p lt) in
    sym (front ∙ rw (differs (get_or xs i p).step step isnt) refl) ∙ so_far
  where
    differs : (a b : ℕ) → (a ≡ b → ⊥) → (a == b) ≡ false
    differs a b isnt' = by (a == b) refl
      where
        by : (c : Bool) → (a == b) ≡ c → (a == b) ≡ false
        by true e = absurd (isnt' (eqb-true a b e))
        by false e = e

pub is_nowhere : (xs : List Parcel) (i step : ℕ) (total : Option (List ℕ)) → length xs ≤ i → descriptors_of step (drop i xs) ≡ total → None ≡ total
is_nowhere xs i step total le so_far = sym (ap (descriptors_of step) (drop_all i xs le)) ∙ so_far

-- ---- which parcel is found once one more is there, or one less

module _ (q : Parcel → Bool) where
  find_left : (xs : List Parcel) (i : ℕ) (p : Parcel) → i < length xs → q (get_or xs i p) ≡ false → find q (remove xs i) ≡ find q xs
  find_left [] i p lt f = absurd (omega (arith, lt))
  find_left (x ∷ xs) zero p lt f = grind (arith, f)
  find_left (x ∷ xs) (suc i) p lt f = let rest = find_left xs i p (omega (arith, lt)) f in grind (arith, rest)

  find_last : (xs : List Parcel) (p : Parcel) → q p ≡ true → find q xs ≡ None → find q (xs ++ p ∷ []) ≡ Some p
  find_last [] p t n = grind (arith, t)
  find_last (x ∷ xs) p t n = grind (arith, find_last xs p t, n)

  find_others : (xs : List Parcel) (p : Parcel) → q p ≡ false → find q (xs ++ p ∷ []) ≡ find q xs
  find_others [] p f = grind (arith, f)
  find_others (x ∷ xs) p f = grind (arith, find_others xs p f)

none_is : (o : Option Parcel) → option_map (λ p. p.descriptors.items) o ≡ None → o ≡ None
none_is None e = refl
none_is (Some p) e = absurd cc

pub found_more : (xs ys : List Parcel) (p : Parcel) → ys ≡ xs ++ p ∷ [] → descriptors_of p.step xs ≡ None → descriptors_of p.step ys ≡ Some p.descriptors.items
found_more xs ys p e none =
    ap (descriptors_of p.step) e
    ∙ ap (option_map (λ r. r.descriptors.items)) (find_last (λ r. r.step == p.step) xs p (eq-eqb p.step p.step refl) (none_is (find (λ r. r.step == p.step) xs) none))

pub others_left : (xs ys : List Parcel) (i step s : ℕ) (p : Parcel) → ys ≡ remove xs i → i < length xs → (get_or xs i p).step ≡ step → (s ≡ step → ⊥) → descriptors_of s ys ≡ descriptors_of s xs
others_left xs ys i step s p e lt is isnt =
    ap (descriptors_of s) e ∙ ap (option_map (λ r. r.descriptors.items)) (find_left (λ r. r.step == s) xs i p lt (differs ((get_or xs i p).step == s) refl))
  where
    differs : (b : Bool) → ((get_or xs i p).step == s) ≡ b → ((get_or xs i p).step == s) ≡ false
    differs true f = absurd (isnt (sym (sym is ∙ eqb-true (get_or xs i p).step s f)))
    differs false f = f

pub others_more : (xs ys : List Parcel) (p : Parcel) (s : ℕ) → ys ≡ xs ++ p ∷ [] → (s ≡ p.step → ⊥) → descriptors_of s ys ≡ descriptors_of s xs
others_more xs ys p s e isnt =
    ap (descriptors_of s) e ∙ ap (option_map (λ r. r.descriptors.items)) (find_others (λ r. r.step == s) xs p (differs (p.step == s) refl))
  where
    differs : (b : Bool) → (p.step == s) ≡ b → (p.step == s) ≡ false
    differs true f = absurd (isnt (sym (eqb-true p.step s f)))
    differs false f = f

-- what is found once the last parcel was taken was found before
pub found_before : (xs ys : List Parcel) (o : Option Parcel) (s : ℕ) → xs ≡ ys ++ option_to_list o → is_some (descriptors_of s ys) ≡ true → descriptors_of s ys ≡ descriptors_of s xs
found_before xs ys o s e found =
    ap (option_map (λ r. r.descriptors.items)) (sym (find_more ys (option_to_list o) (mapped (find (λ r. r.step == s) ys) found))) ∙ sym (ap (descriptors_of s) e)
  where
    mapped : (p : Option Parcel) → is_some (option_map (λ r. r.descriptors.items) p) ≡ true → is_some p ≡ true
    mapped None f = f
    mapped (Some p) f = refl

    find_more : (xs zs : List Parcel) → is_some (find (λ r. r.step == s) xs) ≡ true → find (λ r. r.step == s) (xs ++ zs) ≡ find (λ r. r.step == s) xs
    find_more [] zs f = absurd cc
    find_more (x ∷ xs) zs f = let rest = find_more xs zs in grind (arith, rest, f)
