-- One list among the others: what stands on all of them once it has changed.
use Rattle.std.proofs.Common.{◌≡◌, ℕ, zero, suc, ◌%◌, ◌+◌, ◌<◌, [], ◌∷◌, ◌++◌, Bool, true, false, List, length, get_or, set, Option, refl, sym, ap, ◌∙◌, arith}
use Rattle.std.specs.Prelude.{◌==◌, Result, Ok, Err, OnOk, OnErr, is_some}
use Rattle.std.proofs.lemmas.Bool.{eqb-true, eq-eqb}
use Rattle.std.proofs.lemmas.Grind.{common_steps}
use Rattle.bd_tickets.specs.declared.tickets.Tickets.{Tickets}
use Rattle.std.proofs.lemmas.List.Sums.{sum_by-cons}
use Rattle.bd_tickets.specs.Held.{held, held_in, descriptors_of}
use Rattle.bd_tickets.specs.Shelves.{held_on, parcels_at, on_way, ArePlaced}

-- the list at this place
pub stands : (lists : List Tickets) (i : ℕ) (t : Tickets) → i < length lists → parcels_at lists i ≡ (get_or lists i t).parcels.items
stands lists i t lt = grind (arith, common_steps, lt)

pub put_here : (lists : List Tickets) (i : ℕ) (t : Tickets) → i < length lists → parcels_at (set lists i t) i ≡ t.parcels.items
put_here [] i t lt = absurd (omega (arith, lt))
put_here (x ∷ xs) zero t lt = refl
put_here (x ∷ xs) (suc i) t lt = put_here xs i t (omega (arith, lt))

pub put_there : (lists : List Tickets) (i j : ℕ) (t : Tickets) → (j ≡ i → ⊥) → i < length lists → parcels_at (set lists i t) j ≡ parcels_at lists j
put_there [] i j t isnt lt = absurd (omega (arith, lt))
put_there (x ∷ xs) zero zero t isnt lt = absurd (isnt refl)
put_there (x ∷ xs) zero (suc j) t isnt lt = refl
put_there (x ∷ xs) (suc i) zero t isnt lt = refl
put_there (x ∷ xs) (suc i) (suc j) t isnt lt = put_there xs i j t (λ e. isnt (ap suc e)) (omega (arith, lt))

-- an empty one more
pub more_empty : (lists : List Tickets) (t : Tickets) (i : ℕ) → t.parcels.items ≡ [] → parcels_at lists i ≡ [] → parcels_at (lists ++ t ∷ []) i ≡ []
more_empty [] t zero e none = e
more_empty [] t (suc i) e none = refl
more_empty (x ∷ xs) t zero e none = none
more_empty (x ∷ xs) t (suc i) e none = more_empty xs t i e none

-- of an answer, whatever it is
pub on_ok : {A B P Q : Type 0} (r : Result A B) → (P → Q) → OnOk r P → OnOk r Q
on_ok (Ok x) then p = then p
on_ok (Err e) then p = p

pub on_err : {A B P Q : Type 0} (r : Result A B) → (P → Q) → OnErr r P → OnErr r Q
on_err (Ok x) then p = p
on_err (Err e) then p = then p

pub either : {A B P : Type 0} (r : Result A B) → OnOk r P → OnErr r P → P
either (Ok x) ok err = ok
either (Err e) ok err = err

-- what a step's own list makes of it
pub own : (lists : List Tickets) (step i : ℕ) (t u : Tickets) (o : Option (List ℕ)) → i ≡ step % 1024 → i < length lists → descriptors_of step u.parcels.items ≡ o → on_way (set lists i u) step ≡ o
own lists step i t u o is lt e = ap (λ j. descriptors_of step (parcels_at (set lists i u) j)) (sym is) ∙ ap (descriptors_of step) (put_here lists i u lt) ∙ e

pub own_before : (lists : List Tickets) (step i : ℕ) (t : Tickets) → i ≡ step % 1024 → i < length lists → get_or lists i t ≡ t → on_way lists step ≡ descriptors_of step t.parcels.items
own_before lists step i t is lt at =
    ap (λ j. descriptors_of step (parcels_at lists j)) (sym is) ∙ ap (descriptors_of step) (stands lists i t lt) ∙ ap (λ (v : Tickets). descriptors_of step v.parcels.items) at

-- of any other step
pub others : (lists : List Tickets) (step i s : ℕ) (t u : Tickets) → i ≡ step % 1024 → i < length lists → get_or lists i t ≡ t
    → descriptors_of s u.parcels.items ≡ descriptors_of s t.parcels.items → on_way (set lists i u) s ≡ on_way lists s
others lists step i s t u is lt old same = by (s % 1024 == i) refl
  where
    by : (b : Bool) → (s % 1024 == i) ≡ b → on_way (set lists i u) s ≡ on_way lists s
    by true e =
        let here : s % 1024 ≡ i = eqb-true (s % 1024) i e in
        ap (λ j. descriptors_of s (parcels_at (set lists i u) j)) here ∙ ap (descriptors_of s) (put_here lists i u lt) ∙ same
        ∙ ap (λ (v : Tickets). descriptors_of s v.parcels.items) (sym old) ∙ ap (descriptors_of s) (sym (stands lists i t lt))
        ∙ ap (λ j. descriptors_of s (parcels_at lists j)) (sym here)
    by false e = ap (descriptors_of s) (put_there lists i (s % 1024) u (λ h. let here = eq-eqb (s % 1024) i h in let apart : true ≡ false = sym here ∙ e in absurd cc) lt)

-- no parcel comes to another list than its step's
pub placed : (lists : List Tickets) (step i : ℕ) (t u : Tickets) → ArePlaced lists → i ≡ step % 1024 → i < length lists → get_or lists i t ≡ t
    → ((s : ℕ) → (s ≡ step → ⊥) → descriptors_of s u.parcels.items ≡ descriptors_of s t.parcels.items) → ArePlaced (set lists i u)
placed lists step i t u all is lt at same j s there = by (j == i) refl (s == step) refl
  where
    by : (b : Bool) → (j == i) ≡ b → (c : Bool) → (s == step) ≡ c → s % 1024 ≡ j
    by true e true f = ap (λ n. n % 1024) (eqb-true s step f) ∙ sym is ∙ sym (eqb-true j i e)
    by true e false f =
        let here : j ≡ i = eqb-true j i e in
        let isnt : s ≡ step → ⊥ = λ h. let yes = eq-eqb s step h in let apart : true ≡ false = sym yes ∙ f in absurd cc in
        let new : descriptors_of s (parcels_at (set lists i u) j) ≡ descriptors_of s u.parcels.items =
        ap (λ k. descriptors_of s (parcels_at (set lists i u) k)) here ∙ ap (descriptors_of s) (put_here lists i u lt) in
        let old : descriptors_of s (parcels_at lists j) ≡ descriptors_of s t.parcels.items =
        ap (λ k. descriptors_of s (parcels_at lists k)) here ∙ ap (descriptors_of s) (stands lists i t lt) ∙ ap (λ (v : Tickets). descriptors_of s v.parcels.items) at in
        all j s (ap is_some (old ∙ sym (same s isnt) ∙ sym new) ∙ there)
    by false e c f =
        let isnt : j ≡ i → ⊥ = λ h. let yes = eq-eqb j i h in let apart : true ≡ false = sym yes ∙ e in absurd cc in
        all j s (ap (λ ps. is_some (descriptors_of s ps)) (sym (put_there lists i j u isnt lt)) ∙ there)

-- where all lists are empty nothing is on its way
pub all_empty : (lists : List Tickets) (d : ℕ) → ((i : ℕ) → i < length lists → parcels_at lists i ≡ []) → held_on lists d ≡ 0
all_empty [] d none = refl
all_empty (x ∷ xs) d none =
    let rest = all_empty xs d (λ i lt. none (suc i) (omega (arith, lt))) in
    let first : x.parcels.items ≡ [] = none zero (omega arith) in
    let own : held x d ≡ 0 = ap (λ ps. held_in ps d) first in
    omega (arith, rest, own, sum_by-cons (λ (t : Tickets). held t d) x xs)

-- a step that is found on a list is found
pub is_found : (lists : List Tickets) (i s : ℕ) (t : Tickets) → ArePlaced lists → i < length lists → get_or lists i t ≡ t → is_some (descriptors_of s t.parcels.items) ≡ true
    → is_some (on_way lists s) ≡ true
is_found lists i s t all lt at there =
    let here : descriptors_of s (parcels_at lists i) ≡ descriptors_of s t.parcels.items = ap (descriptors_of s) (stands lists i t lt) ∙ ap (λ (v : Tickets). descriptors_of s v.parcels.items) at in
    let found = ap is_some here ∙ there in
    ap (λ k. is_some (descriptors_of s (parcels_at lists k))) (all i s found) ∙ found

pub up_to : (lists : List Tickets) (n : ℕ) → ((i : ℕ) → i < n → parcels_at lists i ≡ []) → parcels_at lists n ≡ [] → (i : ℕ) → i < n + 1 → parcels_at lists i ≡ []
up_to lists n before here i lt = by (i == n) refl
  where
    by : (b : Bool) → (i == n) ≡ b → parcels_at lists i ≡ []
    by true e = ap (parcels_at lists) (eqb-true i n e) ∙ here
    by false e = before i (let isnt : i ≡ n → ⊥ = λ h. let yes = eq-eqb i n h in let apart : true ≡ false = sym yes ∙ e in absurd cc in omega (arith, lt, isnt))
