-- References on two lists each, as they come and go.
use Rattle.bd_records.proofs.Words.{AreListed, Bool, Held, List, Lying, Option, Paired, Reference, Row, Some, [], ap, arith, cond, distinct, drop_key, drop_none, eq-eqb, eqb-true, false, has, keys, length, lying_at, map, option_map, references, refl, set_row, subst, sym, true, values, with_value, ℕ}
use Rattle.bd_records.proofs.Words.{◌++◌, ◌==◌, ◌∙◌, ◌∷◌, ◌≡◌}
use Rattle.bd_chains.specs.Rows.{row_at}

abbrev pub reference_of : Lying → Reference
reference_of v = v.reference

pub references_are : (rs : List (Row Lying)) → references rs ≡ map reference_of (values rs)
references_are [] = refl
references_are (r ∷ rs) = ap (λ ws. r.held.value.reference ∷ ws) (references_are rs)

pub references_more : (rs : List (Row Lying)) (r : Row Lying) → references (rs ++ r ∷ []) ≡ references rs ++ r.held.value.reference ∷ []
references_more [] r = refl
references_more (q ∷ rs) r = ap (λ ws. q.held.value.reference ∷ ws) (references_more rs r)

pub references_length : (rs : List (Row Lying)) → length (references rs) ≡ length rs
references_length [] = refl
references_length (q ∷ rs) = let e = references_length rs in omega (arith, e)

-- ---- pairs

pub paired_references : (xs bs : List (Row Lying)) → Paired xs bs → references bs ≡ references xs
paired_references [] [] h = refl
paired_references [] (b ∷ bs) h = absurd h
paired_references (a ∷ xs) [] h = absurd h
paired_references (a ∷ xs) (b ∷ bs) h = (λ i. h.0.2 i ∷ paired_references xs bs h.1 i)

pub paired_turned : (xs bs : List (Row Lying)) → Paired xs bs → Paired bs xs
paired_turned [] [] h = tt
paired_turned [] (b ∷ bs) h = absurd h
paired_turned (a ∷ xs) [] h = absurd h
paired_turned (a ∷ xs) (b ∷ bs) h = ((h.0.1, h.0.0, sym h.0.2), paired_turned xs bs h.1)

pub paired_more : (xs bs : List (Row Lying)) (a b : Row Lying) → Paired xs bs → a.held.value.at ≡ b.key → b.held.value.at ≡ a.key → b.held.value.reference ≡ a.held.value.reference → Paired (xs ++ a ∷ []) (bs ++ b ∷ [])
paired_more [] [] a b h e f g = ((e, f, g), tt)
paired_more [] (y ∷ bs) a b h e f g = absurd h
paired_more (x ∷ xs) [] a b h e f g = absurd h
paired_more (x ∷ xs) (y ∷ bs) a b h e f g = (h.0, paired_more xs bs a b h.1 e f g)

lying_head : (k : ℕ) (r : Row Lying) (rs : List (Row Lying)) (v : Lying) (b : Bool) → (r.key == k) ≡ b → lying_at k (r ∷ rs) ≡ Some v → option_map (λ (p : ℕ × Held Lying). p.1.value) (cond b (Some (r.list, r.held)) (row_at k rs)) ≡ Some v
lying_head k r rs v b e h = sym (ap (λ c. option_map (λ (p : ℕ × Held Lying). p.1.value) (cond c (Some (r.list, r.held)) (row_at k rs))) e) ∙ h

some_same : (v w : Lying) → Some v ≡ Some w → v ≡ w
some_same v w e = cc

-- the slot that a row tells is one on the other list
other_there : (k : ℕ) (xs bs : List (Row Lying)) → Paired xs bs → (v : Lying) → lying_at k xs ≡ Some v → has v.at (keys bs) ≡ true
other_there k [] bs h v e = absurd cc
other_there k (a ∷ xs) [] h v e = absurd h
other_there k (a ∷ xs) (b ∷ bs) h v e = at (a.key == k) refl (other_there k xs bs h.1 v)
  where
    at : (c : Bool) → (a.key == k) ≡ c → (lying_at k xs ≡ Some v → has v.at (keys bs) ≡ true) → has v.at (keys (b ∷ bs)) ≡ true
    at true f rest =
        let is = some_same a.held.value v (lying_head k a xs v true f e) in
        let on : v.at ≡ b.key = sym (ap (λ (w : Lying). w.at) is) ∙ h.0.0 in
        let same : (b.key == v.at) ≡ true = subst (λ n. (b.key == n) ≡ true) (sym on) (eq-eqb b.key b.key refl) in
        grind (arith, same)
    at false f rest = let more = rest (lying_head k a xs v false f e) in grind (arith, more)

distinct_head : (x : ℕ) (xs : List ℕ) → distinct (x ∷ xs) ≡ true → (has x xs ≡ false) × (distinct xs ≡ true)
distinct_head x xs e = (grind (arith, e), grind (arith, e))

pub paired_drop : (k j : ℕ) (xs bs : List (Row Lying)) → Paired xs bs → distinct (keys xs) ≡ true → distinct (keys bs) ≡ true → (v : Lying) → lying_at k xs ≡ Some v → v.at ≡ j
    → Paired (drop_key k xs) (drop_key j bs)
paired_drop k j [] bs h da db v e at_j = absurd cc
paired_drop k j (a ∷ xs) [] h da db v e at_j = absurd h
paired_drop k j (a ∷ xs) (b ∷ bs) h da db v e at_j = at (a.key == k) refl (b.key == j) refl (λ da db here. paired_drop k j xs bs h.1 da db v here at_j)
  where
    apart_a : (has a.key (keys xs) ≡ false) × (distinct (keys xs) ≡ true)
    apart_a = distinct_head a.key (keys xs) da

    apart_b : (has b.key (keys bs) ≡ false) × (distinct (keys bs) ≡ true)
    apart_b = distinct_head b.key (keys bs) db

    at : (c : Bool) → (a.key == k) ≡ c → (d : Bool) → (b.key == j) ≡ d
        → (distinct (keys xs) ≡ true → distinct (keys bs) ≡ true → lying_at k xs ≡ Some v → Paired (drop_key k xs) (drop_key j bs)) → Paired (cond c (drop_key k xs) (a ∷ drop_key k xs)) (cond d (drop_key j bs) (b ∷ drop_key j bs))
    at true f true g rest =
        let off_a = subst (λ n. has n (keys xs) ≡ false) (eqb-true a.key k f) apart_a.0 in
        let off_b = subst (λ n. has n (keys bs) ≡ false) (eqb-true b.key j g) apart_b.0 in
        subst (λ xs. Paired xs (drop_key j bs)) (sym (drop_none k xs off_a)) (subst (λ ys. Paired xs ys) (sym (drop_none j bs off_b)) h.1)
    at true f false g rest =
        let is = some_same a.held.value v (lying_head k a xs v true f e) in
        let on : b.key ≡ j = sym h.0.0 ∙ ap (λ (w : Lying). w.at) is ∙ at_j in
        absurd (let k : (b.key == j) ≡ true = subst (λ n. (b.key == n) ≡ true) on (eq-eqb b.key b.key refl) in cc)
    at false f true g rest =
        let there = subst (λ n. has n (keys bs) ≡ true) (at_j ∙ sym (eqb-true b.key j g)) (other_there k xs bs h.1 v (lying_head k a xs v false f e)) in
        absurd (let off = apart_b.0 in cc)
    at false f false g rest = (h.0, rest apart_a.1 apart_b.1 (lying_head k a xs v false f e))

-- ---- the last one's value is written anew

last_there : (rs : List (Row Lying)) (r : Row Lying) → has r.key (keys (rs ++ r ∷ [])) ≡ true
last_there [] r = grind (arith, eq-eqb r.key r.key refl)
last_there (q ∷ rs) r = let more = last_there rs r in grind (arith, more)

pub last_set : (x : ℕ) (v : Lying) (rs : List (Row Lying)) (r : Row Lying) → distinct (keys (rs ++ r ∷ [])) ≡ true → r.key ≡ x → with_value x v (rs ++ r ∷ []) ≡ rs ++ set_row v r ∷ []
last_set x v [] r d e = ap (λ b. cond b (set_row v r) r ∷ []) (subst (λ n. (r.key == n) ≡ true) e (eq-eqb r.key r.key refl))
last_set x v (q ∷ rs) r d e = at (q.key == x) refl (λ d. last_set x v rs r d e)
  where
    apart : (has q.key (keys (rs ++ r ∷ [])) ≡ false) × (distinct (keys (rs ++ r ∷ [])) ≡ true)
    apart = distinct_head q.key (keys (rs ++ r ∷ [])) d

    at : (b : Bool) → (q.key == x) ≡ b → (distinct (keys (rs ++ r ∷ [])) ≡ true → with_value x v (rs ++ r ∷ []) ≡ rs ++ set_row v r ∷ []) → cond b (set_row v q) q ∷ with_value x v (rs ++ r ∷ []) ≡ q ∷ (rs ++ set_row v r ∷ [])
    at true f rest = absurd (let there = subst (λ n. has n (keys (rs ++ r ∷ [])) ≡ true) (e ∙ sym (eqb-true q.key x f)) (last_there rs r) in let off = apart.0 in cc)
    at false f rest = ap (λ ws. q ∷ ws) (rest apart.1)

pub last_listed : (key : Lying → ℕ) (N : ℕ → Option ℕ) (v : Lying) (rs : List (Row Lying)) (r : Row Lying) → key v ≡ key r.held.value → r.held.counted ≡ false
    → AreListed key (λ _. false) N (rs ++ r ∷ []) → AreListed key (λ _. false) N (rs ++ set_row v r ∷ [])
last_listed key N v [] r same none h = ((ap N same ∙ h.0.0, none), tt)
last_listed key N v (q ∷ rs) r same none h = (h.0, last_listed key N v rs r same none h.1)
