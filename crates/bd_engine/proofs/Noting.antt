-- Noting the readiness of seats, one after the other.
use Rattle.bd_engine.proofs.Words.{Bool, List, Space, [], ap, arith, beq, cond, count_by, eq-eqb, eqb-true, false, flipped, get_or, get_or-set_other, get_or-set_same, has_seat, is_ready, length, list_any-append, not, or-false, or-true, refl, set, subst, sum_by-append, sum_by-cons, sym, take, take_all, true, ℕ, ◌++◌, ◌+◌, ◌<◌, ◌==◌, ◌||◌, ◌∙◌, ◌∷◌, ◌≡◌, ◌≤◌}

-- a seat, where these seats were looked at
pub record IsSeen (s : Space) (before noted : List Bool) (changed done : List ℕ) (y : ℕ) : Type 0 where
  pub is : get_or noted y false ≡ cond (has_seat done y) (is_ready s y) (get_or before y false)
  pub listed : has_seat changed y ≡ flipped (get_or before y false) (get_or noted y false)
  pub once : count_by (λ v. v == y) changed ≤ 1

-- a list in which it isn't counts it not at all
uncounted : (xs : List ℕ) (y : ℕ) → has_seat xs y ≡ false → count_by (λ v. v == y) xs ≡ 0
uncounted [] y h = omega arith
uncounted (x ∷ xs) y h = go (x == y) refl h (λ k. uncounted xs y k)
  where
    go : (b : Bool) → (x == y) ≡ b → (b || has_seat xs y) ≡ false
        → (has_seat xs y ≡ false → count_by (λ v. v == y) xs ≡ 0) → count_by (λ v. v == y) (x ∷ xs) ≡ 0
    go true e h rest = absurd (cc)
    go false e h rest =
        let all = sum_by-cons (λ v. cond (v == y) 1 0) x xs in
        let here : ◌≡◌ {A = ℕ} (cond (x == y) 1 0) 0 = ap (λ b. cond b 1 0) e in
        let others = rest h in
        omega (arith, all, here, others)

count_more : (xs : List ℕ) (x y : ℕ) → count_by (λ v. v == y) (xs ++ x ∷ []) ≡ count_by (λ v. v == y) xs + cond (x == y) 1 0
count_more xs x y =
    sum_by-append (λ v. cond (v == y) 1 0) xs (x ∷ [])
    ∙ ap (λ n. count_by (λ v. v == y) xs + n) (sum_by-cons (λ v. cond (v == y) 1 0) x [])
    ∙ omega arith

among_same : (xs : List ℕ) (x y : ℕ) → x ≡ y → has_seat (xs ++ x ∷ []) y ≡ true
among_same xs x y e = list_any-append (λ v. v == y) xs (x ∷ []) ∙ ap (λ b. has_seat xs y || (b || false)) (eq-eqb x y e) ∙ or-true (has_seat xs y)

among_other : (xs : List ℕ) (x y : ℕ) → (x == y) ≡ false → has_seat (xs ++ x ∷ []) y ≡ has_seat xs y
among_other xs x y e = list_any-append (λ v. v == y) xs (x ∷ []) ∙ ap (λ b. has_seat xs y || (b || false)) e ∙ or-false (has_seat xs y)

flip_true : (b r : Bool) → (b ≡ r → ⊥) → flipped b r ≡ true
flip_true b r k = search arith

flip_none : (b : Bool) → flipped b b ≡ false
flip_none b = search arith

module _ (s : Space) (before noted : List Bool) (changed done : List ℕ) (x y : ℕ) (seen : IsSeen s before noted changed done y) where
  as_seen : {a b : Bool} → a ≡ b → cond a (is_ready s y) (get_or before y false) ≡ cond b (is_ready s y) (get_or before y false)
  as_seen e = ap (λ c. cond c (is_ready s y) (get_or before y false)) e

  -- the seat at hand is noted as it is, or isn't noted at all
  pub seen_same : (x ≡ y → get_or noted y false ≡ is_ready s y) → IsSeen s before noted changed (done ++ x ∷ []) y
  seen_same k = go (x == y) refl
    where
      go : (b : Bool) → (x == y) ≡ b → IsSeen s before noted changed (done ++ x ∷ []) y
      go true e = record { is = k (eqb-true x y e) ∙ sym (as_seen (among_same done x y (eqb-true x y e))); listed = seen.listed; once = seen.once }
      go false e = record { is = seen.is ∙ as_seen (sym (among_other done x y e)); listed = seen.listed; once = seen.once }

  -- A seat that was noted otherwise than it is gets noted and listed.
  pub seen_other : (ready : Bool) → x < length noted → (get_or noted x false ≡ ready → ⊥) → (x ≡ y → ready ≡ is_ready s x)
      → IsSeen s before (set noted x ready) (changed ++ x ∷ []) (done ++ x ∷ []) y
  seen_other ready lt differs is_so = go (x == y) refl
    where
      at : x ≡ y → get_or (set noted x ready) y false ≡ ready
      at e = subst (λ v. get_or (set noted x ready) v false ≡ ready) e (get_or-set_same noted x ready false lt)

      unlisted : x ≡ y → get_or before y false ≡ get_or noted y false
      unlisted e = by_done (has_seat done y) seen.is
        where
          by_done : (b : Bool) → get_or noted y false ≡ cond b (is_ready s y) (get_or before y false) → get_or before y false ≡ get_or noted y false
          by_done true a = absurd (differs (ap (λ v. get_or noted v false) e ∙ a ∙ ap (is_ready s) (sym e) ∙ sym (is_so e)))
          by_done false a = sym a

      go : (b : Bool) → (x == y) ≡ b → IsSeen s before (set noted x ready) (changed ++ x ∷ []) (done ++ x ∷ []) y
      go true e =
          let same = eqb-true x y e in
          record {
            is = at same ∙ is_so same ∙ ap (is_ready s) same ∙ sym (as_seen (among_same done x y same));
            listed = among_same changed x y same
                ∙ sym (ap (flipped (get_or before y false)) (at same) ∙ ap (λ b. flipped b ready) (unlisted same)
                ∙ flip_true (get_or noted y false) ready (λ f. differs (ap (λ v. get_or noted v false) same ∙ f)));
            once =
                let none = seen.listed ∙ ap (λ b. flipped b (get_or noted y false)) (unlisted same) ∙ flip_none (get_or noted y false) in
                let before = uncounted changed y none in
                let here : ◌≡◌ {A = ℕ} (cond (x == y) 1 0) 1 = ap (λ b. cond b 1 0) e in
                let more = count_more changed x y in
                omega (arith, more, before, here);
          }
      go false e =
          let apart : y ≡ x → ⊥ = λ f. absurd (let same = eq-eqb x y (sym f) in cc) in
          let kept = get_or-set_other noted x y ready false apart in
          record {
            is = kept ∙ seen.is ∙ as_seen (sym (among_other done x y e));
            listed = among_other changed x y e ∙ seen.listed ∙ ap (flipped (get_or before y false)) (sym kept);
            once =
                let here : ◌≡◌ {A = ℕ} (cond (x == y) 1 0) 0 = ap (λ b. cond b 1 0) e in
                let more = count_more changed x y in
                let was = seen.once in
                omega (arith, more, was, here);
          }

pub seen_as : (s : Space) (before noted noted2 : List Bool) (changed changed2 done done2 : List ℕ) (y : ℕ) → noted2 ≡ noted → changed2 ≡ changed → done2 ≡ done
    → IsSeen s before noted changed done y → IsSeen s before noted2 changed2 done2 y
seen_as s before noted noted2 changed changed2 done done2 y e f g k =
    subst (λ v. IsSeen s before v changed2 done2 y) (sym e) (subst (λ v. IsSeen s before noted v done2 y) (sym f) (subst (λ v. IsSeen s before noted changed v y) (sym g) k))

pub differ : (a b : Bool) → not (beq a b) ≡ true → a ≡ b → ⊥
differ a b e f = search arith

pub agree : (a b : Bool) → not (beq a b) ≡ false → a ≡ b
agree a b e = search arith

-- Before any seat was looked at nothing is listed.
pub seen_none : (s : Space) (before : List Bool) (y : ℕ) → IsSeen s before before [] [] y
seen_none s before y = record { is = refl; listed = sym (flip_none (get_or before y false)); once = omega arith }

-- Once as many seats were looked at as there are, all of them were.
pub seen_whole : (s : Space) (before noted : List Bool) (changed touched : List ℕ) (i y : ℕ) → length touched ≤ i → IsSeen s before noted changed (take i touched) y
    → IsSeen s before noted changed touched y
seen_whole s before noted changed touched i y le seen = subst (λ v. IsSeen s before noted changed v y) (take_all i touched le) seen

pub seen_all : (s : Space) (before noted : List Bool) (changed touched : List ℕ) (y : ℕ) → IsSeen s before noted changed touched y
    → (has_seat touched y ≡ false → get_or before y false ≡ is_ready s y) → get_or noted y false ≡ is_ready s y
seen_all s before noted changed touched y seen k = by_touched (has_seat touched y) refl seen.is
  where
    by_touched : (b : Bool) → has_seat touched y ≡ b → get_or noted y false ≡ cond b (is_ready s y) (get_or before y false) → get_or noted y false ≡ is_ready s y
    by_touched true e is = is
    by_touched false e is = is ∙ k e
