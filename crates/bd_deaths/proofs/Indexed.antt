-- What is found by a test that at most one passes, where one comes, goes, or changes.
use Rattle.bd_deaths.proofs.Words.{All, All-head, All-tail, AllPairs, Bool, Distinct, List, None, Some, [], ap, arith, cond, eqb-true, false, false_from_ne_true, filter_none, find, found_has, get_or, has, map, not, option_map, pairs_head, pairs_tail}
use Rattle.bd_deaths.proofs.Words.{refl, rest_differ, sym, true, without, ℕ, ◌++◌, ◌∙◌, ◌∷◌, ◌≡◌}

module _ {A : Type 0} (p : A → Bool) where
  abbrev Both : A → A → Type 0
  Both a b = p a ≡ true → p b ≡ true → ⊥

  -- no two pass
  abbrev pub Once : List A → Type 0
  Once xs = AllPairs Both xs

  find_off : (xs : List A) → All (λ y. p y ≡ false) xs → find p xs ≡ None
  find_off [] off = refl
  find_off (x ∷ xs) off = grind (arith, All-head (λ y. p y ≡ false) x xs off, find_off xs (All-tail (λ y. p y ≡ false) x xs off))

  -- one passes: no later one does
  pub later_off : (x : A) (xs : List A) → Once (x ∷ xs) → p x ≡ true → find p xs ≡ None
  later_off x xs once is = find_off xs (λ k d lt. false_from_ne_true (p (get_or xs k d)) (pairs_head Both x xs once k d lt is))

  -- what another test finds, and passes, is what is found
  pub found_once : (q : A → Bool) (xs : List A) (e : A) → Once xs → find q xs ≡ Some e → p e ≡ true → find p xs ≡ Some e
  found_once q [] e once f is = absurd cc
  found_once q (x ∷ xs) e once f is = at (q x) (p x) refl f (found_once q xs e (pairs_tail Both x xs once))
    where
      at : (b c : Bool) → p x ≡ c → cond b (Some x) (find q xs) ≡ Some e → (find q xs ≡ Some e → p e ≡ true → find p xs ≡ Some e) → cond c (Some x) (find p xs) ≡ Some e
      at true c h f rest = let same : x ≡ e = cc in let on : c ≡ true = sym h ∙ ap p same ∙ is in grind (arith, on, same)
      at false true h f rest = absurd ((found_has q (Both x) xs e f (pairs_head Both x xs once)).0 h is)
      at false false h f rest = rest f is

module _ {A V : Type 0} (p : A → Bool) (shown : A → V) where
  pub shown_more : (xs : List A) (x : A) → (p x ≡ true → find p xs ≡ None)
      → cond (p x) (Some (shown x)) (option_map shown (find p xs)) ≡ option_map shown (find p (xs ++ x ∷ []))
  shown_more [] x new = grind arith
  shown_more (y ∷ xs) x new = grind (arith, shown_more xs x)

  pub shown_less : (key : A → ℕ) (m : ℕ) (xs : List A) (e : A) → Distinct key xs → Once p xs → find (has key m) xs ≡ Some e
      → cond (p e) None (option_map shown (find p xs)) ≡ option_map shown (find p (without key m xs))
  shown_less key m [] e distinct once is = absurd cc
  shown_less key m (x ∷ xs) e distinct once is = at (has key m x) (p x) refl refl is (shown_less key m xs e (pairs_tail (λ a b. key a ≡ key b → ⊥) x xs distinct) (pairs_tail (Both p) x xs once))
    where
      far : p x ≡ true → find (has key m) xs ≡ Some e → p e ≡ false
      far g f = false_from_ne_true (p e) ((found_has (has key m) (Both p x) xs e f (pairs_head (Both p) x xs once)).0 g)

      at : (b c : Bool) → has key m x ≡ b → p x ≡ c → cond b (Some x) (find (has key m) xs) ≡ Some e
          → (find (has key m) xs ≡ Some e → cond (p e) None (option_map shown (find p xs)) ≡ option_map shown (find p (without key m xs)))
          → cond (p e) None (option_map shown (cond c (Some x) (find p xs))) ≡ option_map shown (find p (cond (not b) (x ∷ without key m xs) (without key m xs)))
      at true c h g f rest =
          let same : x ≡ e = cc in
          let others : without key m xs ≡ xs = filter_none key m xs (rest_differ key m x xs distinct (eqb-true (key x) m h)) in
          let on : p e ≡ c = ap p (sym same) ∙ g in
          rw (on, others) (by c g)
        where
          by : (c : Bool) → p x ≡ c → cond c None (option_map shown (cond c (Some x) (find p xs))) ≡ option_map shown (find p xs)
          by true g = ap (option_map shown) (sym (later_off p x xs once g))
          by false g = refl
      at false true h g f rest = rw (far g f, g) refl
      at false false h g f rest = rw g (rest f)

-- ---- where each changes, and is found as before

module _ {A V : Type 0} (p : A → Bool) (g : A → A) (shown : A → V) where
  pub found_turned : ((x : A) → p (g x) ≡ p x) → (xs : List A) → option_map shown (find p (map g xs)) ≡ option_map (λ x. shown (g x)) (find p xs)
  found_turned same [] = refl
  found_turned same (x ∷ xs) = grind (arith, same x, found_turned same xs)
