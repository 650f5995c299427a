-- What is found by its key, in a list of which no two elements have one key.
use Rattle.bd_records.proofs.Words.{AreDistinct, Bool, List, None, Option, Some, [], ap, changed, cond, false, filter, find, kept, option_map, refl, subst, true, ◌&&◌, ◌∙◌, ◌∷◌, ◌≡◌}
use Rattle.bd_records.proofs.Distinct.{cons_none, filter_none, none_cons}

module _ {A K : Type 0} (key : A → K) (eq : K → K → Bool) (alike : (a b : K) → eq a b ≡ true → a ≡ b)
    (itself : (a : K) → eq a a ≡ true) where
  abbrev on : K → A → Bool
  on k x = eq (key x) k

  -- an element is found by its own key
  pub found_own : (p : A → Bool) (xs : List A) (x : A) → AreDistinct key eq xs → find p xs ≡ Some x
      → find (on (key x)) xs ≡ Some x
  found_own p [] x d h = absurd (cc)
  found_own p (y ∷ ys) x d h = by (p y) refl h (found_own p ys x d.1)
    where
      other : find (on (key x)) ys ≡ Some x → (b : Bool) → on (key x) y ≡ b
          → cond b (Some y) (find (on (key x)) ys) ≡ Some x
      other f false e = f
      other f true e = let none : find (on (key x)) ys ≡ None =
          subst (λ k. find (on k) ys ≡ None) (alike (key y) (key x) e) d.0 in absurd (cc)

      by : (b : Bool) → p y ≡ b → cond b (Some y) (find p ys) ≡ Some x
          → (find p ys ≡ Some x → find (on (key x)) ys ≡ Some x)
          → cond (on (key x) y) (Some y) (find (on (key x)) ys) ≡ Some x
      by true e h further =
          let is : y ≡ x = cc in
          let hit : on (key x) y ≡ true = subst (λ z. eq (key y) (key z) ≡ true) is (itself (key y)) in
          ap (λ b. cond b (Some y) (find (on (key x)) ys)) hit ∙ ap Some is
      by false e h further = other (further h) (on (key x) y) refl

  past : (y : A) (ys : List A) (k : K) → find (on (key y)) ys ≡ None → on k y ≡ true → find (on k) ys ≡ None
  past y ys k h e = subst (λ l. find (on l) ys ≡ None) (alike (key y) k e) h

  -- In a filtered list that element of a key is found which passes, if it does.
  pub found_filter : (q : A → Bool) (k : K) (xs : List A) → AreDistinct key eq xs
      → find (on k) (filter q xs) ≡ kept q (find (on k) xs)
  found_filter q k [] d = refl
  found_filter q k (y ∷ ys) d = by (on k y) refl (found_filter q k ys d.1)
    where
      rest : List A
      rest = filter q ys

      hit : (c : Bool) → find (on k) rest ≡ None → on k y ≡ true
          → find (on k) (cond c (y ∷ rest) rest) ≡ cond c (Some y) None
      hit true none e = ap (λ b. cond b (Some y) (find (on k) rest)) e
      hit false none e = none

      miss : (c : Bool) → on k y ≡ false → find (on k) (cond c (y ∷ rest) rest) ≡ find (on k) rest
      miss true e = ap (λ b. cond b (Some y) (find (on k) rest)) e
      miss false e = refl

      by : (b : Bool) → on k y ≡ b → find (on k) rest ≡ kept q (find (on k) ys)
          → find (on k) (cond (q y) (y ∷ rest) rest) ≡ kept q (cond b (Some y) (find (on k) ys))
      by true e h = hit (q y) (filter_none key eq q k ys (past y ys k d.0 e)) e
      by false e h = miss (q y) e ∙ h

  and_none : (q : A → Bool) (k : K) (xs : List A) → find (on k) xs ≡ None → find (λ x. on k x && q x) xs ≡ None
  and_none q k [] h = refl
  and_none q k (x ∷ xs) h =
      let c = cons_none (on k x) x (find (on k) xs) h in none_cons (on k x && q x) x _ (ap (λ b. b && q x) c.0)
      (and_none q k xs c.1)

  -- A search for a key with one more test finds the key's element if it passes.
  pub found_and : (q : A → Bool) (k : K) (xs : List A) → AreDistinct key eq xs
      → find (λ x. on k x && q x) xs ≡ kept q (find (on k) xs)
  found_and q k [] d = refl
  found_and q k (y ∷ ys) d = by (on k y) refl (found_and q k ys d.1)
    where
      both : Option A
      both = find (λ x. on k x && q x) ys

      by : (b : Bool) → on k y ≡ b → both ≡ kept q (find (on k) ys)
          → cond (b && q y) (Some y) both ≡ kept q (cond b (Some y) (find (on k) ys))
      by true e h = ap (λ o. cond (q y) (Some y) o) (and_none q k ys (past y ys k d.0 e))
      by false e h = h

  -- of a changed list, where the keys stay
  module _ (p : A → Bool) (f : A → A) (stays : (x : A) → key (f x) ≡ key x) where
    abbrev by_test : A → A
    by_test x = cond (p x) (f x) x

    key_stays : (b : Bool) (x : A) → key (cond b (f x) x) ≡ key x
    key_stays true x = stays x
    key_stays false x = refl

    pub found_changed : (k : K) (xs : List A) → find (on k) (changed p f xs) ≡ option_map by_test (find (on k) xs)
    found_changed k [] = refl
    found_changed k (y ∷ ys) =
        ap (λ l. cond (eq l k) (Some (by_test y)) (find (on k) (changed p f ys))) (key_stays (p y) y)
        ∙ by (on k y) (found_changed k ys)
      where
        by : (b : Bool) → find (on k) (changed p f ys) ≡ option_map by_test (find (on k) ys)
            → cond b (Some (by_test y)) (find (on k) (changed p f ys)) ≡ option_map by_test
            (cond b (Some y) (find (on k) ys))
        by true h = refl
        by false h = h
