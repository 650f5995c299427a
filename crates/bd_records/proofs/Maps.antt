-- Maps that have at each key what is shown of the first with that key, when the list changes.
use Rattle.bd_records.proofs.Words.{AreDistinct, Bool, Finds, List, None, Option, Some, [], ap, changed, cond, false, filter, find, find-append, kept, not, option_map, option_or, or_none, refl, subst, sym, true, ◌++◌, ◌∙◌, ◌∷◌, ◌≡◌}
use Rattle.bd_records.proofs.Found.{found_changed, found_filter}

neither : {A : Type 0} (b : Bool) (o : Option A) → o ≡ None → cond b None o ≡ None
neither true o h = refl
neither false o h = h

-- what n has, where m got v at the key k; each is told by its look
abbrev pub Puts : {K V : Type 0} → (K → K → Bool) → (K → Option V) → (K → Option V) → K → Option V → Type 0
Puts {K = K} eq m n k v = (l : K) → n l ≡ cond (eq k l) v (m l)

module _ {A K V : Type 0} (key : A → K) (eq : K → K → Bool) (alike : (a b : K) → eq a b ≡ true → a ≡ b)
    (itself : (a : K) → eq a a ≡ true) (shown : A → V) where
  -- A map that finds a list's elements finds those of the list with a new one, once that was put at its key.
  pub finds_push : (m n : K → Option V) (xs : List A) (x : A) → Finds eq key shown m xs
      → find (λ y. eq (key y) (key x)) xs ≡ None → Puts eq m n (key x) (Some (shown x))
      → Finds eq key shown n (xs ++ x ∷ [])
  finds_push m n xs x f new puts = λ k. puts k ∙ at k (eq (key x) k) refl
      ∙ ap (option_map shown) (sym (find-append (λ y. eq (key y) k) xs (x ∷ [])))
    where
      at : (k : K) (b : Bool) → eq (key x) k ≡ b
          → cond b (Some (shown x)) (m k) ≡ option_map shown
          (option_or (find (λ y. eq (key y) k) xs) (cond b (Some x) None))
      at k true e =
          let none : find (λ y. eq (key y) k) xs ≡ None =
          subst (λ l. find (λ y. eq (key y) l) xs ≡ None) (alike (key x) k e) new in
          ap (λ o. option_map shown (option_or o (Some x))) (sym none)
      at k false e = f k ∙ ap (option_map shown) (sym (or_none (find (λ y. eq (key y) k) xs)))

  -- those go that don't pass, of which there is one, at the key k
  pub finds_remove : (m n : K → Option V) (xs : List A) (q : A → Bool) (k : K) → Finds eq key shown m xs
      → AreDistinct key eq xs → Puts eq m n k None
      → ((l : K) (y : A) → find (λ y. eq (key y) l) xs ≡ Some y → q y ≡ not (eq k l))
      → Finds eq key shown n (filter q xs)
  finds_remove m n xs q k f d puts only = λ l. puts l ∙ at l (find (λ y. eq (key y) l) xs) refl
      ∙ ap (option_map shown) (sym (found_filter key eq alike itself q l xs d))
    where
      stays : (b : Bool) (y : A) → cond b None (Some (shown y)) ≡ option_map shown (cond (not b) (Some y) None)
      stays true y = refl
      stays false y = refl

      at : (l : K) (o : Option A) → find (λ y. eq (key y) l) xs ≡ o
          → cond (eq k l) None (m l) ≡ option_map shown (kept q o)
      at l None e = ap (λ g. cond (eq k l) None g) (f l ∙ ap (option_map shown) e) ∙ neither (eq k l) None refl
      at l (Some y) e =
          ap (λ g. cond (eq k l) None g) (f l ∙ ap (option_map shown) e) ∙ stays (eq k l) y
          ∙ ap (λ b. option_map shown (cond b (Some y) None)) (sym (only l y e))

  -- a change that doesn't show
  pub finds_hidden : (m : K → Option V) (xs : List A) (p : A → Bool) (g : A → A) → ((x : A) → key (g x) ≡ key x)
      → ((x : A) → shown (g x) ≡ shown x)
      → Finds eq key shown m xs → Finds eq key shown m (changed p g xs)
  finds_hidden m xs p g stays same f = λ k. f k ∙ at (find (λ y. eq (key y) k) xs)
      ∙ ap (option_map shown) (sym (found_changed key eq alike itself p g stays k xs))
    where
      hidden : (b : Bool) (x : A) → shown x ≡ shown (cond b (g x) x)
      hidden true x = sym (same x)
      hidden false x = refl

      at : (o : Option A) → option_map shown o ≡ option_map shown (option_map (λ x. cond (p x) (g x) x) o)
      at None = refl
      at (Some x) = ap Some (hidden (p x) x)
