-- What is found by another test than the key, and where one comes or goes.
use Rattle.std.proofs.Common.{◌≡◌, ℕ, ◌<◌, ◌==◌, Bool, true, false, not, ◌||◌, cond, List, [], ◌∷◌, ◌++◌, Some, None, find, refl, ap, sym, subst, ◌∙◌, arith, All, eq-eqb, ne_eqb, length, get_or}
use Rattle.std.specs.Prelude.{Option, option_map, is_some, remove}
use Rattle.std.specs.List.{list_any}
use Rattle.std.specs.Option.{option_or}
use Rattle.std.proofs.lemmas.Bool.{eqb-true, eqb-false}
use Rattle.std.proofs.lemmas.List.Elements.{All-head, All-tail, All-cons}
use Rattle.std.proofs.lemmas.List.Folds.{find-append}
use Rattle.bd_keys.proofs.Rising.{Rising, Distinct, has, without, pairs_head, pairs_tail, filter_at}

module _ {A : Type 0} (p : A → Bool) where
  pub any_some : (xs : List A) → list_any p xs ≡ is_some (find p xs)
  any_some [] = refl
  any_some (x ∷ xs) = by (p x) (any_some xs)
    where
      by : (b : Bool) → list_any p xs ≡ is_some (find p xs)
          → (b || list_any p xs) ≡ is_some (cond b (Some x) (find p xs))
      by true e = refl
      by false e = e

  -- what is found has what all have, and passes
  pub found_has : (P : A → Type 0) (xs : List A) (y : A) → find p xs ≡ Some y → All P xs → P y × (p y ≡ true)
  found_has P [] y e all = cc
  found_has P (x ∷ xs) y e all = by (p x) refl e (λ f. found_has P xs y f (All-tail P x xs all))
    where
      by : (b : Bool) → p x ≡ b → cond b (Some x) (find p xs) ≡ Some y → (find p xs ≡ Some y → P y × (p y ≡ true)) → P y × (p y ≡ true)
      by true t e rest = let same : x ≡ y = cc in (subst P same (All-head P x xs all), ap p (sym same) ∙ t)
      by false t e rest = rest e

  pub found_passes : (xs : List A) (y : A) → find p xs ≡ Some y → p y ≡ true
  found_passes xs y e = (found_has (λ _. Unit) xs y e (λ k d h. tt)).1

  pub none_found : (xs : List A) → find p xs ≡ None → All (λ x. p x ≡ false) xs
  none_found [] e = λ k d h. absurd (omega arith)
  none_found (x ∷ xs) e = by (p x) refl e (none_found xs)
    where
      by : (b : Bool) → p x ≡ b → cond b (Some x) (find p xs) ≡ None
          → (find p xs ≡ None → All (λ y. p y ≡ false) xs) → All (λ y. p y ≡ false) (x ∷ xs)
      by true t e rest = cc
      by false t e rest = All-cons (λ y. p y ≡ false) x xs t (rest e)

-- ---- what another test finds is found by its key

module _ {A : Type 0} (key : A → ℕ) (p : A → Bool) where
  found_by_key : (xs : List A) (y : A) → Rising key xs → find p xs ≡ Some y → find (has key (key y)) xs ≡ Some y
  found_by_key [] y rising e = cc
  found_by_key (x ∷ xs) y rising e =
      by (p x) e (found_by_key xs y (pairs_tail (λ a b. key a < key b) x xs rising))
    where
      by : (b : Bool) → cond b (Some x) (find p xs) ≡ Some y
          → (find p xs ≡ Some y → find (has key (key y)) xs ≡ Some y)
          → find (has key (key y)) (x ∷ xs) ≡ Some y
      by true e rest =
          let same : x ≡ y = cc in
          ap (λ t. cond t (Some x) (find (has key (key y)) xs)) (eq-eqb (key x) (key y) (ap key same))
          ∙ ap (λ z. Some z) same
      by false e rest =
          let all = pairs_head (λ a b. key a < key b) x xs rising in
          let later = (found_has p (λ z. key x < key z) xs y e all).0 in
          let other = ne_eqb (key x) (key y) (λ same. absurd (omega (arith, same, later))) in
          ap (λ t. cond t (Some x) (find (has key (key y)) xs)) other ∙ rest e

  pub by_key : (xs : List A) (m : ℕ) → Rising key xs → Some m ≡ option_map key (find p xs)
      → find (has key m) xs ≡ find p xs
  by_key xs m rising e = at (find p xs) refl e
    where
      at : (o : Option A) → find p xs ≡ o → Some m ≡ option_map key o → find (has key m) xs ≡ o
      at None f e = cc
      at (Some y) f e =
          let same : m ≡ key y = cc in ap (λ k. find (has key k) xs) same ∙ found_by_key xs y rising f

-- ---- where one comes whose tag none has

module _ {A : Type 0} (tag : A → ℕ) where
  pub apart_from : (xs : List A) (x : A) → find (has tag (tag x)) xs ≡ None → All (λ y. tag y ≡ tag x → ⊥) xs
  apart_from xs x new k d lt e =
      let none = none_found (has tag (tag x)) xs new k d lt in
      let here = eq-eqb (tag (get_or xs k d)) (tag x) e in
      absurd (cc)

module _ {A V : Type 0} (tag : A → ℕ) (shown : A → V) where
  pub tags_more : (xs : List A) (x : A) (m : ℕ) → find (has tag (tag x)) xs ≡ None
      → cond (tag x == m) (Some (shown x)) (option_map shown (find (has tag m) xs))
      ≡ option_map shown (find (has tag m) (xs ++ x ∷ []))
  tags_more xs x m new =
      at (tag x == m) refl ∙ ap (option_map shown) (sym (find-append (has tag m) xs (x ∷ [])))
    where
      or_none : (o : Option A) → o ≡ option_or o None
      or_none None = refl
      or_none (Some y) = refl

      at : (b : Bool) → (tag x == m) ≡ b
          → cond b (Some (shown x)) (option_map shown (find (has tag m) xs))
          ≡ option_map shown (option_or (find (has tag m) xs) (cond b (Some x) None))
      at true e =
          let none = subst (λ k. find (has tag k) xs ≡ None) (eqb-true (tag x) m e) new in
          ap (λ o. option_map shown (option_or o (Some x))) (sym none)
      at false e = ap (option_map shown) (or_none (find (has tag m) xs))

-- ---- where those with a tag go

module _ {A : Type 0} (tag : A → ℕ) (m : ℕ) where
  pub find_gone : (xs : List A) → find (has tag m) (without tag m xs) ≡ None
  find_gone [] = refl
  find_gone (x ∷ xs) = by (tag x == m) refl (find_gone xs)
    where
      left : List A
      left = without tag m xs

      by : (b : Bool) → (tag x == m) ≡ b → find (has tag m) left ≡ None
          → find (has tag m) (cond (not b) (x ∷ left) left) ≡ None
      by true e rest = rest
      by false e rest = ap (λ t. cond t (Some x) (find (has tag m) left)) e ∙ rest

  pub find_stays : (n : ℕ) (xs : List A) → (m ≡ n → ⊥) → find (has tag n) (without tag m xs) ≡ find (has tag n) xs
  find_stays n [] other = refl
  find_stays n (x ∷ xs) other = by (tag x == m) refl (find_stays n xs other)
    where
      left : List A
      left = without tag m xs

      by : (b : Bool) → (tag x == m) ≡ b → find (has tag n) left ≡ find (has tag n) xs
          → find (has tag n) (cond (not b) (x ∷ left) left) ≡ find (has tag n) (x ∷ xs)
      by true e rest =
          let differs = ne_eqb (tag x) n (λ f. other (sym (eqb-true (tag x) m e) ∙ f)) in
          rest ∙ sym (ap (λ t. cond t (Some x) (find (has tag n) xs)) differs)
      by false e rest = ap (λ o. cond (tag x == n) (Some x) o) rest

module _ {A V : Type 0} (tag : A → ℕ) (shown : A → V) where
  pub tags_less : (xs : List A) (i t m : ℕ) → Distinct tag xs → i < length xs
      → ((d : A) → tag (get_or xs i d) ≡ t)
      → cond (t == m) None (option_map shown (find (has tag m) xs))
      ≡ option_map shown (find (has tag m) (remove xs i))
  tags_less xs i t m apart lt at =
      by (t == m) refl ∙ ap (λ ys. option_map shown (find (has tag m) ys)) (filter_at tag t xs i apart lt at)
    where
      left : List A
      left = without tag t xs

      by : (b : Bool) → (t == m) ≡ b
          → cond b None (option_map shown (find (has tag m) xs)) ≡ option_map shown (find (has tag m) left)
      by true e =
          let none = subst (λ n. find (has tag n) left ≡ None) (eqb-true t m e) (find_gone tag t xs) in
          ap (option_map shown) (sym none)
      by false e = ap (option_map shown) (sym (find_stays tag t m xs (eqb-false t m e)))
