-- A list whose elements are changed in their turn, as a loop that writes in place meets it.
use Rattle.std.proofs.Common.{◌≡◌, ℕ, zero, suc, ◌+◌, ◌<◌, ◌≤◌, Bool, true, false, cond, List, [], ◌∷◌, ◌++◌, length, get_or, set, take, drop, map, refl, ap, sym, ◌∙◌, arith, add-one}
use Rattle.bd_space.specs.Words.{changed}

-- ---- each element is changed

module _ {A : Type 0} (f : A → A) where
  there : (xs : List A) (i : ℕ) (d : A) → i < length xs → get_or (map f (take i xs) ++ drop i xs) i d ≡ get_or xs i d
  there [] i d h = absurd (omega arith)
  there (x ∷ xs) zero d h = refl
  there (x ∷ xs) (suc i) d h = there xs i d (omega arith)

  mapped_suc : (xs : List A) (i : ℕ) (d : A) → i < length xs → set (map f (take i xs) ++ drop i xs) i (f (get_or xs i d)) ≡ map f (take (suc i) xs) ++ drop (suc i) xs
  mapped_suc [] i d h = absurd (omega arith)
  mapped_suc (x ∷ xs) zero d h = refl
  mapped_suc (x ∷ xs) (suc i) d h = ap (λ ys. f x ∷ ys) (mapped_suc xs i d (omega arith))

  -- one more element
  pub mapped_next : (xs ys : List A) (i : ℕ) (d x : A) → ys ≡ map f (take i xs) ++ drop i xs → i < length xs → x ≡ f (get_or ys i d)
      → set ys i x ≡ map f (take (i + 1) xs) ++ drop (i + 1) xs
  mapped_next xs ys i d x e h k =
      let same : get_or ys i d ≡ get_or xs i d = ap (λ zs. get_or zs i d) e ∙ there xs i d h in
      rw (k, same, e, add-one) (mapped_suc xs i d h)

  -- the whole list, at the end of the loop
  pub mapped_all : (xs : List A) (i : ℕ) → length xs ≤ i → map f (take i xs) ++ drop i xs ≡ map f xs
  mapped_all [] zero h = refl
  mapped_all [] (suc i) h = refl
  mapped_all (x ∷ xs) zero h = absurd (omega arith)
  mapped_all (x ∷ xs) (suc i) h = ap (λ ys. f x ∷ ys) (mapped_all xs i (omega arith))

-- ---- each element that passes is changed

module _ {A : Type 0} (p : A → Bool) (f : A → A) where
  abbrev by_test : A → A
  by_test x = cond (p x) (f x) x

  changed_map : (xs : List A) → changed p f xs ≡ map by_test xs
  changed_map [] = refl
  changed_map (x ∷ xs) = ap (λ ys. cond (p x) (f x) x ∷ ys) (changed_map xs)

  so_far : (xs : List A) (i : ℕ) → changed p f (take i xs) ++ drop i xs ≡ map by_test (take i xs) ++ drop i xs
  so_far xs i = ap (λ ys. ys ++ drop i xs) (changed_map (take i xs))

  -- an element that passes, as it is changed
  pub changed_then : (xs ys : List A) (i : ℕ) (d : A) → ys ≡ changed p f (take i xs) ++ drop i xs → i < length xs → p (get_or ys i d) ≡ true
      → set ys i (f (get_or ys i d)) ≡ changed p f (take (i + 1) xs) ++ drop (i + 1) xs
  changed_then xs ys i d e h t =
      mapped_next by_test xs ys i d (f (get_or ys i d)) (e ∙ so_far xs i) h (ap (λ b. cond b (f (get_or ys i d)) (get_or ys i d)) (sym t)) ∙ sym (so_far xs (i + 1))

  -- an element that doesn't, as it stays
  pub changed_else : (xs ys : List A) (i : ℕ) (d : A) → ys ≡ changed p f (take i xs) ++ drop i xs → i < length xs → p (get_or ys i d) ≡ false
      → set ys i (get_or ys i d) ≡ changed p f (take (i + 1) xs) ++ drop (i + 1) xs
  changed_else xs ys i d e h t =
      mapped_next by_test xs ys i d (get_or ys i d) (e ∙ so_far xs i) h (ap (λ b. cond b (f (get_or ys i d)) (get_or ys i d)) (sym t)) ∙ sym (so_far xs (i + 1))

  -- the whole list, at the end of the loop
  pub changed_all : (xs : List A) (i : ℕ) → length xs ≤ i → changed p f (take i xs) ++ drop i xs ≡ changed p f xs
  changed_all xs i h = so_far xs i ∙ mapped_all by_test xs i h ∙ sym (changed_map xs)
