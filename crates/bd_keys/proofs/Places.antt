-- The places of keys.
use Rattle.std.proofs.Common.{◌≡◌, ℕ, zero, suc, ◌<◌, Bool, true, false, cond, List, [], ◌∷◌, length, ◌++◌, get_or, Option, Some, None, option_map, refl, ap, sym, subst, ◌∙◌, arith}
use Rattle.bd_keys.specs.declared.key.WordKey.{WordKey}
use Rattle.bd_keys.specs.Keys.{same_word, place_in}
use Rattle.bd_keys.specs.Walk.{blank}
use Rattle.bd_keys.proofs.Keys.{word_eq, word_self}

-- The place that the search finds is one of the list, and has the key.
pub place_some : (ks : List WordKey) (l : WordKey) (i : ℕ) → place_in ks l ≡ Some i
    → (i < length ks) × (get_or ks i blank ≡ l)
unfolding place_in
place_some [] l i h = absurd (cc)
place_some (k ∷ ks) l i h =
    at (λ j e. place_some ks l j e) (same_word k l) refl (place_in ks l) refl h
  where
    at : ((j : ℕ) → place_in ks l ≡ Some j → (j < length ks) × (get_or ks j blank ≡ l))
        → (b : Bool) → same_word k l ≡ b → (o : Option ℕ) → place_in ks l ≡ o
        → cond b (Some 0) (option_map suc o) ≡ Some i
        → (i < length (k ∷ ks)) × (get_or (k ∷ ks) i blank ≡ l)
    at again true e o f g =
        let z : 0 ≡ i = cc in
        subst (λ j. (j < length (k ∷ ks)) × (get_or (k ∷ ks) j blank ≡ l)) z (omega arith, word_eq k l e)
    at again false e None f g = absurd (cc)
    at again false e (Some j) f g =
        let s : suc j ≡ i = cc in
        let r = again j f in
        let less : suc j < length (k ∷ ks) = omega (arith, r.0) in
        subst (λ n. (n < length (k ∷ ks)) × (get_or (k ∷ ks) n blank ≡ l)) s (less, r.1)

-- A key that the search finds no place of stands at no place.
pub place_none : (ks : List WordKey) (l : WordKey) (i : ℕ) → place_in ks l ≡ None → i < length ks
    → get_or ks i blank ≡ l → ⊥
unfolding place_in
place_none [] l i h g e = omega (arith, g)
place_none (k ∷ ks) l i h g e =
    at (λ j f less q. place_none ks l j f less q) (same_word k l) refl (place_in ks l) refl h i g e
  where
    at : ((j : ℕ) → place_in ks l ≡ None → j < length ks → get_or ks j blank ≡ l → ⊥)
        → (b : Bool) → same_word k l ≡ b → (o : Option ℕ) → place_in ks l ≡ o
        → cond b (Some 0) (option_map suc o) ≡ None → (j : ℕ) → j < length (k ∷ ks)
        → get_or (k ∷ ks) j blank ≡ l → ⊥
    at again true e o f g j less q = absurd (cc)
    at again false e (Some n) f g j less q = absurd (cc)
    at again false e None f g zero less q =
        let yes : same_word k l ≡ true = subst (λ z. same_word k z ≡ true) q (word_self k) in
        absurd (cc)
    at again false e None f g (suc j) less q = again j f (omega (arith, less)) q

-- a new key comes after the others
pub place_push : (ks : List WordKey) (k l : WordKey) → place_in ks k ≡ None
    → place_in (ks ++ k ∷ []) l ≡ cond (same_word k l) (Some (length ks)) (place_in ks l)
unfolding place_in
place_push [] k l h = refl
place_push (j ∷ ks) k l h =
    at (λ e. place_push ks k l e) (same_word j k) refl (place_in ks k) refl h (same_word j l) refl (same_word k l) refl
  where
    at : (place_in ks k ≡ None
        → place_in (ks ++ k ∷ []) l ≡ cond (same_word k l) (Some (length ks)) (place_in ks l))
        → (a : Bool) → same_word j k ≡ a → (o : Option ℕ) → place_in ks k ≡ o
        → cond a (Some 0) (option_map suc o) ≡ None → (b : Bool) → same_word j l ≡ b
        → (d : Bool) → same_word k l ≡ d
        → cond b (Some 0) (option_map suc (place_in (ks ++ k ∷ []) l))
        ≡ cond d (Some (suc (length ks))) (cond b (Some 0) (option_map suc (place_in ks l)))
    at again true e o f g b p d q = absurd (cc)
    at again false e (Some n) f g b p d q = absurd (cc)
    at again false e None f g true p true q =
        let is : l ≡ k = sym (word_eq k l q) in
        let same : same_word j k ≡ true = subst (λ z. same_word j z ≡ true) is p in
        absurd (cc)
    at again false e None f g true p false q = refl
    at again false e None f g false p true q =
        ap (option_map suc) (again f ∙ ap (λ b. cond b (Some (length ks)) (place_in ks l)) q)
    at again false e None f g false p false q =
        ap (option_map suc) (again f ∙ ap (λ b. cond b (Some (length ks)) (place_in ks l)) q)
