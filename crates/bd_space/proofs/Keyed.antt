-- Where the elements with a key are changed, and keep what they are told apart by.
use Rattle.std.proofs.Common.{◌≡◌, ℕ, zero, suc, ◌<◌, ◌==◌, Bool, true, false, cond, List, [], ◌∷◌, length, get_or, set, Some, find, refl, ap, sym, subst, ◌∙◌, arith, eq-eqb}
use Rattle.std.specs.Prelude.{AllPairs, option_map}
use Rattle.std.proofs.lemmas.List.Elements.{All-head, All-tail}
use Rattle.bd_space.specs.Words.{changed}
use Rattle.bd_keys.proofs.Rising.{Distinct, AllOthers, has, pairs_tail, first_differs, rest_differ}

-- ---- which elements change

module _ {A : Type 0} (key : A → ℕ) (f : A → A) where
  pub changed_none : (m : ℕ) (xs : List A) → AllOthers key m xs → changed (has key m) f xs ≡ xs
  changed_none m [] none = refl
  changed_none m (x ∷ xs) none =
      let P : A → Type 0 = λ y. has key m y ≡ false in
      ap (λ b. cond b (f x) x ∷ changed (has key m) f xs) (All-head P x xs none)
      ∙ ap (λ ys. x ∷ ys) (changed_none m xs (All-tail P x xs none))

  pub changed_at : (m : ℕ) (xs : List A) (i : ℕ) (d : A) → Distinct key xs → i < length xs
      → ((d : A) → key (get_or xs i d) ≡ m) → changed (has key m) f xs ≡ set xs i (f (get_or xs i d))
  changed_at m [] i d apart lt is = absurd (omega arith)
  changed_at m (x ∷ xs) zero d apart lt is =
      ap (λ b. cond b (f x) x ∷ changed (has key m) f xs) (eq-eqb (key x) m (is x))
      ∙ ap (λ ys. f x ∷ ys) (changed_none m xs (rest_differ key m x xs apart (is x)))
  changed_at m (x ∷ xs) (suc i) d apart lt is =
      ap (λ b. cond b (f x) x ∷ changed (has key m) f xs) (first_differs key m x xs i apart (omega arith) is)
      ∙ ap (λ ys. x ∷ ys)
      (changed_at m xs i d (pairs_tail (λ a b. key a ≡ key b → ⊥) x xs apart) (omega arith) is)

-- ---- what stays where it does in each element

module _ {A : Type 0} (p : A → Bool) (f : A → A) where
  pub length_changed : (xs : List A) → length (changed p f xs) ≡ length xs
  length_changed [] = refl
  length_changed (x ∷ xs) = ap suc (length_changed xs)

  module _ (tag : A → ℕ) (stays : (x : A) → tag (f x) ≡ tag x) where
    tag_stays : (x : A) (b : Bool) → tag (cond b (f x) x) ≡ tag x
    tag_stays x true = stays x
    tag_stays x false = refl

    tag_at : (xs : List A) (i : ℕ) (d : A) → tag (get_or (changed p f xs) i d) ≡ tag (get_or xs i d)
    tag_at [] i d = refl
    tag_at (x ∷ xs) zero d = tag_stays x (p x)
    tag_at (x ∷ xs) (suc i) d = tag_at xs i d

    pub pairs_changed : (R : ℕ → ℕ → Type 0) (xs : List A) → AllPairs (λ a b. R (tag a) (tag b)) xs
        → AllPairs (λ a b. R (tag a) (tag b)) (changed p f xs)
    pairs_changed R xs pairs i j d lt h =
        let before = pairs i j d lt (subst (λ n. j < n) (length_changed xs) h) in
        subst (λ a. R a (tag (get_or (changed p f xs) j d))) (sym (tag_at xs i d))
        (subst (R (tag (get_or xs i d))) (sym (tag_at xs j d)) before)

    module _ {V : Type 0} (shown : A → V) (same : (x : A) → shown (f x) ≡ shown x) where
      pub tags_changed : (m : ℕ) (xs : List A)
          → option_map shown (find (has tag m) (changed p f xs)) ≡ option_map shown (find (has tag m) xs)
      tags_changed m [] = refl
      tags_changed m (x ∷ xs) =
          ap (λ t. option_map shown (cond (t == m) (Some (cond (p x) (f x) x)) (find (has tag m) (changed p f xs)))) (tag_stays x (p x))
          ∙ by (tag x == m) (tags_changed m xs)
        where
          shown_stays : (b : Bool) → shown (cond b (f x) x) ≡ shown x
          shown_stays true = same x
          shown_stays false = refl

          by : (b : Bool)
              → option_map shown (find (has tag m) (changed p f xs)) ≡ option_map shown (find (has tag m) xs)
              → option_map shown (cond b (Some (cond (p x) (f x) x)) (find (has tag m) (changed p f xs)))
              ≡ option_map shown (cond b (Some x) (find (has tag m) xs))
          by true rest = ap (λ v. Some v) (shown_stays (p x))
          by false rest = rest
