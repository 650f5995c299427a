-- No pid is out of range, through each change.
use Rattle.std.proofs.Common.{◌≡◌, ℕ, zero, suc, ◌<◌, Bool, true, ◌&&◌, List, [], ◌∷◌, ◌++◌, length, get_or, set, refl, ◌∙◌, arith}
use Rattle.std.specs.Prelude.{remove}
use Rattle.std.specs.List.{list_all}
use Rattle.std.proofs.lemmas.Bool.{and_parts, and_from}
use Rattle.std.proofs.lemmas.List.Folds.{list_all-append}

module _ {X : Type 0} (p : X → Bool) where
  pub all_get : (xs : List X) (i : ℕ) (d : X) → list_all p xs ≡ true → i < length xs → p (get_or xs i d) ≡ true
  all_get [] i d all lt = absurd (omega arith)
  all_get (x ∷ xs) zero d all lt = (and_parts (p x) (list_all p xs) all).0
  all_get (x ∷ xs) (suc i) d all lt = all_get xs i d (and_parts (p x) (list_all p xs) all).1 (omega arith)

  pub all_left : (xs : List X) (i : ℕ) → list_all p xs ≡ true → list_all p (remove xs i) ≡ true
  all_left [] zero all = refl
  all_left [] (suc i) all = refl
  all_left (x ∷ xs) zero all = (and_parts (p x) (list_all p xs) all).1
  all_left (x ∷ xs) (suc i) all =
      let both = and_parts (p x) (list_all p xs) all in
      and_from (p x) (list_all p (remove xs i)) both.0 (all_left xs i both.1)

  pub all_more : (xs : List X) (x : X) → list_all p xs ≡ true → p x ≡ true → list_all p (xs ++ x ∷ []) ≡ true
  all_more xs x all one =
      list_all-append p xs (x ∷ [])
      ∙ and_from (list_all p xs) (p x && true) all (and_from (p x) true one refl)

  pub all_set : (xs : List X) (i : ℕ) (x : X) → list_all p xs ≡ true → p x ≡ true → list_all p (set xs i x) ≡ true
  all_set [] i x all one = refl
  all_set (y ∷ ys) zero x all one = and_from (p x) (list_all p ys) one (and_parts (p y) (list_all p ys) all).1
  all_set (y ∷ ys) (suc i) x all one =
      let both = and_parts (p y) (list_all p ys) all in
      and_from (p y) (list_all p (set ys i x)) both.0 (all_set ys i x both.1 one)
