-- Lists of what elements show: what is found among them, stays, or is changed.
use Rattle.std.proofs.Common.{◌≡◌, Bool, List, [], ◌∷◌, arith, find, filter, map, refl}
use Rattle.std.specs.Prelude.{option_map}
use Rattle.bd_space.specs.Words.{changed}

module _ {A B : Type 0} (f : A → B) where
  pub filter_map : (p : B → Bool) (xs : List A) → map f (filter (λ x. p (f x)) xs) ≡ filter p (map f xs)
  filter_map p [] = refl
  filter_map p (x ∷ xs) = grind (arith, filter_map p xs)

  pub find_map : (p : B → Bool) (xs : List A) → find p (map f xs) ≡ option_map f (find (λ x. p (f x)) xs)
  find_map p [] = refl
  find_map p (x ∷ xs) = grind (arith, find_map p xs)

  pub changed_map : (p : B → Bool) (g : A → A) (h : B → B) → ((x : A) → f (g x) ≡ h (f x)) → (xs : List A) → map f (changed (λ x. p (f x)) g xs) ≡ changed p h (map f xs)
  changed_map p g h same [] = refl
  changed_map p g h same (x ∷ xs) = grind (arith, changed_map p g h same xs, same x)

  -- what is changed doesn't show
  pub kept_map : (p : A → Bool) (g : A → A) → ((x : A) → f (g x) ≡ f x) → (xs : List A) → map f (changed p g xs) ≡ map f xs
  kept_map p g same [] = refl
  kept_map p g same (x ∷ xs) = grind (arith, kept_map p g same xs, same x)
