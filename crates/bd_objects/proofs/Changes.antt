-- Two changes that do the same to what passes.
use Rattle.bd_objects.proofs.Words.{Bool, List, [], ap, changed, cond, false, refl, true, ◌∷◌, ◌≡◌}

module _ {A : Type 0} (p : A → Bool) (f g : A → A) (same : (x : A) → p x ≡ true → f x ≡ g x) where
  same_at : (x : A) (b : Bool) → p x ≡ b → cond b (f x) x ≡ cond b (g x) x
  same_at x true e = same x e
  same_at x false e = refl

  pub same_changes : (xs : List A) → changed p f xs ≡ changed p g xs
  same_changes [] = refl
  same_changes (x ∷ xs) = rw (same_changes xs) (ap (λ y. y ∷ changed p g xs) (same_at x (p x) refl))
