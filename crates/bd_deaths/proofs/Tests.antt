-- Changes of the elements that pass a test, one after the other.
use Rattle.bd_deaths.proofs.Words.{Bool, List, [], ap, changed, cond, false, refl, sym, true, ◌&&◌, ◌||◌, ◌∷◌, ◌≡◌}

module _ {A : Type 0} (f : A → A) where
  pub none : (p : A → Bool) (xs : List A) → ((x : A) → p x ≡ false) → changed p f xs ≡ xs
  none p [] h = refl
  none p (x ∷ xs) h = rw (h x) (ap (λ ys. x ∷ ys) (none p xs h))

  pub same_tests : (p q : A → Bool) (xs : List A) → ((x : A) → p x ≡ q x) → changed p f xs ≡ changed q f xs
  same_tests p q [] h = refl
  same_tests p q (x ∷ xs) h = rw (h x, same_tests p q xs h) refl

  head_twice : (x : A) (p : A → Bool) (a : Bool) → p (f x) ≡ p x → f (f x) ≡ f x
      → cond (p (cond a (f x) x)) (f (cond a (f x) x)) (cond a (f x) x) ≡ cond (a || p x) (f x) x
  head_twice x p true e g = rw (e, g) (elim (p x) as (λ b. cond b (f x) (f x) ≡ f x) [ true ↦ refl | false ↦ refl ])
  head_twice x p false e g = refl

  pub twice : (p q : A → Bool) (xs : List A) → ((x : A) → p (f x) ≡ p x) → ((x : A) → f (f x) ≡ f x)
      → changed p f (changed q f xs) ≡ changed (λ x. q x || p x) f xs
  twice p q [] e g = refl
  twice p q (x ∷ xs) e g = rw (head_twice x p (q x) (e x) (g x), twice p q xs e g) refl

  pub guarded : (p : A → Bool) (xs : List A) (b : Bool) → cond b (changed p f xs) xs ≡ changed (λ x. b && p x) f xs
  guarded p xs true = refl
  guarded p xs false = sym (none (λ x. false) xs (λ x. refl))
