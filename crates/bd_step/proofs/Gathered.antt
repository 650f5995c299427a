-- Where memory was asked for, something is gathered.
use Rattle.bd_step.proofs.Words.{Bool, Err, List, Ok, OnErr, Result, [], ap, arith, filter, get_or, length, list_any, or_left, or_right, suc, true, zero, ℕ, ◌<◌, ◌∙◌, ◌∷◌, ◌≡◌, ◌≤◌}

pub on_err : {T E : Type 0} (r : Result T E) {P : Type 0} → P → OnErr r P
on_err (Ok x) h = tt
on_err (Err e) h = h

module _ {A : Type 0} (p : A → Bool) where
  pub any_here : (xs rest : List A) (x : A) → xs ≡ x ∷ rest → p x ≡ true → list_any p xs ≡ true
  any_here xs rest x e h = ap (list_any p) e ∙ or_left (p x) (list_any p rest) h

  pub any_later : (xs rest : List A) (x : A) → xs ≡ x ∷ rest → list_any p rest ≡ true → list_any p xs ≡ true
  any_later xs rest x e h = ap (list_any p) e ∙ or_right (p x) (list_any p rest) h

  pub any_get : (xs : List A) (i : ℕ) (d : A) → i < length xs → p (get_or xs i d) ≡ true → list_any p xs ≡ true
  any_get [] i d l h = absurd (omega arith)
  any_get (x ∷ xs) zero d l h = or_left (p x) (list_any p xs) h
  any_get (x ∷ xs) (suc i) d l h = or_right (p x) (list_any p xs) (any_get xs i d (omega arith) h)

  pub any_kept : (xs : List A) → 1 ≤ length (filter p xs) → list_any p xs ≡ true
  any_kept [] h = absurd (omega arith)
  any_kept (x ∷ xs) h = grind (arith, any_kept xs, h)
