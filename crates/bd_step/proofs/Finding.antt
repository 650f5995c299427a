-- What is found passes the test.
use Rattle.bd_step.proofs.Words.{Bool, List, Option, Process, Some, [], ap, cond, eqb-true, false, find, none-some, process_in, refl, sym, true, ℕ, ◌==◌, ◌∙◌, ◌∷◌, ◌≡◌}

module _ {X : Type 0} (p : X → Bool) where
  first_passes : (y x : X) (b : Bool) (rest : Option X) → p y ≡ b → (rest ≡ Some x → p x ≡ true) → cond b (Some y) rest ≡ Some x → p x ≡ true
  first_passes y x true rest e k f = let same : y ≡ x = cc in ap p (sym same) ∙ e
  first_passes y x false rest e k f = k f

  pub found_passes : (xs : List X) (x : X) → find p xs ≡ Some x → p x ≡ true
  found_passes [] x e = absurd (none-some x e)
  found_passes (y ∷ ys) x e = first_passes y x (p y) (find p ys) refl (found_passes ys x) e

-- a process that is found is found by its own identity
pub found_lives : (ps : List Process) (made : ℕ) (q : Process) → process_in ps made ≡ Some q → process_in ps q.made ≡ Some q
found_lives ps made q e = ap (process_in ps) (eqb-true q.made made (found_passes (λ (x : Process). x.made == made) ps q e)) ∙ e
