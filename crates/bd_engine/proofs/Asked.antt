-- A process asked for exactly what it may give back.
use Rattle.bd_engine.proofs.Words.{Bool, NoSuchNumber, None, NothingAsked, Option, Some, Space, and_then, drop_check, false, has_asked, is_asking, is_ok, is_some_and, list_any, named, not, ok_or, refl, true, unless, when, ℕ, ◌≡◌}

module _ {A E : Type 0} where
  passed : (o : A) (e : E) (b : Bool) → is_ok (unless (when (not b) e) o) ≡ b
  passed o e true = refl
  passed o e false = refl

  checked : (found : Option A) (d e : E) (p : A → Bool)
      → is_ok (and_then (ok_or found d) (λ o. unless (when (not (p o)) e) o)) ≡ is_some_and found p
  checked None d e p = refl
  checked (Some o) d e p = passed o e (p o)

pub asked : (s : Space) (p n : ℕ) (strong : Bool) → is_ok (drop_check s p n strong) ≡ has_asked s p n strong
unfolding drop_check
asked s p n strong = checked (named s p n) NoSuchNumber NothingAsked (λ o. list_any (is_asking p o strong) s.references)
