-- No identity is noted that is later than the latest.
use Rattle.bd_records.proofs.Words.{Bool, Identity, None, Option, Some, arith, cond, false, pair, refl, same, same_eq, subst, sym, true, ℕ, ◌&&◌, ◌∙◌, ◌≡◌, ◌≤◌}

-- S: where each is
abbrev pub NotLater : (Identity → Option ℕ) → ℕ → Type 0
NotLater S latest = (x : Identity) (k : ℕ) → S x ≡ Some k → pair x.place x.index ≤ latest

both : (a b : Bool) → (a && b) ≡ true → b ≡ true
both true b e = e
both false b e = absurd (cc)

module _ (S S' : Identity → Option ℕ) (o : Identity) (latest : ℕ) (old : NotLater S latest) where
  -- one more is noted, of these processes alone
  pub noted : (a : Bool) (n to : ℕ) → pair o.place o.index ≤ to → latest ≤ to
      → ((x : Identity) → S' x ≡ cond (a && same o x) (Some n) (S x)) → NotLater S' to
  noted a n to here less is x k e = at (a && same o x) refl (sym (is x) ∙ e)
    where
      at : (b : Bool) → (a && same o x) ≡ b → cond b (Some n) (S x) ≡ Some k → pair x.place x.index ≤ to
      at true s t = subst (λ y. pair y.place y.index ≤ to) (same_eq o x (both a (same o x) s)) here
      at false s t = omega (arith, old x k t, less)

  -- one is noted no more
  pub gone : (a : Bool) → ((x : Identity) → S' x ≡ cond (a && same o x) None (S x)) → NotLater S' latest
  gone a is x k e = grind (arith, is x, e, old x k)

-- where all go, none is noted
pub all_gone : (S S' : Identity → Option ℕ) (latest : ℕ) → NotLater S latest → (a : Bool) → ((x : Identity) → S' x ≡ cond a None (S x)) → NotLater S' latest
all_gone S S' latest old a is x k e = grind (arith, is x, e, old x k)
