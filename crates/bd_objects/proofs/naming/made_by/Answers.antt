use Rattle.bd_objects.proofs.Words.{Identity, List, Object, [], and_right, false, list_any, or_from, or_parts, owned_in, refl, sym, ℕ, ◌==◌, ◌∙◌, ◌∷◌, ◌≡◌}
use Rattle.bd_objects.proofs.naming.made_by.Goals as goal

none-owned : (xs : List Object) (p : ℕ) (o : Identity) → list_any (λ x. x.owner == p) xs ≡ false → owned_in xs p o ≡ false
none-owned [] p o h = refl
none-owned (x ∷ xs) p o h = let k = or_parts (x.owner == p) _ h in or_from _ _ (and_right _ _ k.0) (none-owned xs p o k.1)

pub returns-else-has_own : goal.returns-else-has_own
returns-else-has_own c = λ o. sym (none-owned c.args.made.now c.args.p o (sym c.has_own.ensures ∙ c.if-has_own.false))
