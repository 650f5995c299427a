-- Where a process gets its first row, slots and rows still agree: of every row the slot is known, and in every known slot is the row.
use Rattle.std.proofs.Common.{◌≡◌, ℕ, ◌==◌, Bool, true, false, cond, Option, Some, None, refl, subst, arith}
use Rattle.std.proofs.lemmas.Bool.{eqb-true}
use Rattle.bd_numbered.specs.Columns.{on_slot}

module _ (M M' S S' : ℕ → Option ℕ) (p k : ℕ) (fresh : M k ≡ None) (absent : S p ≡ None)
    (made : (j : ℕ) → M' j ≡ cond (k == j) (Some p) (M j)) (slots : (q : ℕ) → S' q ≡ cond (p == q) (Some k) (S q)) where
  pub opened_found : ((q j : ℕ) → M j ≡ Some q → S q ≡ Some j) → (q j : ℕ) → M' j ≡ Some q → S' q ≡ Some j
  opened_found found q j e = at (k == j) refl (p == q) refl
    where
      at : (b : Bool) → (k == j) ≡ b → (c : Bool) → (p == q) ≡ c → S' q ≡ Some j
      at true kj c pq = grind (arith, made j, slots q)
      at false kj true pq = grind (arith, made j, found q j, subst (λ x. S x ≡ None) (eqb-true p q pq) absent)
      at false kj false pq = grind (arith, made j, slots q, found q j)

  pub opened_leads : ((q j : ℕ) → S q ≡ Some j → M j ≡ Some q) → (q j : ℕ) → S' q ≡ Some j → M' j ≡ Some q
  opened_leads leads q j e = at (p == q) refl (k == j) refl
    where
      at : (c : Bool) → (p == q) ≡ c → (b : Bool) → (k == j) ≡ b → M' j ≡ Some q
      at true pq b kj = grind (arith, made j, slots q)
      at false pq true kj = grind (arith, slots q, leads q j, subst (λ x. M x ≡ None) (eqb-true k j kj) fresh)
      at false pq false kj = grind (arith, made j, slots q, leads q j)

  -- no process has another value than before, since the new row is empty
  pub opened_same : {A : Type 0} (d : A) (V W : ℕ → A) → ((q j : ℕ) → S q ≡ Some j → M j ≡ Some q) → ((j : ℕ) → W j ≡ cond (k == j) d (V j)) → (q : ℕ) → on_slot d W (S' q) ≡ on_slot d V (S q)
  opened_same d V W leads writes q = at (p == q) refl (S q) refl
    where
      at : (c : Bool) → (p == q) ≡ c → (o : Option ℕ) → S q ≡ o → on_slot d W (S' q) ≡ on_slot d V (S q)
      at true pq o e = grind (arith, slots q, writes k, subst (λ x. S x ≡ None) (eqb-true p q pq) absent)
      at false pq None e = grind (arith, slots q)
      at false pq (Some j) e = far (k == j) refl
        where
          far : (b : Bool) → (k == j) ≡ b → on_slot d W (S' q) ≡ on_slot d V (S q)
          far true kj = grind (arith, leads q j e, subst (λ x. M x ≡ None) (eqb-true k j kj) fresh)
          far false kj = grind (arith, slots q, e, writes j)
