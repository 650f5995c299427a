-- A slab of records and a map of their slots: after a change each record is still found where the map says, and nothing else is there.
use Rattle.bd_records.proofs.Words.{Bool, Identity, None, Option, Some, ap, arith, cond, eqb-true, false, on_slot, option_map, refl, same, same_eq, same_self, subst, sym, true, ℕ, ◌==◌, ◌∙◌, ◌≡◌}

-- I: whose the record in a slot is; S: where each is
abbrev pub AreFound : (ℕ → Option Identity) → (Identity → Option ℕ) → Type 0
AreFound I S = (x : Identity) (j : ℕ) → I j ≡ Some x → S x ≡ Some j

abbrev pub Lead : (ℕ → Option Identity) → (Identity → Option ℕ) → Type 0
Lead I S = (x : Identity) (j : ℕ) → S x ≡ Some j → I j ≡ Some x

module _ {A : Type 0} (id : A → Identity) (R R' : ℕ → Option A) (S S' : Identity → Option ℕ) (o : Identity) (k : ℕ)
    (found : AreFound (λ j. option_map id (R j)) S) (leads : Lead (λ j. option_map id (R j)) S) where
  -- one slot can't be of two identities
  one : (x : Identity) (j : ℕ) → S x ≡ Some j → S o ≡ Some k → (k == j) ≡ true → x ≡ o
  one x j e d kj =
      let a : option_map id (R j) ≡ Some x = leads x j e in
      let b : option_map id (R j) ≡ Some o = subst (λ i. option_map id (R i) ≡ Some o) (eqb-true k j kj) (leads o k d) in
      grind (arith, sym a ∙ b)

  -- a record is changed in its slot
  module _ (at : S o ≡ Some k) (f : A → A) (keeps : (v : A) → id v ≡ o → id (f v) ≡ o) (writes : (j : ℕ) → R' j ≡ cond (k == j) (option_map f (R j)) (R j)) where
    same_ids : (j : ℕ) → option_map id (R' j) ≡ option_map id (R j)
    same_ids j = case (k == j) refl (R j) refl
      where
        case : (b : Bool) → (k == j) ≡ b → (r : Option A) → R j ≡ r → option_map id (R' j) ≡ option_map id (R j)
        case false kj r e = grind (arith, writes j)
        case true kj None e = grind (arith, writes j)
        case true kj (Some r) e =
            let b : option_map id (R j) ≡ Some o = subst (λ i. option_map id (R i) ≡ Some o) (eqb-true k j kj) (leads o k at) in
            let c : Some (id r) ≡ Some o = sym (ap (option_map id) e) ∙ b in
            let d : id r ≡ o = cc in
            grind (arith, writes j, b, keeps r d, e)

    pub set_found : AreFound (λ j. option_map id (R' j)) S
    set_found x j e = found x j (sym (same_ids j) ∙ e)

    pub set_leads : Lead (λ j. option_map id (R' j)) S
    set_leads x j e = same_ids j ∙ leads x j e

    pub set_at : (x : Identity) → on_slot None R' (S x) ≡ cond (same o x) (option_map f (on_slot None R (S x))) (on_slot None R (S x))
    set_at x = case (same o x) refl (S x) refl
      where
        case : (b : Bool) → same o x ≡ b → (s : Option ℕ) → S x ≡ s → on_slot None R' s ≡ cond b (option_map f (on_slot None R s)) (on_slot None R s)
        case true ox s e = grind (arith, subst (λ y. S y ≡ Some k) (same_eq o x ox) at, e, writes k)
        case false ox None e = refl
        case false ox (Some j) e = far (k == j) refl
          where
            far : (b : Bool) → (k == j) ≡ b → R' j ≡ R j
            far true kj = grind (arith, one x j e at kj, ox)
            far false kj = grind (arith, writes j)

  -- the record goes
  module _ (at : S o ≡ Some k) (goes : (j : ℕ) → R' j ≡ cond (k == j) None (R j)) (slots : (x : Identity) → S' x ≡ cond (same o x) None (S x)) where
    pub gone_found : AreFound (λ j. option_map id (R' j)) S'
    gone_found x j e = case (k == j) refl (same o x) refl
      where
        case : (b : Bool) → (k == j) ≡ b → (c : Bool) → same o x ≡ c → S' x ≡ Some j
        case true kj c ox = grind (arith, goes j, e)
        case false kj true ox =
            let d : S o ≡ Some j = subst (λ y. S y ≡ Some j) (sym (same_eq o x ox)) (found x j (grind (arith, goes j, e))) in
            grind (arith, d, at)
        case false kj false ox = grind (arith, slots x, found x j, goes j, e)

    pub gone_leads : Lead (λ j. option_map id (R' j)) S'
    gone_leads x j e = case (same o x) refl (k == j) refl
      where
        case : (c : Bool) → same o x ≡ c → (b : Bool) → (k == j) ≡ b → option_map id (R' j) ≡ Some x
        case true ox b kj = grind (arith, slots x, e)
        case false ox true kj = grind (arith, slots x, e, one x j, at, kj, ox)
        case false ox false kj = grind (arith, slots x, e, leads x j, goes j)

    pub gone_at : (x : Identity) → on_slot None R' (S' x) ≡ cond (same o x) None (on_slot None R (S x))
    gone_at x = case (same o x) refl (S x) refl
      where
        case : (b : Bool) → same o x ≡ b → (s : Option ℕ) → S x ≡ s → on_slot None R' (S' x) ≡ cond b None (on_slot None R s)
        case true ox s e = grind (arith, slots x)
        case false ox None e = grind (arith, slots x, e)
        case false ox (Some j) e = far (k == j) refl
          where
            far : (b : Bool) → (k == j) ≡ b → on_slot None R' (S' x) ≡ R j
            far true kj = grind (arith, one x j e at kj, ox)
            far false kj = grind (arith, slots x, e, goes j)

  -- a record is put into a free slot; the old one of its identity, if there is one, stands where B says and goes
  module _ (w : A) (is : id w ≡ o) (B : ℕ → Bool) (was : (j : ℕ) → B j ≡ true → S o ≡ Some j) (all : (j : ℕ) → S o ≡ Some j → B j ≡ true)
      (fresh : R k ≡ None) (comes : (j : ℕ) → R' j ≡ cond (k == j) (Some w) (cond (B j) None (R j)))
      (slots : (x : Identity) → S' x ≡ cond (same o x) (Some k) (S x)) where
    pub put_found : AreFound (λ j. option_map id (R' j)) S'
    put_found x j e = case (k == j) refl (B j) refl (same o x) refl
      where
        case : (b : Bool) → (k == j) ≡ b → (d : Bool) → B j ≡ d → (c : Bool) → same o x ≡ c → S' x ≡ Some j
        case true kj d bj true ox = grind (arith, slots x)
        case true kj d bj false ox =
            let a : Some o ≡ Some x = grind (arith, comes j, e, is) in
            let b : o ≡ x = cc in
            absurd (let f : same o x ≡ true = subst (λ y. same o y ≡ true) b (same_self o) in cc)
        case false kj true bj c ox = grind (arith, comes j, e)
        case false kj false bj true ox =
            let d : S o ≡ Some j = subst (λ y. S y ≡ Some j) (sym (same_eq o x ox)) (found x j (grind (arith, comes j, e))) in
            grind (arith, all j d)
        case false kj false bj false ox = grind (arith, slots x, found x j, comes j, e)

    stays : (x : Identity) (j : ℕ) → S x ≡ Some j → same o x ≡ false → R' j ≡ R j
    stays x j e ox = case (k == j) refl (B j) refl
      where
        case : (b : Bool) → (k == j) ≡ b → (d : Bool) → B j ≡ d → R' j ≡ R j
        case true kj d bj =
            let a : option_map id (R j) ≡ Some x = leads x j e in
            let b : R j ≡ None = subst (λ i. R i ≡ None) (eqb-true k j kj) fresh in
            grind (arith, a, b)
        case false kj true bj =
            let a : option_map id (R j) ≡ Some x = leads x j e in
            let b : option_map id (R j) ≡ Some o = leads o j (was j bj) in
            let c : Some o ≡ Some x = sym b ∙ a in
            let f : o ≡ x = cc in
            absurd (let g : same o x ≡ true = subst (λ y. same o y ≡ true) f (same_self o) in cc)
        case false kj false bj = grind (arith, comes j)

    pub put_leads : Lead (λ j. option_map id (R' j)) S'
    put_leads x j e = case (same o x) refl
      where
        case : (c : Bool) → same o x ≡ c → option_map id (R' j) ≡ Some x
        case true ox =
            let f : o ≡ x = same_eq o x ox in
            let kj : (k == j) ≡ true = grind (arith, slots x, e) in
            let a : option_map id (R' j) ≡ Some o = grind (arith, comes j, kj, is) in
            a ∙ ap (λ y. Some y) f
        case false ox =
            let d : S x ≡ Some j = grind (arith, slots x, e) in
            ap (option_map id) (stays x j d ox) ∙ leads x j d

    pub put_at : (x : Identity) → on_slot None R' (S' x) ≡ cond (same o x) (Some w) (on_slot None R (S x))
    put_at x = case (same o x) refl (S x) refl
      where
        case : (b : Bool) → same o x ≡ b → (s : Option ℕ) → S x ≡ s → on_slot None R' (S' x) ≡ cond b (Some w) (on_slot None R s)
        case true ox s e = grind (arith, slots x, comes k)
        case false ox None e = grind (arith, slots x, e)
        case false ox (Some j) e = grind (arith, slots x, e, stays x j e ox)
