-- The numbers of a process, one after the other.
use Rattle.bd_records.proofs.Words.{Bool, Identity, IfNone, IfSome, NameRow, None, Option, Some, ap, arith, cases_lt, cond, eqb-true, false, inl, inr, object_of, on_slot, option_map, refl, subst, sym, true, ℕ, ◌+◌, ◌-◌, ◌<◌, ◌==◌, ◌^◌, ◌∙◌, ◌≡◌, ◌≤◌}

-- the numbers that were looked at when this is the next
abbrev pub IsBefore : Option ℕ → ℕ → Type 0
IsBefore None m = m < 2 ^ 32
IsBefore (Some n) m = m < n

-- how many are to be looked at
abbrev pub still_ahead : Option ℕ → ℕ
still_ahead None = 0
still_ahead (Some n) = 4294967296 - n

module _ {A : Type 0} (R : ℕ → Option A) where
  -- those before the next that was found from one on
  pub is_before : (from : ℕ) (r : Option ℕ) → IfNone r ((m : ℕ) → from ≤ m → m < 2 ^ 32 → R m ≡ None)
      → IfSome r (λ n. (m : ℕ) → from ≤ m → m < n → R m ≡ None) → (m : ℕ) → from ≤ m → IsBefore r m → R m ≡ None
  is_before from None none before m le is = none m le is
  is_before from (Some n) none before m le is = before m le is

  -- what holds of those that were looked at, holds of one more
  pub before_more : (P : ℕ → Type 0) → ((m : ℕ) → R m ≡ None → P m) → (n : ℕ) (next : Option ℕ) → ((m : ℕ) → m < n → P m) → P n
      → IfNone next ((m : ℕ) → n + 1 ≤ m → m < 2 ^ 32 → R m ≡ None) → IfSome next (λ k. (m : ℕ) → n + 1 ≤ m → m < k → R m ≡ None)
      → (m : ℕ) → IsBefore next m → P m
  before_more P empty n next below here none before m is = elim (cases_lt m n) [
    | inl lt ↦ below m lt
    | inr ge ↦ elim (cases_lt n m) [
      | inl gt ↦ empty m (is_before (n + 1) next none before m (omega (arith, gt)) is)
      | inr le ↦ (let s : n ≡ m = omega (arith, ge, le) in subst P s here)
    ]
  ]

pub ahead_less : (n : ℕ) (r : Option ℕ) → n < 2 ^ 32 → IfSome r (λ k. n + 1 ≤ k) → still_ahead r < still_ahead (Some n)
ahead_less n None small from = omega (arith, small)
ahead_less n (Some k) small from = omega (arith, small, from)

-- nothing is shown of what isn't there
pub not_shown : {A : Type 0} (w : Option NameRow) (x : Identity) → w ≡ None → option_map object_of w ≡ Some x → A
not_shown w x none is = absurd (let h : None ≡ Some x = sym (ap (option_map object_of) none) ∙ is in cc)

-- ---- a process whose numbers are all forgotten

module _ (p : ℕ) (V V' : ℕ → ℕ → Option NameRow) (A B : ℕ → Identity → Option ℕ)
    (leads : (q : ℕ) (x : Identity) (n : ℕ) → A q x ≡ Some n → option_map object_of (V q n) ≡ Some x)
    (small : (q : ℕ) (x : Identity) (n : ℕ) → A q x ≡ Some n → n ≤ 4294967294)
    (gone : (m : ℕ) (x : Identity) → m < 2 ^ 32 → option_map object_of (V p m) ≡ Some x → B p x ≡ None)
    (still : (x : Identity) → A p x ≡ None → B p x ≡ None)
    (rest : (q : ℕ) (x : Identity) → (p == q) ≡ false → B q x ≡ A q x)
    (closed : (q n : ℕ) → V' q n ≡ cond (p == q) None (V q n)) where
  forgotten : (x : Identity) (o : Option ℕ) → A p x ≡ o → B p x ≡ None
  forgotten x None e = still x e
  forgotten x (Some n) e = gone n x (let s = small p x n e in omega (arith, s)) (leads p x n e)

  pub ended_numbers : (q : ℕ) (x : Identity) → B q x ≡ cond (p == q) None (A q x)
  ended_numbers q x = at (p == q) refl
    where
      at : (b : Bool) → (p == q) ≡ b → B q x ≡ cond b None (A q x)
      at true e = subst (λ r. B r x ≡ None) (eqb-true p q e) (forgotten x (A p x) refl)
      at false e = rest q x e

  pub ended_named : (q n : ℕ) → option_map object_of (V' q n) ≡ cond (p == q) None (option_map object_of (V q n))
  ended_named q n = grind (arith, closed q n)

  pub ended_names : (q : ℕ) (x : Identity) → on_slot None (V' q) (B q x) ≡ cond (p == q) None (on_slot None (V q) (A q x))
  ended_names q x = at (p == q) refl
    where
      slots : (e : (p == q) ≡ false) (s : Option ℕ) → on_slot None (V' q) s ≡ on_slot None (V q) s
      slots e None = refl
      slots e (Some n) = closed q n ∙ ap (λ b. cond b None (V q n)) e

      at : (b : Bool) → (p == q) ≡ b → on_slot None (V' q) (B q x) ≡ cond b None (on_slot None (V q) (A q x))
      at true e = ap (on_slot None (V' q)) (ended_numbers q x ∙ ap (λ b. cond b None (A q x)) e)
      at false e = ap (on_slot None (V' q)) (rest q x e) ∙ slots e (A q x)

  pub ended_found : ((q : ℕ) (x : Identity) (n : ℕ) → option_map object_of (V q n) ≡ Some x → A q x ≡ Some n)
      → (q : ℕ) (x : Identity) (n : ℕ) → option_map object_of (V' q n) ≡ Some x → B q x ≡ Some n
  ended_found found q x n is = grind (arith, is, ended_named q n, ended_numbers q x, found q x n)

  pub ended_leads : (q : ℕ) (x : Identity) (n : ℕ) → B q x ≡ Some n → option_map object_of (V' q n) ≡ Some x
  ended_leads q x n is = grind (arith, is, ended_named q n, ended_numbers q x, leads q x n)

  pub ended_small : (q : ℕ) (x : Identity) (n : ℕ) → B q x ≡ Some n → n ≤ 4294967294
  ended_small q x n is = grind (arith, is, ended_numbers q x, small q x n)
