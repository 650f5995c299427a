-- Rows in one of which another value stands.
use Rattle.std.proofs.Common.{◌≡◌, ℕ, ◌==◌, Bool, true, false, cond, List, [], ◌∷◌, length, Option, Some, None, is_some, refl, sym, ap, ◌∙◌, subst, arith}
use Rattle.std.specs.Prelude.{option_map}
use Rattle.slab.specs.Slab.{Slab, get, slab_len}
use Rattle.bd_chains.specs.{declared.links.Held.{Held}, declared.links.Ends.{Ends}, declared.chains.Chains.{Chains}}
use Rattle.bd_chains.specs.{Rows.{Row, keys, ring, row_at, counted_on}, Setting.{set_held, with_value}}
use Rattle.bd_chains.specs.Columns.{next_at, prev_at, shown, is_open, Holds}
use Rattle.bd_chains.proofs.Order.{linked_same}

module _ {T : Type 0} (x : ℕ) (v : T) where
  pub keys_set : (rs : List (Row T)) → keys (with_value x v rs) ≡ keys rs
  keys_set [] = refl
  keys_set (r ∷ rs) = grind (arith, keys_set rs)

  pub length_set : (rs : List (Row T)) → length (with_value x v rs) ≡ length rs
  length_set [] = refl
  length_set (r ∷ rs) = grind (arith, length_set rs)

  pub ring_set : (l : ℕ) (rs : List (Row T)) → ring l (with_value x v rs) ≡ ring l rs
  ring_set l [] = refl
  ring_set l (r ∷ rs) = grind (arith, ring_set l rs)

  pub counted_set : (l : ℕ) (rs : List (Row T)) → counted_on l (with_value x v rs) ≡ counted_on l rs
  counted_set l [] = refl
  counted_set l (r ∷ rs) = grind (arith, counted_set l rs)

  pub at_set : (k : ℕ) (rs : List (Row T)) → row_at k (with_value x v rs) ≡ cond (x == k) (option_map (set_held v) (row_at k rs)) (row_at k rs)
  at_set k [] = grind arith
  at_set k (r ∷ rs) = grind (arith, at_set k rs)

  pub set_holds : (t u : Chains T) (rs : List (Row T)) → Holds t rs → ((k : ℕ) → shown u k ≡ cond (x == k) (option_map (set_held v) (shown t k)) (shown t k))
      → ((m : ℕ) (o : Option ℕ) → next_at u m o ≡ next_at t m o) → ((m : ℕ) (o : Option ℕ) → prev_at u m o ≡ prev_at t m o)
      → u.ends ≡ t.ends → slab_len u.items ≡ slab_len t.items → Holds u (with_value x v rs)
  set_holds t u rs h shows nexts prevs ends len = record {
    apart = rw (keys_set rs) h.apart;
    shown_are = λ k. grind (arith, shows k, h.shown_are k, at_set k rs);
    linked = λ l. rw (ring_set l rs) (linked_same (next_at t l) (prev_at t l) (next_at u l) (prev_at u l) None (ring l rs) (h.linked l) (nexts l None) (prevs l None) (λ z on. (nexts l (Some z), prevs l (Some z))));
    counts = λ l. grind (arith, h.counts l, counted_set l rs);
    within = λ k l w is. ap (λ (s : Slab Ends). is_some (get s l)) ends ∙ listed k l w (x == k) (shown t k) refl (sym (shows k) ∙ is);
    len = len ∙ h.len ∙ sym (length_set rs);
  }
    where
      list_is : {a b : ℕ} {w z : Held T} → ◌≡◌ {A = Option (ℕ × Held T)} (Some (a, w)) (Some (b, z)) → a ≡ b
      list_is e = ap (λ (o : Option (ℕ × Held T)). elim o [ None ↦ 0 | Some p ↦ p.0 ]) e

      listed : (k l : ℕ) (w : Held T) (b : Bool) (o : Option (ℕ × Held T)) → shown t k ≡ o → cond b (option_map (set_held v) o) o ≡ Some (l, w) → is_open t l ≡ true
      listed k l w true None e is = absurd (cc)
      listed k l w true (Some p) e is = subst (λ n. is_open t n ≡ true) (list_is is) (h.within k p.0 p.1 e)
      listed k l w false o e is = h.within k l w (e ∙ is)
