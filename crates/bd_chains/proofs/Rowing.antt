-- Rows of values: their keys, lists and counts, where one is added or taken out.
use Rattle.std.proofs.Common.{◌≡◌, ℕ, ◌+◌, ◌≤◌, ◌==◌, ◌&&◌, length, is_some, true, false, cond, List, [], ◌∷◌, ◌++◌, Some, None, refl, ap, arith}
use Rattle.bd_chains.specs.{declared.links.Held.{Held}, Chain.{has, distinct, without}}
use Rattle.bd_chains.specs.Rows.{Row, keys, ring, values_on, row_at, counted_on, drop_key}
use Rattle.std.specs.{Prelude.{option_map}, List.{slice_get}}

module _ {T : Type 0} where
  pub ring_more : (l : ℕ) (rs : List (Row T)) (r : Row T) → ring l (rs ++ r ∷ []) ≡ cond (r.list == l) (ring l rs ++ r.key ∷ []) (ring l rs)
  ring_more l [] r = grind arith
  ring_more l (q ∷ rs) r = grind (arith, ring_more l rs r)

  pub ring_less : (l x : ℕ) (rs : List (Row T)) → ring l (drop_key x rs) ≡ without x (ring l rs)
  ring_less l x [] = refl
  ring_less l x (q ∷ rs) = grind (arith, ring_less l x rs)

  pub keys_more : (rs : List (Row T)) (r : Row T) → keys (rs ++ r ∷ []) ≡ keys rs ++ r.key ∷ []
  keys_more [] r = refl
  keys_more (q ∷ rs) r = ap (λ ks. q.key ∷ ks) (keys_more rs r)

  pub keys_less : (x : ℕ) (rs : List (Row T)) → keys (drop_key x rs) ≡ without x (keys rs)
  keys_less x [] = refl
  keys_less x (q ∷ rs) = grind (arith, keys_less x rs)

  pub at_more : (k : ℕ) (rs : List (Row T)) (r : Row T) → row_at r.key rs ≡ None → row_at k (rs ++ r ∷ []) ≡ cond (r.key == k) (Some (r.list, r.held)) (row_at k rs)
  at_more k [] r new = refl
  at_more k (q ∷ rs) r new = grind (arith, at_more k rs r)

  pub at_less : (k x : ℕ) (rs : List (Row T)) → row_at k (drop_key x rs) ≡ cond (x == k) None (row_at k rs)
  at_less k x [] = grind arith
  at_less k x (q ∷ rs) = grind (arith, at_less k x rs)

  pub counted_more : (l : ℕ) (rs : List (Row T)) (r : Row T) → counted_on l (rs ++ r ∷ []) ≡ cond ((r.list == l) && r.held.counted) (counted_on l rs + 1) (counted_on l rs)
  counted_more l [] r = grind arith
  counted_more l (q ∷ rs) r = grind (arith, counted_more l rs r)

  -- a slot that shows nothing is no row's
  pub off_keys : (x : ℕ) (rs : List (Row T)) → row_at x rs ≡ None → has x (keys rs) ≡ false
  off_keys x [] h = refl
  off_keys x (q ∷ rs) h = grind (arith, off_keys x rs)

  pub off_ring : (l x : ℕ) (rs : List (Row T)) → has x (keys rs) ≡ false → has x (ring l rs) ≡ false
  off_ring l x [] h = refl
  off_ring l x (q ∷ rs) h = grind (arith, off_ring l x rs)

  pub on_ring : (l x : ℕ) (w : Held T) (rs : List (Row T)) → row_at x rs ≡ Some (l, w) → has x (ring l rs) ≡ true
  on_ring l x w [] h = grind arith
  on_ring l x w (q ∷ rs) h = grind (arith, on_ring l x w rs)

  -- each key is on one list alone
  pub one_ring : (l m x : ℕ) (rs : List (Row T)) → distinct (keys rs) ≡ true → has x (ring l rs) ≡ true → (l == m) ≡ false → has x (ring m rs) ≡ false
  one_ring l m x [] apart h differ = refl
  one_ring l m x (q ∷ rs) apart h differ = grind (arith, one_ring l m x rs, off_ring m x rs, off_ring l x rs)

  pub apart_ring : (l : ℕ) (rs : List (Row T)) → distinct (keys rs) ≡ true → distinct (ring l rs) ≡ true
  apart_ring l [] apart = refl
  apart_ring l (q ∷ rs) apart = grind (arith, apart_ring l rs, off_ring l q.key rs)

  pub drop_none : (x : ℕ) (rs : List (Row T)) → has x (keys rs) ≡ false → drop_key x rs ≡ rs
  drop_none x [] h = refl
  drop_none x (q ∷ rs) h = grind (arith, drop_none x rs)

  -- a list counts one less, if what was taken out of it was counted
  pub counted_less : (l x m : ℕ) (w : Held T) (rs : List (Row T)) → distinct (keys rs) ≡ true → row_at x rs ≡ Some (m, w)
      → counted_on l rs ≡ cond ((m == l) && w.counted) (counted_on l (drop_key x rs) + 1) (counted_on l (drop_key x rs))
  counted_less l x m w [] apart h = grind arith
  counted_less l x m w (q ∷ rs) apart h = grind (arith, counted_less l x m w rs, drop_none x rs)

  pub on_keys : (l x : ℕ) (rs : List (Row T)) → has x (ring l rs) ≡ true → is_some (row_at x rs) ≡ true
  on_keys l x [] h = grind arith
  on_keys l x (q ∷ rs) h = grind (arith, on_keys l x rs)

  pub counted_within : (l : ℕ) (rs : List (Row T)) → counted_on l rs ≤ length rs
  counted_within l [] = omega arith
  counted_within l (q ∷ rs) = grind (arith, counted_within l rs)

  pub length_less : (x l : ℕ) (w : Held T) (rs : List (Row T)) → distinct (keys rs) ≡ true → row_at x rs ≡ Some (l, w) → length (drop_key x rs) + 1 ≡ length rs
  length_less x l w [] apart h = grind arith
  length_less x l w (q ∷ rs) apart h = grind (arith, length_less x l w rs, drop_none x rs)

  -- on a list on which nothing is, none is counted
  pub none_counted : (l : ℕ) (rs : List (Row T)) → ring l rs ≡ [] → counted_on l rs ≡ 0
  none_counted l [] h = refl
  none_counted l (q ∷ rs) h = grind (arith, none_counted l rs)

  pub ring_within : (l : ℕ) (rs : List (Row T)) → length (ring l rs) ≤ length rs
  ring_within l [] = omega arith
  ring_within l (q ∷ rs) = grind (arith, ring_within l rs)

  -- ---- the first on a list

  pub first_some : (l : ℕ) (rs : List (Row T)) → is_some (slice_get (ring l rs) 0) ≡ is_some (slice_get (values_on l rs) 0)
  first_some l [] = refl
  first_some l (q ∷ rs) = grind (arith, first_some l rs)

  pub first_in : (l x : ℕ) (rs : List (Row T)) → slice_get (ring l rs) 0 ≡ Some x → has x (keys rs) ≡ true
  first_in l x [] h = grind arith
  first_in l x (q ∷ rs) h = grind (arith, first_in l x rs)

  pub first_value : (l x : ℕ) (rs : List (Row T)) → distinct (keys rs) ≡ true → slice_get (ring l rs) 0 ≡ Some x
      → slice_get (values_on l rs) 0 ≡ option_map (λ (v : ℕ × Held T). v.1.value) (row_at x rs)
  first_value l x [] apart h = grind arith
  first_value l x (q ∷ rs) apart h = grind (arith, first_value l x rs, first_in l x rs)
