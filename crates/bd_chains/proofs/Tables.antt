-- A table after a value came or went, and after a list went.
use Rattle.std.proofs.Common.{◌≡◌, ℕ, ◌+◌, ◌-◌, ◌<◌, ◌==◌, ◌||◌, Bool, true, false, cond, List, [], ◌∷◌, ◌++◌, Option, Some, None, is_some, refl, sym, ap, ◌∙◌, subst, arith, length-append}
use Rattle.std.proofs.lemmas.Bool.{eqb-true, false≢true, eq-eqb}
use Rattle.std.specs.Prelude.{option_map}
use Rattle.slab.specs.Slab.{Slab, get, slab_len, Updates}
use Rattle.bd_chains.specs.{declared.links.Held.{Held}, declared.links.Item.{Item}, declared.links.Ends.{Ends}, declared.chains.Chains.{Chains}}
use Rattle.bd_chains.specs.{Chain.{is_at, same_end, has, has_end, without, Linked}, Rows.{Row, keys, ring, row_at, drop_key, hits}}
use Rattle.bd_chains.specs.Columns.{ends_of, ends_at, next_of, prev_of, next_at, prev_at, shown, count_at, is_open, is_there, Holds}
use Rattle.bd_chains.proofs.Order.{last_in, prev_in, next_in, prev_other, next_other, without_none, distinct_more, distinct_less, linked_same, linked_more, linked_less}
use Rattle.bd_chains.proofs.Rowing.{ring_more, ring_less, keys_more, keys_less, at_more, at_less, counted_more, counted_less, on_keys, on_ring, one_ring, apart_ring, off_keys, off_ring, drop_none, counted_within, length_less, none_counted}

-- what each slot has after one was changed
pub updated : {A : Type 0} (s u : Slab A) (x : ℕ) (o : Option A) → Updates s u x o → (m : ℕ) → get u m ≡ cond (x == m) o (get s m)
updated s u x o h m = at (x == m) refl
  where
    at : (b : Bool) → (x == m) ≡ b → get u m ≡ cond b o (get s m)
    at true e = ap (get u) (sym (eqb-true x m e)) ∙ h.changed
    at false e = h.others m (λ k. false≢true (sym e ∙ eq-eqb x m (sym k)))

-- a write of a list's link is of the same list's where the ends are the same, and of no other list's
hits_own : (l : ℕ) (a o : Option ℕ) → hits l a l o ≡ same_end o a
hits_own l None None = grind arith
hits_own l None (Some y) = refl
hits_own l (Some x) None = refl
hits_own l (Some x) (Some y) = grind arith

hits_none : (l m : ℕ) (a o : Option ℕ) (ys : List ℕ) → (l == m) ≡ false → (same_end None o || has_end o ys) ≡ true → has_end a ys ≡ false → hits l a m o ≡ false
hits_none l m None None ys differ on off = differ
hits_none l m None (Some y) ys differ on off = refl
hits_none l m (Some x) None ys differ on off = refl
hits_none l m (Some x) (Some y) ys differ on off = grind arith

module _ {T : Type 0} where
  -- nothing else is said of the slots, nor of the lists
  pub kept_holds : (t u : Chains T) (rs : List (Row T)) → Holds t rs → ((k : ℕ) → get u.items k ≡ get t.items k) → slab_len u.items ≡ slab_len t.items
      → ((m : ℕ) → ends_at u m ≡ ends_at t m) → ((k m : ℕ) (v : Held T) → shown t k ≡ Some (m, v) → is_open t m ≡ true → is_open u m ≡ true) → Holds u rs
  kept_holds t u rs h items len ends still = record {
    apart = h.apart;
    shown_are = λ k. shows k ∙ h.shown_are k;
    linked = λ m. linked_same (next_at t m) (prev_at t m) (next_at u m) (prev_at u m) None (ring m rs) (h.linked m) (ap (λ (e : Ends). e.first) (ends m)) (ap (λ (e : Ends). e.last) (ends m)) (λ z on. (ap next_of (items z), ap prev_of (items z)));
    counts = λ m. ap (λ (e : Ends). e.counted) (ends m) ∙ h.counts m;
    within = λ k m v is. still k m v (sym (shows k) ∙ is) (h.within k m v (sym (shows k) ∙ is));
    len = len ∙ h.len;
  }
    where
      shows : (k : ℕ) → shown u k ≡ shown t k
      shows k = ap (option_map (λ (i : Item T). (i.list, i.held))) (items k)

  -- a list more, on which nothing is
  pub open_holds : (t u : Chains T) (list : ℕ) (rs : List (Row T)) → Holds t rs → u.items ≡ t.items → get t.ends list ≡ None
      → ((m : ℕ) → get u.ends m ≡ cond (list == m) (Some (ends_of None)) (get t.ends m)) → Holds u rs
  open_holds t u list rs h items none ends = kept_holds t u rs h (λ k. grind arith) (grind arith) (λ m. grind (arith, ends m)) (λ k m v is on. grind (arith, ends m))

  -- a list on which nothing is goes: nothing is said of it that wasn't said before
  pub close_holds : (t u : Chains T) (list : ℕ) (rs : List (Row T)) → Holds t rs → ring list rs ≡ [] → u.items ≡ t.items
      → ((m : ℕ) → get u.ends m ≡ cond (list == m) None (get t.ends m)) → Holds u rs
  close_holds t u list rs h empty items ends =
      kept_holds t u rs h (λ k. grind arith) (grind arith) (λ m. ap ends_of (ends m) ∙ same m (list == m) refl)
      (λ k m v is on. grind (arith, ends m, own m, on_ring m k v rs (sym (h.shown_are k) ∙ is)))
    where
      own : (m : ℕ) → (list == m) ≡ true → ring m rs ≡ []
      own m e = ap (λ l. ring l rs) (sym (eqb-true list m e)) ∙ empty

      same : (m : ℕ) (b : Bool) → (list == m) ≡ b → ends_of (cond b None (get t.ends m)) ≡ ends_at t m
      same m true e =
          let none = subst (Linked (next_at t m) (prev_at t m) None) (own m e) (h.linked m) in
          sym (λ i. record { first = none.0 i; last = none.1 i; counted = (h.counts m ∙ none_counted m rs (own m e)) i })
      same m false e = refl

  -- the table before a change, t, after the slot's, a, and after its neighbours', e
  module _ (t a e : Chains T) (rs : List (Row T)) (h : Holds t rs) (x l : ℕ) (w : Held T) (count : ℕ)
      (ends : a.ends ≡ t.ends) (eopen : (m : ℕ) → is_open e m ≡ is_open a m) (elen : slab_len e.items ≡ slab_len a.items) (eshown : (k : ℕ) → shown e k ≡ shown a k)
      (ecounts : is_open a l ≡ true → (m : ℕ) → count_at e m ≡ cond (l == m) count (count_at a m)) where
    aopen : (m : ℕ) → is_open a m ≡ is_open t m
    aopen m = ap (λ (s : Slab Ends). is_some (get s m)) ends

    acount : (m : ℕ) → count_at a m ≡ count_at t m
    acount m = ap (λ (s : Slab Ends). (ends_of (get s m)).counted) ends

    -- what stands on one list is on no other
    one_end : (m : ℕ) (o : Option ℕ) → (l == m) ≡ false → (same_end None o || has_end o (ring l rs)) ≡ true → has_end o (ring m rs) ≡ false
    one_end m None far on = refl
    one_end m (Some z) far on = one_ring l m z rs h.apart on far

    -- along another list the links lead as before
    other : (m : ℕ) (p n to from was : Option ℕ) → (l == m) ≡ false → has x (ring m rs) ≡ false
        → (same_end None p || has_end p (ring l rs)) ≡ true → (same_end None n || has_end n (ring l rs)) ≡ true
        → ((o : Option ℕ) → next_at e m o ≡ cond (hits l p m o) to (cond (is_at x o) None (next_at t m o)))
        → ((o : Option ℕ) → prev_at e m o ≡ cond (hits l n m o) from (cond (is_at x o) was (prev_at t m o)))
        → Linked (next_at e m) (prev_at e m) None (ring m rs)
    other m p n to from was far off prev_on next_on nexts prevs =
        linked_same (next_at t m) (prev_at t m) (next_at e m) (prev_at e m) None (ring m rs) (h.linked m)
        (rw (hits_none l m p None (ring m rs) far refl (one_end m p far prev_on)) at (nexts None)) (rw (hits_none l m n None (ring m rs) far refl (one_end m n far next_on)) at (prevs None))
        (λ z on. (
          grind (arith, nexts (Some z), hits_none l m p (Some z) (ring m rs) far on (one_end m p far prev_on)),
          grind (arith, prevs (Some z), hits_none l m n (Some z) (ring m rs) far on (one_end m n far next_on)),
        ))

    module _ (last : Option ℕ) (within : is_open t l ≡ true) (lasts : last ≡ prev_at t l None) (fresh : shown t x ≡ None)
        (counts : count_at t l < 18446744073709551615 → count ≡ cond w.counted (count_at t l + 1) (count_at t l)) (more : slab_len a.items ≡ slab_len t.items + 1) (fits : slab_len a.items < 18446744073709551616)
        (ashown : (k : ℕ) → shown a k ≡ cond (x == k) (Some (l, w)) (shown t k))
        (anexts : (m : ℕ) (o : Option ℕ) → next_at a m o ≡ cond (is_at x o) None (next_at t m o))
        (aprevs : (m : ℕ) (o : Option ℕ) → prev_at a m o ≡ cond (is_at x o) last (prev_at t m o))
        (enexts : is_open a l ≡ true → is_there a last ≡ true → (m : ℕ) (o : Option ℕ) → next_at e m o ≡ cond (hits l last m o) (Some x) (next_at a m o))
        (eprevs : is_open a l ≡ true → is_there a None ≡ true → (m : ℕ) (o : Option ℕ) → prev_at e m o ≡ cond (hits l None m o) (Some x) (prev_at a m o)) where
      off : has x (keys rs) ≡ false
      off = off_keys x rs (sym (h.shown_are x) ∙ fresh)

      last_on : (same_end None last || has_end last (ring l rs)) ≡ true
      last_on = rw lasts (last_in (next_at t l) (prev_at t l) None (ring l rs) (h.linked l))

      known : (o : Option ℕ) → (same_end None o || has_end o (ring l rs)) ≡ true → is_there a o ≡ true
      known None on = refl
      known (Some z) on = grind (arith, ashown z, h.shown_are z, on_keys l z rs)

      nexts : (m : ℕ) (o : Option ℕ) → next_at e m o ≡ cond (hits l last m o) (Some x) (cond (is_at x o) None (next_at t m o))
      nexts m o = enexts (aopen l ∙ within) (known last last_on) m o ∙ ap (λ n. cond (hits l last m o) (Some x) n) (anexts m o)

      prevs : (m : ℕ) (o : Option ℕ) → prev_at e m o ≡ cond (hits l None m o) (Some x) (cond (is_at x o) last (prev_at t m o))
      prevs m o = eprevs (aopen l ∙ within) refl m o ∙ ap (λ n. cond (hits l None m o) (Some x) n) (aprevs m o)

      links : (m : ℕ) (b : Bool) → (l == m) ≡ b → Linked (next_at e m) (prev_at e m) None (cond b (ring m rs ++ x ∷ []) (ring m rs))
      links m true is =
          subst (λ n. Linked (next_at e n) (prev_at e n) None (ring n rs ++ x ∷ [])) (eqb-true l m is)
          (linked_more (next_at t l) (prev_at t l) (next_at e l) (prev_at e l) x last lasts
          (λ o. rw hits_own at (nexts l o)) (λ o. rw hits_own at (prevs l o))
          None (ring l rs) (h.linked l) (apart_ring l rs h.apart) refl (off_ring l x rs off) refl)
      links m false is = other m last None (Some x) (Some x) last is (off_ring m x rs off) last_on refl (nexts m) (prevs m)

      pub push_holds : Holds e (rs ++ record { key = x; list = l; held = w } ∷ [])
      push_holds =
          let r : Row T = record { key = x; list = l; held = w } in
          let was = h.len in
          let few : count_at t l < 18446744073709551615 = omega (arith, h.counts l, counted_within l rs, fits, more, was) in
          record {
            apart = rw (keys_more rs r) (distinct_more x (keys rs) h.apart off);
            shown_are = λ k. grind (arith, eshown k, ashown k, h.shown_are k, at_more k rs r (sym (h.shown_are x) ∙ fresh));
            linked = λ m. subst (Linked (next_at e m) (prev_at e m) None) (sym (ring_more m rs r)) (links m (l == m) refl);
            counts = λ m. grind (arith, ecounts (aopen l ∙ within) m, acount m, counts few, h.counts m, counted_more m rs r);
            within = λ k m v is. grind (arith, eopen m, aopen m, ashown k, eshown k, h.within k m v);
            len = let n = length-append rs (r ∷ []) in omega (arith, n, elen, more, was);
          }

    module _ (i : Item T) (is : get t.items x ≡ Some i) (on : i.list ≡ l) (holds : i.held ≡ w)
        (counts : count ≡ cond w.counted (count_at t l - 1) (count_at t l)) (less : slab_len a.items + 1 ≡ slab_len t.items)
        (ashown : (k : ℕ) → shown a k ≡ cond (x == k) None (shown t k))
        (anexts : (m : ℕ) (o : Option ℕ) → next_at a m o ≡ cond (is_at x o) None (next_at t m o))
        (aprevs : (m : ℕ) (o : Option ℕ) → prev_at a m o ≡ cond (is_at x o) None (prev_at t m o))
        (enexts : is_open a l ≡ true → is_there a i.prev ≡ true → (m : ℕ) (o : Option ℕ) → next_at e m o ≡ cond (hits l i.prev m o) i.next (next_at a m o))
        (eprevs : is_open a l ≡ true → is_there a i.next ≡ true → (m : ℕ) (o : Option ℕ) → prev_at e m o ≡ cond (hits l i.next m o) i.prev (prev_at a m o)) where
      was : shown t x ≡ Some (l, w)
      was = ap (option_map (λ (j : Item T). (j.list, j.held))) is ∙ ap (λ (n : ℕ). Some (n, i.held)) on ∙ ap (λ (v : Held T). Some (l, v)) holds

      there : has x (ring l rs) ≡ true
      there = on_ring l x w rs (sym (h.shown_are x) ∙ was)

      open_to : is_open a l ≡ true
      open_to = aopen l ∙ h.within x l w was

      prev_is : i.prev ≡ prev_at t l (Some x)
      prev_is = sym (ap prev_of is)

      next_is : i.next ≡ next_at t l (Some x)
      next_is = sym (ap next_of is)

      prev_on : (same_end None i.prev || has_end i.prev (ring l rs)) ≡ true
      prev_on = rw prev_is (prev_in (next_at t l) (prev_at t l) x None (ring l rs) (h.linked l) there)

      next_on : (same_end None i.next || has_end i.next (ring l rs)) ≡ true
      next_on = rw next_is (next_in (next_at t l) (prev_at t l) x None (ring l rs) (h.linked l) there)

      known_but : (o : Option ℕ) → (same_end None o || has_end o (ring l rs)) ≡ true → is_at x o ≡ false → is_there a o ≡ true
      known_but None near far = refl
      known_but (Some z) near far = grind (arith, ashown z, h.shown_are z, on_keys l z rs)

      nexts_less : (m : ℕ) (o : Option ℕ) → next_at e m o ≡ cond (hits l i.prev m o) i.next (cond (is_at x o) None (next_at t m o))
      nexts_less m o =
          enexts open_to (known_but i.prev prev_on (ap (is_at x) prev_is ∙ prev_other (next_at t l) (prev_at t l) x None (ring l rs) (h.linked l) (apart_ring l rs h.apart) refl there)) m o
          ∙ ap (λ n. cond (hits l i.prev m o) i.next n) (anexts m o)

      prevs_less : (m : ℕ) (o : Option ℕ) → prev_at e m o ≡ cond (hits l i.next m o) i.prev (cond (is_at x o) None (prev_at t m o))
      prevs_less m o =
          eprevs open_to (known_but i.next next_on (ap (is_at x) next_is ∙ next_other (next_at t l) (prev_at t l) x None (ring l rs) (h.linked l) (apart_ring l rs h.apart) there)) m o
          ∙ ap (λ n. cond (hits l i.next m o) i.prev n) (aprevs m o)

      links_less : (m : ℕ) (b : Bool) → (l == m) ≡ b → Linked (next_at e m) (prev_at e m) None (without x (ring m rs))
      links_less m true same =
          subst (λ n. Linked (next_at e n) (prev_at e n) None (without x (ring n rs))) (eqb-true l m same)
          (linked_less (next_at t l) (prev_at t l) (next_at e l) (prev_at e l) x i.prev i.next prev_is next_is
          (λ o. rw hits_own at (nexts_less l o)) (λ o. rw hits_own at (prevs_less l o))
          None (ring l rs) (h.linked l) (apart_ring l rs h.apart) refl there)
      links_less m false far =
          let gone = one_ring l m x rs h.apart there far in
          subst (Linked (next_at e m) (prev_at e m) None) (sym (without_none x (ring m rs) gone)) (other m i.prev i.next i.next i.prev None far gone prev_on next_on (nexts_less m) (prevs_less m))

      pub remove_holds : Holds e (drop_key x rs)
      remove_holds =
          let at_x = sym (h.shown_are x) ∙ was in
          record {
            apart = rw (keys_less x rs) (distinct_less x (keys rs) h.apart);
            shown_are = λ k. grind (arith, eshown k, ashown k, h.shown_are k, at_less k x rs);
            linked = λ m. subst (Linked (next_at e m) (prev_at e m) None) (sym (ring_less m x rs)) (links_less m (l == m) refl);
            counts = λ m. grind (arith, ecounts open_to m, acount m, h.counts m, counted_less m x l w rs h.apart at_x);
            within = λ k m v q. grind (arith, eopen m, aopen m, ashown k, eshown k, h.within k m v);
            len = let n = length_less x l w rs h.apart at_x in let q = h.len in omega (arith, n, elen, less, q);
          }

  -- there was nothing in the slot
  pub absent_holds : (t u : Chains T) (rs : List (Row T)) (x : ℕ) → Holds t rs → get t.items x ≡ None → u ≡ t → Holds u (drop_key x rs)
  absent_holds t u rs x h is same =
      let new : row_at x rs ≡ None = sym (h.shown_are x) ∙ ap (option_map (λ (j : Item T). (j.list, j.held))) is in
      rw (same, drop_none x rs (off_keys x rs new)) h
