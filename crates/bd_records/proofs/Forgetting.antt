-- All references go that a process asked for to one object.
use Rattle.bd_records.proofs.Words.{Asked, Bool, Carried, Count, CountsAre, Handshake, Holder, Identity, List, Manager, NameRow, None, Object, ObjectRow, Option, Reference, Some, Target, [], and_parts, ap, arith, asked_of, beq, buffer_of_holder, carried_of, cond, count_by, eq-eqb, eqb-true, false}
use Rattle.bd_records.proofs.Words.{filter, is_asked_by, is_asking, is_carried_to, is_carrying, is_handshake, is_held, is_managers, is_managing, is_owner, is_shaking, is_some, is_to, lowered, managed_of, not, of_strength, option_map, owed_of, owned_in, refl, same, same_eq, same_self, same_turned}
use Rattle.bd_records.proofs.Words.{subst, sum_by-cons, sym, total_of, true, unasked, ℕ, ◌&&◌, ◌+◌, ◌==◌, ◌∙◌, ◌∷◌, ◌≡◌, ◌≤◌}
use Rattle.bd_records.proofs.{Disowning.{count_parts, count_rest, none_in_rest}, Tallies.{none_of_either, row_kept}}

abbrev pub asked_to : ℕ → Identity → Reference → Bool
asked_to p o r = same r.object o && is_asked_by p r.holder

asked_only : (p q : ℕ) (h : Holder) → is_asked_by p h ≡ true → (is_some (buffer_of_holder h) ≡ false) × (is_handshake h ≡ false) × (is_managers h ≡ false) × (is_carried_to q h ≡ false)
asked_only p q (Asked d) e = (refl, refl, refl, refl)
asked_only p q (Carried c d) e = absurd cc
asked_only p q (Target c d) e = absurd cc
asked_only p q Handshake e = absurd cc
asked_only p q Manager e = absurd cc

not_true : (b : Bool) → (b ≡ true → ⊥) → b ≡ false
not_true true h = absurd (h refl)
not_true false h = refl

pub held_not_asked : (p : ℕ) (o : Identity) (x : Reference) → is_held x ≡ true → asked_to p o x ≡ false
held_not_asked p o x e = not_true _ (λ k. (let a = asked_only p 0 x.holder (grind (arith, k)) in grind (arith, a, e)))

shaking_not_asked : (p : ℕ) (o y : Identity) (s : Bool) (x : Reference) → is_shaking y s x ≡ true → asked_to p o x ≡ false
shaking_not_asked p o y s x e = not_true _ (λ k. (let a = asked_only p 0 x.holder (grind (arith, k)) in grind (arith, a, e)))

managing_not_asked : (p : ℕ) (o y : Identity) (s : Bool) (x : Reference) → is_managing y s x ≡ true → asked_to p o x ≡ false
managing_not_asked p o y s x e = not_true _ (λ k. (let a = asked_only p 0 x.holder (grind (arith, k)) in grind (arith, a, e)))

carrying_not_asked : (p q : ℕ) (o y : Identity) (s : Bool) (x : Reference) → is_carrying q y s x ≡ true → asked_to p o x ≡ false
carrying_not_asked p q o y s x e = not_true _ (λ k. (let a = asked_only p q x.holder (grind (arith, k)) in grind (arith, a, e)))

one_asker : (p q : ℕ) (h : Holder) → is_asked_by p h ≡ true → is_asked_by q h ≡ true → p ≡ q
one_asker p q (Asked d) a b = sym (eqb-true d p a) ∙ eqb-true d q b
one_asker p q (Carried c d) a b = absurd cc
one_asker p q (Target c d) a b = absurd cc
one_asker p q Handshake a b = absurd cc
one_asker p q Manager a b = absurd cc

module _ (p : ℕ) (o : Identity) where
  abbrev pub unasked_by : List Reference → List Reference
  unasked_by l = filter (λ r. not (same r.object o && is_asked_by p r.holder)) l

  -- of another process, or to another object
  asking_other : (q : ℕ) (y : Identity) (s : Bool) → ((p == q) && same o y) ≡ false → (x : Reference) → is_asking q y s x ≡ true → asked_to p o x ≡ false
  asking_other q y s off x e = at (asked_to p o x) refl
    where
      at : (b : Bool) → asked_to p o x ≡ b → b ≡ false
      at false k = refl
      at true k =
          let h = and_parts (same x.object o) (is_asked_by p x.holder) k in
          let to : same x.object y ≡ true = grind (arith, e) in
          let by : is_asked_by q x.holder ≡ true = grind (arith, e) in
          let pq : p ≡ q = one_asker p q x.holder h.1 by in
          let xo : x.object ≡ o = same_eq x.object o h.0 in
          let oy : same o y ≡ true = subst (λ z. same z y ≡ true) xo to in
          let a : (p == q) ≡ true = subst (λ z. (p == z) ≡ true) pq (eq-eqb p p refl) in
          absurd (grind (arith, off, oy, a))

  module _ (O O' : Identity → Option ObjectRow) (N N' : ℕ → Identity → Option NameRow) (objects : List Object) (l : List Reference) (h : CountsAre O N objects l)
      (rows : (y : Identity) → O' y ≡ cond (same o y) (option_map (lowered (asked_of (N p o))) (O y)) (O y))
      (names : (q : ℕ) (y : Identity) → N' q y ≡ cond ((p == q) && same o y) (option_map unasked (N q y)) (N q y)) where
    kept : {A : Type 0} (f : Option ObjectRow → A) → ((v : ObjectRow) → f (Some (lowered (asked_of (N p o)) v)) ≡ f (Some v)) → (y : Identity) → f (O' y) ≡ f (O y)
    kept f alike = row_kept f (lowered (asked_of (N p o))) alike o O O' rows

    pub lowered_objects : (y : Identity) → option_map (λ (v : ObjectRow). v.object) (O' y) ≡ option_map (λ (v : ObjectRow). v.object) (O y)
    lowered_objects = kept (option_map (λ (v : ObjectRow). v.object)) (λ v. refl)

    pub lowered_owners : (q : ℕ) (y : Identity) → is_owner q (O' y) ≡ is_owner q (O y)
    lowered_owners q = kept (is_owner q) (λ v. refl)

    carried_kept : (q : ℕ) (y : Identity) → carried_of (N' q y) ≡ carried_of (N q y)
    carried_kept q y = ap carried_of (names q y) ∙ at ((p == q) && same o y) (N q y)
      where
        at : (b : Bool) (w : Option NameRow) → carried_of (cond b (option_map unasked w) w) ≡ carried_of w
        at true None = refl
        at true (Some v) = refl
        at false w = refl

    -- its own
    parts : (s : Bool) → count_by (is_to o s) l ≡ count_by (is_to o s) (unasked_by l) + count_by (is_asking p o s) l
    parts s = count_parts (is_to o s) (asked_to p o) (is_asking p o s) (λ x. both (beq x.strong s) (same x.object o) (is_asked_by p x.holder)) l
      where
        both : (a b d : Bool) → (a && b && d) ≡ ((a && b) && (b && d))
        both true true d = refl
        both true false d = refl
        both false b d = refl

    left : (s : Bool) (w : Option ObjectRow) (k : Count) (n a m : ℕ) → of_strength s (total_of w) ≡ n → of_strength s k ≡ m → n ≡ a + m → of_strength s (total_of (option_map (lowered k) w)) ≡ a
    left true None k n a m e f g = grind (arith, e, f, g)
    left false None k n a m e f g = grind (arith, e, f, g)
    left true (Some v) k n a m e f g = grind (arith, e, f, g)
    left false (Some v) k n a m e f g = grind (arith, e, f, g)

    own_row : O' o ≡ option_map (lowered (asked_of (N p o))) (O o)
    own_row = rows o ∙ ap (λ b. cond b (option_map (lowered (asked_of (N p o))) (O o)) (O o)) (same_self o)

    own_total : (s : Bool) → of_strength s (total_of (O' o)) ≡ count_by (is_to o s) (unasked_by l)
    own_total s = ap (λ w. of_strength s (total_of w)) own_row ∙ left s (O o) (asked_of (N p o)) _ _ _ (h.totals o s) (h.asked p o s) (parts s)

    none_left : (s : Bool) (w : Option NameRow) → of_strength s (asked_of (option_map unasked w)) ≡ 0
    none_left s None = none_of_either s
    none_left s (Some v) = none_of_either s

    none_asked : (s : Bool) → count_by (is_asking p o s) (unasked_by l) ≡ 0
    none_asked s = none_in_rest (is_asking p o s) (asked_to p o) (λ x k. grind (arith, k)) l

    far : (y x : Identity) → same o y ≡ false → same x y ≡ true → same x o ≡ false
    far y x e f = subst (λ z. same z o ≡ false) (sym (same_eq x y f)) (same_turned y o ∙ e)

    pub forgotten_counts : CountsAre O' N' objects (unasked_by l)
    forgotten_counts = record {
      totals = λ y s. at_total y s (same o y) refl;
      owed = λ y s. ap (of_strength s) (kept owed_of (λ v. refl) y) ∙ h.owed y s ∙ sym (count_rest (is_shaking y s) (asked_to p o) (shaking_not_asked p o y s) l);
      managed = λ y s. ap (of_strength s) (kept managed_of (λ v. refl) y) ∙ h.managed y s ∙ sym (count_rest (is_managing y s) (asked_to p o) (managing_not_asked p o y s) l);
      asked = λ q y s. at_asked q y s ((p == q) && same o y) refl;
      unasked = λ q y s own. at_unasked q y s own ((p == q) && same o y) refl;
      carried = λ q y s free. ap (of_strength s) (carried_kept q y) ∙ h.carried q y s free ∙ sym (carrying q y s);
      carried_few = λ q y s. subst (λ n. of_strength s (carried_of (N' q y)) ≤ n) (sym (carrying q y s)) (subst (λ k. of_strength s k ≤ count_by (is_carrying q y s) l) (sym (carried_kept q y)) (h.carried_few q y s));
    }
      where
        carrying : (q : ℕ) (y : Identity) (s : Bool) → count_by (is_carrying q y s) (unasked_by l) ≡ count_by (is_carrying q y s) l
        carrying q y s = count_rest (is_carrying q y s) (asked_to p o) (carrying_not_asked p q o y s) l

        at_total : (y : Identity) (s b : Bool) → same o y ≡ b → of_strength s (total_of (O' y)) ≡ count_by (is_to y s) (unasked_by l)
        at_total y s true e = subst (λ z. of_strength s (total_of (O' z)) ≡ count_by (is_to z s) (unasked_by l)) (same_eq o y e) (own_total s)
        at_total y s false e =
            ap (λ w. of_strength s (total_of w)) (rows y ∙ ap (λ b. cond b (option_map (lowered (asked_of (N p o))) (O y)) (O y)) e) ∙ h.totals y s
            ∙ sym (count_rest (is_to y s) (asked_to p o) (λ x k. (let a = far y x.object e (grind (arith, k)) in grind (arith, a))) l)

        at_asked : (q : ℕ) (y : Identity) (s b : Bool) → ((p == q) && same o y) ≡ b → of_strength s (asked_of (N' q y)) ≡ count_by (is_asking q y s) (unasked_by l)
        at_asked q y s true e =
            let k = and_parts (p == q) (same o y) e in
            ap (λ w. of_strength s (asked_of w)) (names q y ∙ ap (λ b. cond b (option_map unasked (N q y)) (N q y)) e) ∙ none_left s (N q y)
            ∙ subst (λ z. 0 ≡ count_by (is_asking q z s) (unasked_by l)) (same_eq o y k.1) (subst (λ z. 0 ≡ count_by (is_asking z o s) (unasked_by l)) (eqb-true p q k.0) (sym (none_asked s)))
        at_asked q y s false e =
            ap (λ w. of_strength s (asked_of w)) (names q y ∙ ap (λ b. cond b (option_map unasked (N q y)) (N q y)) e) ∙ h.asked q y s
            ∙ sym (count_rest (is_asking q y s) (asked_to p o) (asking_other q y s e) l)

        at_unasked : (q : ℕ) (y : Identity) (s : Bool) → owned_in objects q y ≡ true → (b : Bool) → ((p == q) && same o y) ≡ b → count_by (is_asking q y s) (unasked_by l) ≡ 0
        at_unasked q y s own true e =
            let k = and_parts (p == q) (same o y) e in
            subst (λ z. count_by (is_asking q z s) (unasked_by l) ≡ 0) (same_eq o y k.1) (subst (λ z. count_by (is_asking z o s) (unasked_by l) ≡ 0) (eqb-true p q k.0) (none_asked s))
        at_unasked q y s own false e = count_rest (is_asking q y s) (asked_to p o) (asking_other q y s e) l ∙ h.unasked q y s own

-- where none is counted, none is there
pub nothing_asked : (p : ℕ) (o : Identity) (l : List Reference) → count_by (is_asking p o false) l ≡ 0 → count_by (is_asking p o true) l ≡ 0 → unasked_by p o l ≡ l
nothing_asked p o [] a b = refl
nothing_asked p o (x ∷ l) a b = grind (arith, nothing_asked p o l, a, b, sum_by-cons (λ z. cond (is_asking p o false z) 1 0) x l, sum_by-cons (λ z. cond (is_asking p o true z) 1 0) x l)
