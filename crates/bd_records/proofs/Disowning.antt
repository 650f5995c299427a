-- The references go that an owner has to its own object.
use Rattle.bd_records.proofs.Words.{Asked, Bool, Carried, Count, CountsAre, Handshake, Holder, Identity, List, Manager, NameRow, None, Object, ObjectRow, Option, Reference, Some, Target, [], ap, arith, carried_of, cond, count_by, disowned, false, filter, is_asked_by, is_asking, is_carried_to}
use Rattle.bd_records.proofs.Words.{is_carrying, is_handshake, is_managers, is_managing, is_of_owner, is_shaking, is_to, length, managed_of, no_count, not, of_strength, option_map, owed_of, refl, same, same_eq, same_self, same_turned, subst, sum_by-cons, sym, total_of, true, ℕ, ◌&&◌, ◌+◌, ◌||◌, ◌∙◌}
use Rattle.bd_records.proofs.Words.{◌∷◌, ◌≡◌, ◌≤◌}
use Rattle.bd_records.proofs.Tallies.{none_of_either}

-- ---- counts and lists without what passes a test

module _ (f q : Reference → Bool) where
  abbrev pub rest : List Reference → List Reference
  rest l = filter (λ x. not (q x)) l

  pub count_rest : ((x : Reference) → f x ≡ true → q x ≡ false) → (l : List Reference) → count_by f (rest l) ≡ count_by f l
  count_rest off [] = refl
  count_rest off (x ∷ l) = grind (arith, count_rest off l, off x, sum_by-cons (λ z. cond (f z) 1 0) x l, sum_by-cons (λ z. cond (f z) 1 0) x (rest l))

  pub none_in_rest : ((x : Reference) → f x ≡ true → q x ≡ true) → (l : List Reference) → count_by f (rest l) ≡ 0
  none_in_rest on [] = refl
  none_in_rest on (x ∷ l) = grind (arith, none_in_rest on l, on x, sum_by-cons (λ z. cond (f z) 1 0) x (rest l))

  pub kept_in_rest : ((x : Reference) → f x ≡ true → q x ≡ false) → (l : List Reference) → filter f (rest l) ≡ filter f l
  kept_in_rest off [] = refl
  kept_in_rest off (x ∷ l) = grind (arith, kept_in_rest off l, off x)

  pub rest_shorter : (l : List Reference) → length (rest l) ≤ length l
  rest_shorter [] = omega arith
  rest_shorter (x ∷ l) = grind (arith, rest_shorter l)

-- those that stay, and those that go
pub count_parts : (f q g : Reference → Bool) → ((x : Reference) → g x ≡ (f x && q x)) → (l : List Reference) → count_by f l ≡ count_by f (rest f q l) + count_by g l
count_parts f q g both [] = refl
count_parts f q g both (x ∷ l) = grind (arith, count_parts f q g both l, both x, sum_by-cons (λ z. cond (f z) 1 0) x l, sum_by-cons (λ z. cond (f z) 1 0) x (rest f q l), sum_by-cons (λ z. cond (g z) 1 0) x l)

-- ---- what an owner has to its own object

abbrev pub own_to : Identity → Reference → Bool
own_to o r = same r.object o && is_of_owner r.holder

owner_is : (h : Holder) → is_of_owner h ≡ (is_handshake h || is_managers h)
owner_is (Asked q) = refl
owner_is (Carried c q) = refl
owner_is (Target c q) = refl
owner_is Handshake = refl
owner_is Manager = refl

one_owner : (h : Holder) → (is_handshake h && is_managers h) ≡ false
one_owner (Asked q) = refl
one_owner (Carried c q) = refl
one_owner (Target c q) = refl
one_owner Handshake = refl
one_owner Manager = refl

asked_not_own : (p : ℕ) (h : Holder) → is_asked_by p h ≡ true → is_of_owner h ≡ false
asked_not_own p (Asked q) e = refl
asked_not_own p (Carried c q) e = refl
asked_not_own p (Target c q) e = refl
asked_not_own p Handshake e = absurd cc
asked_not_own p Manager e = absurd cc

carried_not_own : (p : ℕ) (h : Holder) → is_carried_to p h ≡ true → is_of_owner h ≡ false
carried_not_own p (Asked q) e = refl
carried_not_own p (Carried c q) e = refl
carried_not_own p (Target c q) e = refl
carried_not_own p Handshake e = absurd cc
carried_not_own p Manager e = absurd cc

module _ (o : Identity) where
  abbrev pub others : List Reference → List Reference
  others l = filter (λ r. not (same r.object o && is_of_owner r.holder)) l

  -- all to it are those that stay and those that go
  pub total_parts : (s : Bool) (l : List Reference) → count_by (is_to o s) l ≡ count_by (is_to o s) (others l) + (count_by (is_shaking o s) l + count_by (is_managing o s) l)
  total_parts s [] = refl
  total_parts s (x ∷ l) = grind (arith, total_parts s l, owner_is x.holder, one_owner x.holder, sum_by-cons (λ z. cond (is_to o s z) 1 0) x l, sum_by-cons (λ z. cond (is_to o s z) 1 0) x (others l), sum_by-cons (λ z. cond (is_shaking o s z) 1 0) x l, sum_by-cons (λ z. cond (is_managing o s z) 1 0) x l)

  total_left : (s : Bool) (w : Option ObjectRow) (n a m k : ℕ) → of_strength s (total_of w) ≡ n → of_strength s (owed_of w) ≡ m → of_strength s (managed_of w) ≡ k → n ≡ a + (m + k) → of_strength s (total_of (option_map disowned w)) ≡ a
  total_left true None n a m k e f g h = grind (arith, e, f, g, h)
  total_left false None n a m k e f g h = grind (arith, e, f, g, h)
  total_left true (Some v) n a m k e f g h = grind (arith, e, f, g, h)
  total_left false (Some v) n a m k e f g h = grind (arith, e, f, g, h)

  own_none : (f : Option ObjectRow → Count) → f None ≡ no_count → ((v : ObjectRow) → f (Some (disowned v)) ≡ no_count) → (s : Bool) (w : Option ObjectRow) → of_strength s (f (option_map disowned w)) ≡ 0
  own_none f a b s None = ap (of_strength s) a ∙ none_of_either s
  own_none f a b s (Some v) = ap (of_strength s) (b v) ∙ none_of_either s

  module _ (O O' : Identity → Option ObjectRow) (N : ℕ → Identity → Option NameRow) (objects : List Object) (l : List Reference) (h : CountsAre O N objects l)
      (rows : (y : Identity) → O' y ≡ cond (same o y) (option_map disowned (O y)) (O y)) where
    -- its own
    own_row : O' o ≡ option_map disowned (O o)
    own_row = rows o ∙ at (same o o) refl
      where
        at : (b : Bool) → same o o ≡ b → cond b (option_map disowned (O o)) (O o) ≡ option_map disowned (O o)
        at true e = refl
        at false e = absurd (let k = same_self o in cc)

    own_total : (s : Bool) → of_strength s (total_of (O' o)) ≡ count_by (is_to o s) (others l)
    own_total s = ap (λ w. of_strength s (total_of w)) own_row ∙ total_left s (O o) _ _ _ _ (h.totals o s) (h.owed o s) (h.managed o s) (total_parts s l)

    own_owed : (s : Bool) → of_strength s (owed_of (O' o)) ≡ count_by (is_shaking o s) (others l)
    own_owed s = ap (λ w. of_strength s (owed_of w)) own_row ∙ own_none owed_of refl (λ v. refl) s (O o) ∙ sym (none_in_rest (is_shaking o s) (own_to o) (λ x k. (let e = owner_is x.holder in grind (arith, e, k))) l)

    own_managed : (s : Bool) → of_strength s (managed_of (O' o)) ≡ count_by (is_managing o s) (others l)
    own_managed s = ap (λ w. of_strength s (managed_of w)) own_row ∙ own_none managed_of refl (λ v. refl) s (O o) ∙ sym (none_in_rest (is_managing o s) (own_to o) (λ x k. (let e = owner_is x.holder in grind (arith, e, k))) l)

    -- another's
    far : (y x : Identity) → same o y ≡ false → same x y ≡ true → same x o ≡ false
    far y x e f = subst (λ z. same z o ≡ false) (sym (same_eq x y f)) (same_turned y o ∙ e)

    other_row : (y : Identity) → same o y ≡ false → O' y ≡ O y
    other_row y e = rows y ∙ ap (λ b. cond b (option_map disowned (O y)) (O y)) e

    pub disowned_counts : CountsAre O' N objects (others l)
    disowned_counts = record {
      totals = each total_of is_to (λ y s x k. grind (arith, k)) h.totals own_total;
      owed = each owed_of is_shaking (λ y s x k. grind (arith, k)) h.owed own_owed;
      managed = each managed_of is_managing (λ y s x k. grind (arith, k)) h.managed own_managed;
      asked = λ p y s. h.asked p y s ∙ sym (asking p y s);
      unasked = λ p y s own. asking p y s ∙ h.unasked p y s own;
      carried = λ p y s free. h.carried p y s free ∙ sym (carrying p y s);
      carried_few = λ p y s. subst (λ n. of_strength s (carried_of (N p y)) ≤ n) (sym (carrying p y s)) (h.carried_few p y s);
    }
      where
        asking : (p : ℕ) (y : Identity) (s : Bool) → count_by (is_asking p y s) (others l) ≡ count_by (is_asking p y s) l
        asking p y s = count_rest (is_asking p y s) (own_to o) (λ x k. (let a = asked_not_own p x.holder (grind (arith, k)) in grind (arith, a))) l

        carrying : (p : ℕ) (y : Identity) (s : Bool) → count_by (is_carrying p y s) (others l) ≡ count_by (is_carrying p y s) l
        carrying p y s = count_rest (is_carrying p y s) (own_to o) (λ x k. (let a = carried_not_own p x.holder (grind (arith, k)) in grind (arith, a))) l

        each : (f : Option ObjectRow → Count) (test : Identity → Bool → Reference → Bool) → ((y : Identity) (s : Bool) (x : Reference) → test y s x ≡ true → same x.object y ≡ true)
            → ((y : Identity) (s : Bool) → of_strength s (f (O y)) ≡ count_by (test y s) l) → ((s : Bool) → of_strength s (f (O' o)) ≡ count_by (test o s) (others l))
            → (y : Identity) (s : Bool) → of_strength s (f (O' y)) ≡ count_by (test y s) (others l)
        each f test to had own y s = at (same o y) refl
          where
            at : (b : Bool) → same o y ≡ b → of_strength s (f (O' y)) ≡ count_by (test y s) (others l)
            at true e = subst (λ z. of_strength s (f (O' z)) ≡ count_by (test z s) (others l)) (same_eq o y e) (own s)
            at false e =
                ap (λ w. of_strength s (f w)) (other_row y e) ∙ had y s
                ∙ sym (count_rest (test y s) (own_to o) (λ x k. (let a = far y x.object e (to y s x k) in grind (arith, a))) l)
