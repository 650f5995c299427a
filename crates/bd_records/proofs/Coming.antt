-- Objects that come and go.
use Rattle.bd_records.proofs.Words.{Bool, Count, CountsAre, Identity, List, NameRow, None, Object, ObjectRow, Option, Reference, Some, [], ap, arith, carried_of, cond, count_by, false, filter, held_in, is_asking, is_carrying, is_managing, is_owner, is_shaking, is_to, managed_of, no_count, not}
use Rattle.bd_records.proofs.Words.{object_in, of_strength, option_map, or_parts, owed_of, owned_in, refl, same, same_eq, subst, sum_by-cons, sym, total_of, true, ℕ, ◌&&◌, ◌++◌, ◌==◌, ◌||◌, ◌∙◌, ◌∷◌, ◌≡◌, ◌≤◌}
use Rattle.bd_records.proofs.{Asked.{none_count}, Tallies.{none_of_either, without}}

abbrev pub object_of : ObjectRow → Object
object_of w = w.object

-- both are the same as a third
pub both_same : (a b c : Identity) → same a c ≡ true → same b c ≡ true → same a b ≡ true
both_same a b c h k = subst (λ y. same a y ≡ true) (sym (same_eq b c k)) h

-- what is the same as one is the same as another of it
pub both_from : (a b c : Identity) → same a b ≡ true → same a c ≡ true → same b c ≡ true
both_from a b c h k = subst (λ y. same y c ≡ true) (same_eq a b h) k

-- ---- one comes

pub object_more : (objects : List Object) (x : Object) → object_in objects x.id ≡ None → (o : Identity) → object_in (objects ++ x ∷ []) o ≡ cond (same x.id o) (Some x) (object_in objects o)
object_more [] x new o = refl
object_more (y ∷ ys) x new o = grind (arith, object_more ys x, new, both_same y.id x.id o)

pub owned_more : (objects : List Object) (x : Object) (p : ℕ) (o : Identity) → owned_in (objects ++ x ∷ []) p o ≡ (owned_in objects p o || (same x.id o && (x.owner == p)))
owned_more [] x p o = grind arith
owned_more (y ∷ ys) x p o = grind (arith, owned_more ys x p o)

-- ---- one goes

pub object_less : (objects : List Object) (o y : Identity) → object_in (filter (λ x. not (same x.id o)) objects) y ≡ cond (same o y) None (object_in objects y)
object_less [] o y = grind arith
object_less (x ∷ xs) o y = grind (arith, object_less xs o y, both_same x.id o y, both_from x.id o y)

pub owned_less : (objects : List Object) (o : Identity) (p : ℕ) (y : Identity) → owned_in (filter (λ x. not (same x.id o)) objects) p y ≡ cond (same o y) false (owned_in objects p y)
owned_less [] o p y = grind arith
owned_less (x ∷ xs) o p y = grind (arith, owned_less xs o p y, both_same x.id o y, both_from x.id o y)

no_object : (w : Option ObjectRow) → None ≡ option_map object_of w → w ≡ None
no_object None h = refl
no_object (Some v) h = absurd cc

-- of fewer there is none either
none_below : (f g : Reference → Bool) → ((x : Reference) → f x ≡ true → g x ≡ true) → (l : List Reference) → count_by g l ≡ 0 → count_by f l ≡ 0
none_below f g so [] e = refl
none_below f g so (x ∷ l) e = grind (arith, e, none_below f g so l, so x, sum_by-cons (λ z. cond (f z) 1 0) x l, sum_by-cons (λ z. cond (g z) 1 0) x l)

-- ---- the relation

module _ (O O' : Identity → Option ObjectRow) (N : ℕ → Identity → Option NameRow) (objects : List Object) (l : List Reference) (h : CountsAre O N objects l)
    (are : (o : Identity) → object_in objects o ≡ option_map object_of (O o)) (owners : (p : ℕ) (o : Identity) → owned_in objects p o ≡ is_owner p (O o)) where
  module _ (x : Object) (new : object_in objects x.id ≡ None) (row : ObjectRow) (is : row ≡ record { object = x; total = no_count; owed = no_count; managed = no_count })
      (rows : (o : Identity) → O' o ≡ cond (same x.id o) (Some row) (O o)) where
    absent : O x.id ≡ None
    absent = no_object (O x.id) (sym new ∙ are x.id)

    none_at : (o : Identity) → same x.id o ≡ true → O o ≡ None
    none_at o e = subst (λ y. O y ≡ None) (same_eq x.id o e) absent

    pub came_objects : (o : Identity) → object_in (objects ++ x ∷ []) o ≡ option_map object_of (O' o)
    came_objects o = object_more objects x new o ∙ at (same x.id o) refl
      where
        at : (b : Bool) → same x.id o ≡ b → cond b (Some x) (object_in objects o) ≡ option_map object_of (O' o)
        at true e = grind (arith, rows o, e, is)
        at false e = grind (arith, rows o, e, are o)

    pub came_owners : (p : ℕ) (o : Identity) → owned_in (objects ++ x ∷ []) p o ≡ is_owner p (O' o)
    came_owners p o = owned_more objects x p o ∙ at (same x.id o) refl
      where
        at : (b : Bool) → same x.id o ≡ b → (owned_in objects p o || (b && (x.owner == p))) ≡ is_owner p (O' o)
        at true e = grind (arith, rows o, e, is, owners p o, none_at o e)
        at false e = grind (arith, rows o, e, owners p o)

    pub came_counts : CountsAre O' N (objects ++ x ∷ []) l
    came_counts = record {
      totals = λ o s. kept total_of refl refl o s ∙ h.totals o s;
      owed = λ o s. kept owed_of refl refl o s ∙ h.owed o s;
      managed = λ o s. kept managed_of refl refl o s ∙ h.managed o s;
      asked = h.asked;
      unasked = λ p o s own. none_asked p o s (owned_in objects p o) refl (sym (owned_more objects x p o) ∙ own);
      carried = λ p o s free. h.carried p o s ((or_parts (owned_in objects p o) (same x.id o && (x.owner == p)) (sym (owned_more objects x p o) ∙ free)).0);
      carried_few = h.carried_few;
    }
      where
        -- nothing refers to what isn't there yet
        none_asked : (p : ℕ) (o : Identity) (s b : Bool) → owned_in objects p o ≡ b → (b || (same x.id o && (x.owner == p))) ≡ true → count_by (is_asking p o s) l ≡ 0
        none_asked p o s true e own = h.unasked p o s e
        none_asked p o s false e own =
            let on : same x.id o ≡ true = grind (arith, own) in
            none_below (is_asking p o s) (is_to o s) (λ y k. grind (arith, k)) l (sym (h.totals o s) ∙ ap (λ w. of_strength s (total_of w)) (none_at o on) ∙ none_of_either s)

        kept : (f : Option ObjectRow → Count) → f None ≡ no_count → f (Some (record { object = x; total = no_count; owed = no_count; managed = no_count })) ≡ no_count → (o : Identity) (s : Bool) → of_strength s (f (O' o)) ≡ of_strength s (f (O o))
        kept f a b o s = ap (of_strength s) (at (same x.id o) refl)
          where
            at : (d : Bool) → same x.id o ≡ d → f (O' o) ≡ f (O o)
            at false e = ap f (rows o ∙ ap (λ b. cond b (Some row) (O o)) e)
            at true e = ap f (rows o ∙ ap (λ b. cond b (Some row) (O o)) e ∙ ap (λ v. Some v) is) ∙ b ∙ sym a ∙ ap f (sym (none_at o e))

  module _ (o : Identity) (unheld : held_in l o ≡ false) (rows : (y : Identity) → O' y ≡ cond (same o y) None (O y)) where
    pub went_objects : (y : Identity) → object_in (filter (λ x. not (same x.id o)) objects) y ≡ option_map object_of (O' y)
    went_objects y = object_less objects o y ∙ at (same o y) refl
      where
        at : (b : Bool) → same o y ≡ b → cond b None (object_in objects y) ≡ option_map object_of (O' y)
        at true e = grind (arith, rows y, e)
        at false e = grind (arith, rows y, e, are y)

    pub went_owners : (p : ℕ) (y : Identity) → owned_in (filter (λ x. not (same x.id o)) objects) p y ≡ is_owner p (O' y)
    went_owners p y = owned_less objects o p y ∙ at (same o y) refl
      where
        at : (b : Bool) → same o y ≡ b → cond b false (owned_in objects p y) ≡ is_owner p (O' y)
        at true e = grind (arith, rows y, e)
        at false e = grind (arith, rows y, e, owners p y)

    -- nothing refers to it
    nothing_to : (y : Identity) → same o y ≡ true → (f : Reference → Bool) → ((x : Reference) → f x ≡ true → same x.object y ≡ true) → count_by f l ≡ 0
    nothing_to y e f to = none_count f (λ r. same r.object o) (λ x k. subst (λ z. same x.object z ≡ true) (sym (same_eq o y e)) (to x k)) l unheld

    zero_few : {n m : ℕ} → n ≤ m → m ≡ 0 → n ≡ m
    zero_few a b = omega (arith, a, b)

    pub went_counts : CountsAre O' N (filter (λ x. not (same x.id o)) objects) l
    went_counts = record {
      totals = λ y s. without total_of refl (same o y) (O y) (O' y) (rows y) s _ (λ e. nothing_to y e (is_to y s) (λ x k. grind (arith, k))) (h.totals y s);
      owed = λ y s. without owed_of refl (same o y) (O y) (O' y) (rows y) s _ (λ e. nothing_to y e (is_shaking y s) (λ x k. grind (arith, k))) (h.owed y s);
      managed = λ y s. without managed_of refl (same o y) (O y) (O' y) (rows y) s _ (λ e. nothing_to y e (is_managing y s) (λ x k. grind (arith, k))) (h.managed y s);
      asked = h.asked;
      unasked = λ p y s own. h.unasked p y s (still_owned p y (same o y) refl (sym (owned_less objects o p y) ∙ own));
      carried = λ p y s free. at_carried p y s (same o y) refl free;
      carried_few = h.carried_few;
    }
      where
        still_owned : (p : ℕ) (y : Identity) (b : Bool) → same o y ≡ b → cond b false (owned_in objects p y) ≡ true → owned_in objects p y ≡ true
        still_owned p y true e own = absurd cc
        still_owned p y false e own = own

        at_carried : (p : ℕ) (y : Identity) (s b : Bool) → same o y ≡ b → owned_in (filter (λ x. not (same x.id o)) objects) p y ≡ false → of_strength s (carried_of (N p y)) ≡ count_by (is_carrying p y s) l
        at_carried p y s true e free = zero_few (h.carried_few p y s) (nothing_to y e (is_carrying p y s) (λ x k. grind (arith, k)))
        at_carried p y s false e free = h.carried p y s (grind (arith, free, owned_less objects o p y, e))
