-- A name comes or goes while nothing gives it.
use Rattle.bd_records.proofs.Words.{Asked, Bool, BuffersAre, Carried, Count, CountsAre, Handshake, Holder, Identity, List, Manager, NameRow, None, Object, ObjectRow, Option, OwnedAre, Records, RecordsAre, Reference, Some, Target, [], and_parts, ap, arith, asked_of, carried_of, cond, count_by}
use Rattle.bd_records.proofs.Words.{eqb-true, false, gives_name_to, is_asked_by, is_asking, is_carried_to, is_carrying, is_named_in, is_owner, length, list_any, name_at, new_row, no_count, of_strength, option_map, owned_in, refl, row_at, same, same_eq, subst, sum_by-cons, sym, true, ℕ, ◌&&◌, ◌==◌}
use Rattle.bd_records.proofs.Words.{◌∙◌, ◌∷◌, ◌≡◌, ◌≤◌}
use Rattle.bd_records.proofs.Tallies.{without, without_few}

module _ (O : Identity → Option ObjectRow) (N M : ℕ → Identity → Option NameRow) (p : ℕ) (o : Identity) (objects : List Object) (l : List Reference) (h : CountsAre O N objects l) where
  -- a name that no reference carries comes
  pub counts_named : N p o ≡ None → ((q : ℕ) (x : Identity) → M q x ≡ cond ((p == q) && same o x) (Some (new_row o)) (N q x)) → CountsAre O M objects l
  counts_named none rows = record {
    totals = h.totals;
    owed = h.owed;
    managed = h.managed;
    asked = λ q x s. ap (of_strength s) (blank asked_of refl refl q x) ∙ h.asked q x s;
    unasked = h.unasked;
    carried = λ q x s free. ap (of_strength s) (blank carried_of refl refl q x) ∙ h.carried q x s free;
    carried_few = λ q x s. subst (λ n. n ≤ count_by (is_carrying q x s) l) (sym (ap (of_strength s) (blank carried_of refl refl q x))) (h.carried_few q x s);
  }
    where
      blank : (f : Option NameRow → Count) → f None ≡ no_count → f (Some (new_row o)) ≡ no_count → (q : ℕ) (x : Identity) → f (M q x) ≡ f (N q x)
      blank f a b q x = at ((p == q) && same o x) refl
        where
          at : (d : Bool) → ((p == q) && same o x) ≡ d → f (M q x) ≡ f (N q x)
          at false e = ap f (rows q x ∙ ap (λ b. cond b (Some (new_row o)) (N q x)) e)
          at true e =
              let k = and_parts (p == q) (same o x) e in
              let there : N q x ≡ None = subst (λ y. N q y ≡ None) (same_eq o x k.1) (subst (λ y. N y o ≡ None) (eqb-true p q k.0) none) in
              ap f (rows q x ∙ ap (λ b. cond b (Some (new_row o)) (N q x)) e) ∙ b ∙ sym a ∙ ap f (sym there)

  -- a name goes that nothing gives, or that is of one's own object
  pub counts_unnamed : ((s : Bool) → owned_in objects p o ≡ false → (count_by (is_asking p o s) l ≡ 0) × (count_by (is_carrying p o s) l ≡ 0))
      → ((q : ℕ) (x : Identity) → M q x ≡ cond ((p == q) && same o x) None (N q x)) → CountsAre O M objects l
  counts_unnamed none rows = record {
    totals = h.totals;
    owed = h.owed;
    managed = h.managed;
    asked = λ q x s. without asked_of refl ((p == q) && same o x) (N q x) (M q x) (rows q x) s _
        (λ e. (let k = and_parts (p == q) (same o x) e in subst (λ y. count_by (is_asking q y s) l ≡ 0) (same_eq o x k.1) (subst (λ y. count_by (is_asking y o s) l ≡ 0) (eqb-true p q k.0) (none_asked s (owned_in objects p o) refl)))) (h.asked q x s);
    unasked = h.unasked;
    carried = λ q x s free. without carried_of refl ((p == q) && same o x) (N q x) (M q x) (rows q x) s _
        (λ e. (let k = and_parts (p == q) (same o x) e in
        let pq = eqb-true p q k.0 in
        let ox = same_eq o x k.1 in
        let own : owned_in objects p o ≡ false = subst (λ y. owned_in objects y o ≡ false) (sym pq) (subst (λ y. owned_in objects q y ≡ false) (sym ox) free) in
        subst (λ y. count_by (is_carrying q y s) l ≡ 0) ox (subst (λ y. count_by (is_carrying y o s) l ≡ 0) pq (none s own).1))) (h.carried q x s free);
    carried_few = λ q x s. without_few carried_of refl ((p == q) && same o x) (N q x) (M q x) (rows q x) s _ (h.carried_few q x s);
  }
    where
      none_asked : (s b : Bool) → owned_in objects p o ≡ b → count_by (is_asking p o s) l ≡ 0
      none_asked s true e = h.unasked p o s e
      none_asked s false e = (none s e).0

pub none_count : (q p : Reference → Bool) → ((x : Reference) → q x ≡ true → p x ≡ true) → (l : List Reference) → list_any p l ≡ false → count_by q l ≡ 0
none_count q p so [] e = refl
none_count q p so (x ∷ l) e = grind (arith, e, none_count q p so l, so x, sum_by-cons (λ z. cond (q z) 1 0) x l)

names_by : (p : ℕ) (h : Holder) → (is_asked_by p h ≡ true → gives_name_to p h ≡ true) × (is_carried_to p h ≡ true → gives_name_to p h ≡ true)
names_by p (Asked q) = (λ e. e, λ e. absurd cc)
names_by p (Carried c q) = (λ e. absurd cc, λ e. e)
names_by p (Target c q) = (λ e. absurd cc, λ e. absurd cc)
names_by p Handshake = (λ e. absurd cc, λ e. absurd cc)
names_by p Manager = (λ e. absurd cc, λ e. absurd cc)

-- where no reference gives the name, none counts for it
pub unnamed_counts : (objects : List Object) (l : List Reference) (p : ℕ) (o : Identity) → is_named_in objects l p o ≡ false → (s : Bool) → owned_in objects p o ≡ false
    → (count_by (is_asking p o s) l ≡ 0) × (count_by (is_carrying p o s) l ≡ 0)
unnamed_counts objects l p o none s free =
    let any : list_any (λ r. same r.object o && gives_name_to p r.holder) l ≡ false = grind (arith, none, free) in (
      none_count (is_asking p o s) (λ r. same r.object o && gives_name_to p r.holder) (λ x e. grind (arith, e, (names_by p x.holder).0)) l any,
      none_count (is_carrying p o s) (λ r. same r.object o && gives_name_to p r.holder) (λ x e. grind (arith, e, (names_by p x.holder).1)) l any,
    )

-- all names of a process go, none of which a reference gives
module _ (O : Identity → Option ObjectRow) (N M : ℕ → Identity → Option NameRow) (p : ℕ) (objects : List Object) (l : List Reference) (h : CountsAre O N objects l)
    (none : list_any (λ r. gives_name_to p r.holder) l ≡ false) (rows : (q : ℕ) (x : Identity) → M q x ≡ cond (p == q) None (N q x)) where
  no_asking : (q : ℕ) (x : Identity) (s : Bool) → (p == q) ≡ true → count_by (is_asking q x s) l ≡ 0
  no_asking q x s e = none_count (is_asking q x s) (λ r. gives_name_to p r.holder) (λ r k. subst (λ y. gives_name_to y r.holder ≡ true) (sym (eqb-true p q e)) ((names_by q r.holder).0 (grind (arith, k)))) l none

  no_carrying : (q : ℕ) (x : Identity) (s : Bool) → (p == q) ≡ true → count_by (is_carrying q x s) l ≡ 0
  no_carrying q x s e = none_count (is_carrying q x s) (λ r. gives_name_to p r.holder) (λ r k. subst (λ y. gives_name_to y r.holder ≡ true) (sym (eqb-true p q e)) ((names_by q r.holder).1 (grind (arith, k)))) l none

  pub counts_ended : CountsAre O M objects l
  counts_ended = record {
    totals = h.totals;
    owed = h.owed;
    managed = h.managed;
    asked = λ q x s. without asked_of refl (p == q) (N q x) (M q x) (rows q x) s _ (no_asking q x s) (h.asked q x s);
    unasked = h.unasked;
    carried = λ q x s free. without carried_of refl (p == q) (N q x) (M q x) (rows q x) s _ (no_carrying q x s) (h.carried q x s free);
    carried_few = λ q x s. without_few carried_of refl (p == q) (N q x) (M q x) (rows q x) s _ (h.carried_few q x s);
  }

-- the records with other names, of which each counter is still right
pub renamed : (t u : Records) (objects : List Object) (l : List Reference) → RecordsAre t objects l → u.objects ≡ t.objects → u.owned ≡ t.owned → u.held ≡ t.held → u.made ≡ t.made
    → CountsAre (row_at t.objects) (name_at u.names) objects l → RecordsAre u objects l
renamed t u objects l h rows own held made counts = record {
  objects_are = λ o. h.objects_are o ∙ ap (λ x. option_map (λ (w : ObjectRow). w.object) (row_at x o)) (sym rows);
  owners = λ p o. h.owners p o ∙ ap (λ x. is_owner p (row_at x o)) (sym rows);
  own = subst (λ x. OwnedAre x objects) (sym own) h.own;
  counts = subst (λ x. CountsAre (row_at x) (name_at u.names) objects l) (sym rows) counts;
  held = subst (λ x. BuffersAre x l) (sym held) h.held;
  few = subst (λ x. length l ≤ x) (sym made) h.few;
}
