-- What goes with a process is on objects that it owns, or goes whoever owns it.
use Rattle.bd_objects.proofs.Words.{Bool, HasAll, Identity, List, Object, Reference, [], and_parts, cond, false, filter, inl, inr, is_among, is_asked_by, is_dropped_with, is_in_window, is_of_owner, list_any, list_any-append, map, or_cases, or_left}
use Rattle.bd_objects.proofs.Words.{or_right, owned_in, refl, same, same_eq, same_self, subst, sym, true, ℕ, ◌&&◌, ◌++◌, ◌==◌, ◌||◌, ◌∙◌, ◌∷◌, ◌≡◌, ◌⊎◌}

among_append : (xs ys : List Identity) (o : Identity) → is_among (xs ++ ys) o ≡ (is_among xs o || is_among ys o)
among_append xs ys o = list_any-append (λ i. same o i) xs ys

-- in a list of those that pass
module _ {A : Type 0} (p : A → Bool) (key : A → Identity) (o : Identity) where
  put : (x : A) (xs : List A) → p x ≡ true → same o (key x) ≡ true → is_among (map key (filter p (x ∷ xs))) o ≡ true
  put x xs e h = rw e (or_left _ _ h)

  further : (x : A) (xs : List A) → is_among (map key (filter p xs)) o ≡ true → is_among (map key (filter p (x ∷ xs))) o ≡ true
  further x xs h = elim (p x) as (λ b. is_among (map key (cond b (x ∷ filter p xs) (filter p xs))) o ≡ true) [ true ↦ or_right _ _ h | false ↦ h ]

  taken : (x : A) (xs : List A) → is_among (map key (filter p (x ∷ xs))) o ≡ true → ((p x ≡ true) × (same o (key x) ≡ true)) ⊎ (is_among (map key (filter p xs)) o ≡ true)
  taken x xs h = by (p x) refl h
    where
      by : (b : Bool) → p x ≡ b → is_among (map key (cond b (x ∷ filter p xs) (filter p xs))) o ≡ true → ((p x ≡ true) × (same o (key x) ≡ true)) ⊎ (is_among (map key (filter p xs)) o ≡ true)
      by true e h = elim (or_cases (same o (key x)) _ h) [ inl k ↦ inl (e, k) | inr k ↦ inr k ]
      by false e h = inr h

module _ (p : ℕ) (objects : List Object) where
  abbrev owned : List Identity
  owned = map (λ x. x.id) (filter (λ x. x.owner == p) objects)

  abbrev goes_anyway : Reference → Bool
  goes_anyway r = is_asked_by p r.holder || is_in_window p r.holder

  pub among_owned : (xs : List Object) (o : Identity) → owned_in xs p o ≡ true → is_among (map (λ x. x.id) (filter (λ x. x.owner == p) xs)) o ≡ true
  among_owned [] o h = absurd (cc)
  among_owned (x ∷ xs) o h = elim (or_cases (same x.id o && (x.owner == p)) (owned_in xs p o) h) [
    | inl e ↦ (let k = and_parts (same x.id o) (x.owner == p) e in
        put (λ (y : Object). y.owner == p) (λ y. y.id) o x xs k.1 (subst (λ i. same o i ≡ true) (sym (same_eq x.id o k.0)) (same_self o)))
    | inr e ↦ further (λ (y : Object). y.owner == p) (λ y. y.id) o x xs (among_owned xs o e)
  ]

  why : (r : Reference) → is_dropped_with objects p r ≡ true → (goes_anyway r ≡ true) ⊎ (owned_in objects p r.object ≡ true)
  why r h = elim (or_cases (goes_anyway r) (owned_in objects p r.object && is_of_owner r.holder) h) [
    | inl a ↦ inl a
    | inr k ↦ inr (and_parts _ _ k).0
  ]

  among_dropped : (rs : List Reference) (o : Identity) → is_among (map (λ r. r.object) (filter (is_dropped_with objects p) rs)) o ≡ true
      → (is_among (map (λ r. r.object) (filter goes_anyway rs)) o ≡ true) ⊎ (is_among owned o ≡ true)
  among_dropped [] o h = absurd (cc)
  among_dropped (r ∷ rs) o h = elim (taken (is_dropped_with objects p) (λ r. r.object) o r rs h) [
    | inl e ↦ (elim (why r e.0) [
      | inl a ↦ inl (put goes_anyway (λ r. r.object) o r rs a e.1)
      | inr w ↦ inr (among_owned objects o (subst (λ i. owned_in objects p i ≡ true) (sym (same_eq o r.object e.1)) w))
    ])
    | inr k ↦ (elim (among_dropped rs o k) [
      | inl a ↦ inl (further goes_anyway (λ r. r.object) o r rs a)
      | inr w ↦ inr w
    ])
  ]

  pub has_dropped : (refs : List Reference) (old mid new : List Identity) → HasAll mid (old ++ owned) → HasAll new (mid ++ map (λ r. r.object) (filter goes_anyway refs))
      → HasAll new ((old ++ owned) ++ map (λ r. r.object) (filter (is_dropped_with objects p) refs))
  has_dropped refs old mid new h g = λ o e.
      let first = λ (k : is_among (old ++ owned) o ≡ true). g o (among_append mid _ o ∙ or_left _ _ (h o k)) in
      elim (or_cases (is_among (old ++ owned) o) _ (sym (among_append (old ++ owned) _ o) ∙ e)) [
        | inl k ↦ first k
        | inr k ↦ (elim (among_dropped refs o k) [
          | inl a ↦ g o (among_append mid _ o ∙ or_right _ _ a)
          | inr w ↦ first (among_append old owned o ∙ or_right _ _ w)
        ])
      ]

  -- nothing else is dropped
  dropped_anyway : (rs : List Reference) (o : Identity) → is_among (map (λ r. r.object) (filter goes_anyway rs)) o ≡ true
      → is_among (map (λ r. r.object) (filter (is_dropped_with objects p) rs)) o ≡ true
  dropped_anyway [] o h = absurd (cc)
  dropped_anyway (r ∷ rs) o h = elim (taken goes_anyway (λ r. r.object) o r rs h) [
    | inl e ↦ put (is_dropped_with objects p) (λ r. r.object) o r rs (or_left (goes_anyway r) _ e.0) e.1
    | inr k ↦ further (is_dropped_with objects p) (λ r. r.object) o r rs (dropped_anyway rs o k)
  ]

  pub only_dropped : (refs : List Reference) (old mid new : List Identity) → HasAll (old ++ owned) mid → HasAll (mid ++ map (λ r. r.object) (filter goes_anyway refs)) new
      → HasAll ((old ++ owned) ++ map (λ r. r.object) (filter (is_dropped_with objects p) refs)) new
  only_dropped refs old mid new h g = λ o e.
      among_append (old ++ owned) _ o
      ∙ elim (or_cases (is_among mid o) _ (sym (among_append mid _ o) ∙ g o e)) [
        | inl k ↦ or_left _ _ (h o k)
        | inr k ↦ or_right _ _ (dropped_anyway refs o k)
      ]

  pub any_dropped : (refs : List Reference) → list_any goes_anyway refs ≡ true → list_any (is_dropped_with objects p) refs ≡ true
  any_dropped [] h = absurd (cc)
  any_dropped (r ∷ rs) h = elim (or_cases (goes_anyway r) (list_any goes_anyway rs) h) [
    | inl e ↦ or_left _ _ (or_left (goes_anyway r) _ e)
    | inr k ↦ or_right _ _ (any_dropped rs k)
  ]
