-- For every law: what a parcel's sender sends: objects that are there, or that the sending makes.
use Rattle.bd_laws.proofs.words.Logic.{◌≡◌, ℕ, ◌<◌, ◌==◌, Bool, true, false, ◌&&◌, List, [], ◌∷◌, ◌++◌, Option, Some, None, Ok, ◌⊎◌, inl, inr, refl, sym, subst, length, find, arith, length-append, append-nil, option_to_list, option_map, eqb-true}
use Rattle.bd_laws.proofs.words.Types.{TransactionData, FlatObject, Identity, Parcel, Object, Name, Item, Resolved, is_own}
use Rattle.bd_laws.proofs.words.Space.{Space, own_in, named, strongly_named, Sending, new_object, resolve, resolve_all, sending_of}
use Rattle.bd_parcel.specs.Reading.{object_at}
use Rattle.bd_laws.proofs.words.Laws.{In, Pairs, Earlier}
use Rattle.bd_laws.proofs.Lists.{all_push, in_left, in_right, in_append, in_push, in_last, pairs_push, find_in}
use Rattle.bd_laws.proofs.Tests.{both, and_then_ok}
use Rattle.bd_laws.proofs.Earlier.{index_earlier}

-- p's own object, in the list
abbrev pub Owns : List Object → ℕ → Identity → Type 0
Owns objects p o = (x : Object) × In x objects × (x.id ≡ o) × (x.owner ≡ p)

-- p has a name for the object
abbrev pub HasName : List Name → ℕ → Identity → Type 0
HasName names p o = (m : Name) × In m names × (m.process ≡ p) × (m.object ≡ o)

-- ---- names

pub named_has : (s : Space) (p n : ℕ) (o : Identity) → named s p n ≡ Some o → HasName s.names p o
unfolding named
named_has s p n o h = at (find (λ (m : Name). (m.process == p) && (m.number == n)) s.names) refl h
  where
    at : (f : Option Name) → find (λ (m : Name). (m.process == p) && (m.number == n)) s.names ≡ f → option_map (λ (m : Name). m.object) f ≡ Some o → HasName s.names p o
    at None e k = absurd (cc)
    at (Some m) e k =
        let l = find_in (λ (m : Name). (m.process == p) && (m.number == n)) m s.names e in
        (m, l.0, eqb-true m.process p (both (m.process == p) (m.number == n) l.1).0, cc)

-- ---- resolving

-- the sent object is the sender's own, or the sender has a name for it
abbrev pub Sent : Space → ℕ → List Object → Identity → Type 0
Sent s p made o = Owns (s.objects ++ made) p o ⊎ HasName s.names p o

-- the objects made so far, at this step
pub record Made (s : Space) (p : ℕ) (made : List Object) : Type 0 where
  pub place : (y : Object) → In y made → y.id.place ≡ s.steps
  pub index : (y : Object) → In y made → y.id.index < length made
  pub owner : (y : Object) → In y made → y.owner ≡ p
  pub untold : (y : Object) → In y made → (y.told_weak ≡ false) × (y.told_strong ≡ false)
  pub in_order : Pairs Earlier made

-- what one more object makes of this; it may be sent as the sender's own
pub record Resolves (s : Space) (p : ℕ) (made : List Object) (own : Bool) (r : Resolved) : Type 0 where
  pub owned : own ≡ true → Owns (s.objects ++ (made ++ option_to_list r.new)) p r.object
  pub sent : Sent s p (made ++ option_to_list r.new) r.object
  pub makes : Made s p (made ++ option_to_list r.new)

made_none : (s : Space) (p : ℕ) (made : List Object) → Made s p made → Made s p (made ++ [])
made_none s p made h = search (arith, append-nil)

abbrev pub resolved : Identity → Option Object → Resolved
resolved o new = record { object = o; new = new }

-- an object of a parcel is made, or known by its ptr, or the sender has a name for it
module _ (s : Space) (p : ℕ) (made : List Object) (x : FlatObject) (R : Bool → Resolved → Type 0)
    (makes : own_in (s.objects ++ made) p x.binder ≡ None → R true (resolved (new_object s.steps p made x).id (Some (new_object s.steps p made x))))
    (knows : (o : Object) → own_in (s.objects ++ made) p x.binder ≡ Some o → R true (resolved o.id None))
    (names : (o : Identity) → HasName s.names p o → R false (resolved o None)) where
  pub resolved_by : (r : Resolved) → resolve s p made x ≡ Ok r → R (is_own x.kind) r
  unfolding resolve named strongly_named
  resolved_by r = search (arith, named_has)

pub resolves : (s : Space) (p : ℕ) (made : List Object) (x : FlatObject) (r : Resolved) → Made s p made → resolve s p made x ≡ Ok r → Resolves s p made (is_own x.kind) r
resolves s p made x r h =
    resolved_by s p made x (Resolves s p made)
    (λ e.
    let o = new_object s.steps p made x in
    let its : Owns (s.objects ++ (made ++ o ∷ [])) p o.id = (o, in_right o s.objects (made ++ o ∷ []) (in_last o made), refl, refl) in
    record { owned = λ f. its; sent = inl its; makes = search (arith, length-append, in_push, pairs_push, index_earlier) })
    (λ o e.
    let l = find_in (λ (y : Object). (y.owner == p) && (y.ptr == x.binder)) o (s.objects ++ made) e in
    let its : Owns (s.objects ++ (made ++ [])) p o.id =
    (o, subst (λ m. In o (s.objects ++ m)) (sym (append-nil made)) l.0, refl, eqb-true o.owner p (both (o.owner == p) (o.ptr == x.binder) l.1).0) in
    record { owned = λ f. its; sent = inl its; makes = made_none s p made h })
    (λ o n. record { owned = λ f. absurd (cc); sent = inr n; makes = made_none s p made h }) r

-- ---- all of a parcel

pub record Sends (s : Space) (p : ℕ) (made : List Object) (items : List Item) : Type 0 where
  pub owned : (i : Item) → In i items → is_own i.flat.kind ≡ true → Owns (s.objects ++ made) p i.object
  pub sent : (i : Item) → In i items → Sent s p made i.object
  pub makes : Made s p made

owns_more : (s : Space) (p : ℕ) (made more : List Object) (o : Identity) → Owns (s.objects ++ made) p o → Owns (s.objects ++ (made ++ more)) p o
owns_more s p made more o w =
    (w.0, elim (in_append w.0 s.objects made w.1) [ inl k ↦ in_left w.0 s.objects (made ++ more) k | inr k ↦ in_right w.0 s.objects (made ++ more) (in_left w.0 made more k) ], w.2, w.3)

-- what one object more keeps, all of a parcel keep
module _ (s : Space) (p : ℕ) (P : List Object → List Item → Type 0) (none : P [] [])
    (more : (made : List Object) (items : List Item) (i : Item) (r : Resolved) → i.object ≡ r.object → resolve s p made i.flat ≡ Ok r → P made items
    → P (made ++ option_to_list r.new) (items ++ i ∷ [])) where
  all_keep : (bytes offsets ats : List ℕ) (made : List Object) (items : List Item) (v : Sending) → P made items → resolve_all s p bytes offsets made items ats ≡ Ok v
      → P v.made v.items
  all_keep bytes offsets [] made items v h k = search arith
  all_keep bytes offsets (at ∷ ats) made items v h k =
      let r = and_then_ok (resolve s p made (object_at at bytes)) _ v k in
      let i : Item = record { at = at; flat = object_at at bytes; object = r.0.object } in
      all_keep bytes offsets ats (made ++ option_to_list r.0.new) (items ++ i ∷ []) v (more made items i r.0 refl r.1 h) r.2

  pub sending_keeps : (d : TransactionData) (parcel : Option Parcel) (v : Sending) → sending_of s p d parcel ≡ Ok v → P v.made v.items
  unfolding sending_of
  sending_keeps d parcel v h = search (arith, all_keep)

sends_more : (s : Space) (p : ℕ) (made : List Object) (items : List Item) (i : Item) (r : Resolved) → i.object ≡ r.object → resolve s p made i.flat ≡ Ok r → Sends s p made items
    → Sends s p (made ++ option_to_list r.new) (items ++ i ∷ [])
sends_more s p made items i r same_object e h =
    let one = resolves s p made i.flat r h.makes e in
    record {
      owned = λ j l. all_push items i (λ (x : Item). is_own x.flat.kind ≡ true → Owns (s.objects ++ (made ++ option_to_list r.new)) p x.object)
          (λ x m own. owns_more s p made (option_to_list r.new) x.object (h.owned x m own)) (λ own. subst (Owns (s.objects ++ (made ++ option_to_list r.new)) p) (sym same_object) (one.owned own)) j l;
      sent = all_push items i (λ (x : Item). Sent s p (made ++ option_to_list r.new) x.object)
          (λ x m. search (arith, owns_more)) (subst (Sent s p (made ++ option_to_list r.new)) (sym same_object) one.sent);
      makes = one.makes;
    }

pub none_made : (s : Space) (p : ℕ) → Made s p []
none_made s p = record { place = λ y l. absurd l; index = λ y l. absurd l; owner = λ y l. absurd l; untold = λ y l. absurd l; in_order = tt }

pub sending_sends : (s : Space) (p : ℕ) (d : TransactionData) (parcel : Option Parcel) (v : Sending) → sending_of s p d parcel ≡ Ok v → Sends s p v.made v.items
sending_sends s p d parcel v h =
    sending_keeps s p (Sends s p) (record { owned = λ i l own. absurd l; sent = λ i l. absurd l; makes = none_made s p }) (sends_more s p) d parcel v h
