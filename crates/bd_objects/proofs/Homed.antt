-- References for which there are records, by what the space says of them.
use Rattle.bd_objects.proofs.Words.{AreReady, Asked, Bool, Carried, Identity, IsHere, IsHomed, Item, List, Name, Names, NamesAre, None, Object, ObjectRow, Option, Records, RecordsAre, Reference, Some, [], and_parts, ap, arith, cond, eqb-true, false}
use Rattle.bd_objects.proofs.Words.{get_or, gives_name_to, is_asked_by, is_ready, is_some, length, list_all, name_at, number_in, number_of, object_in, object_of, on_slot, option_map, owned_in, reference_of, refl, row_at, same, same_self, subst, suc}
use Rattle.bd_objects.proofs.Words.{sym, true, value_at, zero, ℕ, ◌++◌, ◌<◌, ◌||◌, ◌∙◌, ◌∷◌, ◌≡◌}

-- ---- an object that is there has a record, and a name too

shown : {A B : Type 0} (f : A → B) (x : Option A) → is_some (option_map f x) ≡ true → is_some x ≡ true
shown f None h = absurd (cc)
shown f (Some x) h = refl

shown_as : {A B : Type 0} (f : A → B) (x : Option A) (y : B) → option_map f x ≡ Some y → is_some x ≡ true
shown_as f x y h = shown f x (ap is_some h)

pub here_row : (t : Records) (objects : List Object) (l : List Reference) → RecordsAre t objects l → (o : Identity) → IsHere o objects
    → is_some (row_at t.objects o) ≡ true
here_row t objects l h o here = shown (λ (w : ObjectRow). w.object) (row_at t.objects o) (ap is_some (sym (h.objects_are o)) ∙ here)

-- an object that came is there
pub here_last : (objects : List Object) (x : Object) → IsHere x.id (objects ++ x ∷ [])
here_last [] x = rw (same_self x.id) refl
here_last (y ∷ ys) x = at (same y.id x.id) (here_last ys x)
  where
    at : (b : Bool) → is_some (object_in (ys ++ x ∷ []) x.id) ≡ true → is_some (cond b (Some y) (object_in (ys ++ x ∷ []) x.id)) ≡ true
    at true h = refl
    at false h = h

pub named_row : (t : Names) (names : List Name) → NamesAre t names → (p : ℕ) (o : Identity) → is_some (number_in names p o) ≡ true
    → is_some (name_at t p o) ≡ true
named_row t names h p o k = at (number_of t p o) refl (ap is_some (sym (h.numbers_are p o)) ∙ k)
  where
    at : (m : Option ℕ) → number_of t p o ≡ m → is_some m ≡ true → is_some (on_slot None (value_at t.rows p) m) ≡ true
    at None e k = absurd (cc)
    at (Some n) e k = shown_as object_of (value_at t.rows p n) o (t.leads p o n e)

-- ---- references of each kind

module _ (t : Records) (objects : List Object) (l : List Reference) (h : RecordsAre t objects l) (r : Reference) (here : IsHere r.object objects) where
  -- one that gives no name
  pub plain_homed : ((p : ℕ) → gives_name_to p r.holder ≡ false) → ((p : ℕ) → is_asked_by p r.holder ≡ false) → IsHomed t objects r
  plain_homed none nobody = record {
    here = here_row t objects l h r.object here;
    named = λ p e. absurd (let n = none p in cc);
    others = λ p e. absurd (let n = nobody p in cc);
  }

  module _ (q : ℕ) where
    -- the process asked, which doesn't own the object, and has a name for it
    pub asked_homed : r.holder ≡ Asked q → owned_in objects q r.object ≡ false → is_some (name_at t.names q r.object) ≡ true → IsHomed t objects r
    asked_homed is other named = record {
      here = here_row t objects l h r.object here;
      named = λ p e free. subst (λ y. is_some (name_at t.names y r.object) ≡ true) (eqb-true q p (ap (gives_name_to p) (sym is) ∙ e)) named;
      others = λ p e. subst (λ y. owned_in objects y r.object ≡ false) (eqb-true q p (ap (is_asked_by p) (sym is) ∙ e)) other;
    }

    -- a buffer in its window carries the object, which it has a name for unless it is its own
    pub carried_homed : (b : ℕ) → r.holder ≡ Carried b q → (owned_in objects q r.object ≡ false → is_some (name_at t.names q r.object) ≡ true) → IsHomed t objects r
    carried_homed b is named = record {
      here = here_row t objects l h r.object here;
      named = λ p e free.
          let pq = eqb-true q p (ap (gives_name_to p) (sym is) ∙ e) in
          subst (λ y. is_some (name_at t.names y r.object) ≡ true) pq (named (subst (λ y. owned_in objects y r.object ≡ false) (sym pq) free));
      others = λ p e. absurd (let n = ap (is_asked_by p) (sym is) ∙ e in cc);
    }

-- ---- an item's

all_at : {A : Type 0} (p : A → Bool) (xs : List A) (i : ℕ) (d : A) → i < length xs → list_all p xs ≡ true → p (get_or xs i d) ≡ true
all_at p [] i d lt h = absurd (omega arith)
all_at p (x ∷ xs) zero d lt h = (and_parts (p x) (list_all p xs) h).0
all_at p (x ∷ xs) (suc i) d lt h = all_at p xs i d (omega arith) (and_parts (p x) (list_all p xs) h).1

other_named : (own named : Bool) → (own || named) ≡ true → own ≡ false → named ≡ true
other_named true named h e = absurd (cc)
other_named false named h e = h

pub ready_homed : (t : Records) (objects : List Object) (l : List Reference) (names : List Name) → RecordsAre t objects l → NamesAre t.names names
    → (q : ℕ) (items : List Item) (i : ℕ) (d : Item) → i < length items → AreReady objects names q items
    → (place k b : ℕ) (strong : Bool) → IsHomed t objects (reference_of place k (get_or items i d).object strong (Carried b q))
ready_homed t objects l names h ns q items i d lt ready place k b strong =
    let o = (get_or items i d).object in
    let both = and_parts (is_some (object_in objects o)) (owned_in objects q o || is_some (number_in names q o)) (all_at (λ (x : Item). is_ready objects names q x.object) items i d lt ready) in
    carried_homed t objects l h (reference_of place k o strong (Carried b q)) both.0 q b refl
    (λ free. named_row t.names names ns q o (other_named _ _ both.1 free))

pub only_one : {A : Type 0} {x y : A} → x ∷ [] ≡ y ∷ [] → x ≡ y
only_one {A} {x} e = ap (first x) e
  where
    first : A → List A → A
    first d [] = d
    first d (z ∷ zs) = z
