-- What an object's owner was told.
use Rattle.bd_records.proofs.Words.{Bool, CountsAre, Identity, List, NameRow, None, Object, ObjectRow, Option, Owned, OwnedAre, Reference, Some, [], ap, arith, changed, cond, false, id_at, id_key, is_owner, managed_of, map, object_in, of_strength, option_map, owed_of, own_key, owned_in, possession}
use Rattle.bd_records.proofs.Words.{refl, same, same_word, sym, told, total_of, true, word_eq, word_self, ℕ, ◌∙◌, ◌∷◌, ◌≡◌}
use Rattle.bd_records.proofs.{Coming.{both_from, both_same, object_of}, Distinct.{changed_distinct}, Maps.{finds_hidden}, Tallies.{row_kept}}

module _ (weak strong : Bool) (o : Identity) where
  abbrev tell : Object → Object
  tell x = record x { told_weak = weak; told_strong = strong }

  abbrev pub retold : List Object → List Object
  retold objects = changed (λ x. same x.id o) (λ x. record x { told_weak = weak; told_strong = strong }) objects

  pub object_told : (objects : List Object) (y : Identity) → object_in (retold objects) y ≡ cond (same o y) (option_map tell (object_in objects y)) (object_in objects y)
  object_told [] y = grind arith
  object_told (x ∷ xs) y = grind (arith, object_told xs y, both_same x.id o y, both_from x.id o y)

  pub owned_told : (objects : List Object) (p : ℕ) (y : Identity) → owned_in (retold objects) p y ≡ owned_in objects p y
  owned_told [] p y = refl
  owned_told (x ∷ xs) p y = grind (arith, owned_told xs p y)

  possessions_told : (objects : List Object) → map possession (retold objects) ≡ map possession objects
  possessions_told [] = refl
  possessions_told (x ∷ xs) = grind (arith, possessions_told xs)

  -- neither identities nor pointers change
  pub told_owned : (t : Owned) (objects : List Object) → OwnedAre t objects → OwnedAre t (retold objects)
  told_owned t objects h = record {
    found = finds_hidden own_key same_word word_eq word_self (λ y. y.id) (id_at t) objects (λ x. same x.id o) tell (λ y. refl) (λ y. refl) h.found;
    ids = changed_distinct id_key same (λ x. same x.id o) tell (λ y. refl) objects h.ids;
    ptrs = changed_distinct own_key same_word (λ x. same x.id o) tell (λ y. refl) objects h.ptrs;
    rows = h.rows;
    shows = h.shows;
    are = h.are ∙ sym (possessions_told objects);
    spots = h.spots;
    not_higher = h.not_higher;
  }

  module _ (O O' : Identity → Option ObjectRow) (N : ℕ → Identity → Option NameRow) (objects : List Object) (l : List Reference) (h : CountsAre O N objects l)
      (are : (y : Identity) → object_in objects y ≡ option_map object_of (O y)) (owners : (p : ℕ) (y : Identity) → owned_in objects p y ≡ is_owner p (O y))
      (rows : (y : Identity) → O' y ≡ cond (same o y) (option_map (told weak strong) (O y)) (O y)) where
    pub told_objects : (y : Identity) → object_in (retold objects) y ≡ option_map object_of (O' y)
    told_objects y = object_told objects y ∙ at (same o y) refl (O y) refl
      where
        at : (b : Bool) → same o y ≡ b → (w : Option ObjectRow) → O y ≡ w → cond b (option_map tell (object_in objects y)) (object_in objects y) ≡ option_map object_of (O' y)
        at true e None f = grind (arith, rows y, e, are y, f)
        at true e (Some v) f = grind (arith, rows y, e, are y, f)
        at false e w f = grind (arith, rows y, e, are y)

    kept : {A : Type 0} (f : Option ObjectRow → A) → ((v : ObjectRow) → f (Some (told weak strong v)) ≡ f (Some v)) → (y : Identity) → f (O' y) ≡ f (O y)
    kept f alike = row_kept f (told weak strong) alike o O O' rows

    pub told_owners : (p : ℕ) (y : Identity) → owned_in (retold objects) p y ≡ is_owner p (O' y)
    told_owners p y = owned_told objects p y ∙ owners p y ∙ sym (kept (is_owner p) (λ v. refl) y)

    pub told_counts : CountsAre O' N (retold objects) l
    told_counts = record {
      totals = λ y s. ap (of_strength s) (kept total_of (λ v. refl) y) ∙ h.totals y s;
      owed = λ y s. ap (of_strength s) (kept owed_of (λ v. refl) y) ∙ h.owed y s;
      managed = λ y s. ap (of_strength s) (kept managed_of (λ v. refl) y) ∙ h.managed y s;
      asked = h.asked;
      unasked = λ p y s own. h.unasked p y s (sym (owned_told objects p y) ∙ own);
      carried = λ p y s free. h.carried p y s (sym (owned_told objects p y) ∙ free);
      carried_few = h.carried_few;
    }
