-- What goes with a process: once nothing is its own any more, no reference gives it a name.
use Rattle.bd_objects.proofs.Words.{Asked, Bool, Carried, Handshake, HasAll, Holder, Identity, List, Manager, Object, Reference, Target, [], ap, cond, false, filter, gives_name_to, is_asked_by, is_dropped_with, is_in_window, is_of_owner, list_any}
use Rattle.bd_objects.proofs.Words.{not, owned_in, refl, subst, sym, true, ℕ, ◌&&◌, ◌==◌, ◌||◌, ◌∙◌, ◌∷◌, ◌≡◌}
use Rattle.bd_objects.proofs.Owned.{goes_with}

-- ---- lists

none_passes : {A : Type 0} (f g : A → Bool) → ((x : A) → f x ≡ true → g x ≡ false) → (xs : List A) → list_any g (filter f xs) ≡ false
none_passes f g h [] = refl
none_passes {A} f g h (x ∷ xs) = at (f x) refl (none_passes f g h xs)
  where
    at : (b : Bool) → f x ≡ b → list_any g (filter f xs) ≡ false → list_any g (cond b (x ∷ filter f xs) (filter f xs)) ≡ false
    at true e rest = rw (h x e) rest
    at false e rest = rest

-- one passes, where not none does
pub some_pass : {A : Type 0} (f : A → Bool) (xs : List A) → (filter f xs ≡ [] → ⊥) → list_any f xs ≡ true
some_pass f [] h = absurd (h refl)
some_pass {A} f (x ∷ xs) h = at (f x) h (some_pass f xs)
  where
    at : (b : Bool) → (cond b (x ∷ filter f xs) (filter f xs) ≡ [] → ⊥) → ((filter f xs ≡ [] → ⊥) → list_any f xs ≡ true) → (b || list_any f xs) ≡ true
    at true h rest = refl
    at false h rest = rest h

pub same_all : (xs ys : List Identity) → xs ≡ ys → HasAll xs ys
same_all xs ys e = subst (λ zs. HasAll zs ys) (sym e) (λ o h. h)

pub all_same : (xs ys : List Identity) → xs ≡ ys → HasAll ys xs
all_same xs ys e = subst (λ zs. HasAll zs xs) e (λ o h. h)

-- ---- references

names_nothing : (p : ℕ) (h : Holder) (own : Bool) → not (is_asked_by p h || is_in_window p h || (own && is_of_owner h)) ≡ true → gives_name_to p h ≡ false
names_nothing p (Asked q) own e = at (q == p) e
  where
    at : (b : Bool) → not (b || false || (own && false)) ≡ true → b ≡ false
    at true e = absurd (cc)
    at false e = refl
names_nothing p (Carried b q) own e = at (q == p) e
  where
    at : (b : Bool) → not (false || b || (own && false)) ≡ true → b ≡ false
    at true e = absurd (cc)
    at false e = refl
names_nothing p (Target b q) own e = refl
names_nothing p Handshake own e = refl
names_nothing p Manager own e = refl

-- of those that stay when the process ends
pub none_named : (p : ℕ) (objects : List Object) (l : List Reference)
    → list_any (λ r. gives_name_to p r.holder)
    (filter (λ r. not (owned_in objects p r.object && is_of_owner r.holder)) (filter (λ r. not (is_asked_by p r.holder || is_in_window p r.holder)) l)) ≡ false
none_named p objects l =
    ap (list_any (λ r. gives_name_to p r.holder)) (goes_with p objects l)
    ∙ none_passes (λ r. not (is_dropped_with objects p r)) (λ r. gives_name_to p r.holder) (λ r. names_nothing p r.holder (owned_in objects p r.object)) l
