-- What goes with a process, one after the other.
use Rattle.bd_records.proofs.Words.{Asked, Bool, Carried, Handshake, Holder, Identity, List, Manager, Object, Reference, Target, [], ap, arith, buffer_of_holder, false, filter, is_among, is_held, is_of_owner, is_some, map, not, own_among, owned_in, refl, same, same_turned, true, without_own, ℕ}
use Rattle.bd_records.proofs.Words.{◌&&◌, ◌==◌, ◌||◌, ◌∷◌, ◌≡◌}
use Rattle.bd_records.proofs.Lists.{both_filters}

-- ---- what an owner has to its objects

neither : (a b w : Bool) → (not (a && w) && not (b && w)) ≡ not ((a || b) && w)
neither true true true = refl
neither true true false = refl
neither true false true = refl
neither true false false = refl
neither false true true = refl
neither false true false = refl
neither false false true = refl
neither false false false = refl

pub own_more : (o : Identity) (os : List Identity) (l : List Reference) → without_own os (filter (λ r. not (same r.object o && is_of_owner r.holder)) l) ≡ without_own (o ∷ os) l
own_more o os l = both_filters (λ r. not (same r.object o && is_of_owner r.holder)) (λ r. not (own_among os r)) (λ r. not (own_among (o ∷ os) r)) (λ r. neither (same r.object o) (is_among os r.object) (is_of_owner r.holder)) l

pub own_none : (l : List Reference) → without_own [] l ≡ l
own_none [] = refl
own_none (x ∷ l) = ap (λ ys. x ∷ ys) (own_none l)

-- among the objects of a process are those that it owns
pub own_among_is : (p : ℕ) (objects : List Object) (o : Identity) → is_among (map (λ x. x.id) (filter (λ x. x.owner == p) objects)) o ≡ owned_in objects p o
own_among_is p [] o = refl
own_among_is p (x ∷ xs) o = grind (arith, own_among_is p xs o, same_turned x.id o)

no_owner_s : (h : Holder) → is_some (buffer_of_holder h) ≡ true → is_of_owner h ≡ false
no_owner_s (Asked q) e = refl
no_owner_s (Carried c q) e = refl
no_owner_s (Target c q) e = refl
no_owner_s Handshake e = absurd cc
no_owner_s Manager e = absurd cc

-- what lies in a buffer is no owner's
pub held_others : (objects : List Object) (p : ℕ) (x : Reference) → is_held x ≡ true → (owned_in objects p x.object && is_of_owner x.holder) ≡ false
held_others objects p x e = grind (arith, no_owner_s x.holder e)
