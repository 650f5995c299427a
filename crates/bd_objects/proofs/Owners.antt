-- Owners that are told what is so, one work item after the other.
use Rattle.bd_objects.proofs.Words.{Bool, HoldsAlike, Identity, List, None, Object, Reference, Work, [], ap, changed, get_or, held_in, is_some_and, is_told_by, length, list_any_more, none, notice_of, refl, same, same_eq, same_tests, strong_in, sym}
use Rattle.bd_objects.proofs.Words.{take, told_of, twice, ℕ, ◌+◌, ◌<◌, ◌||◌, ◌∙◌, ◌≡◌}
use Rattle.bd_objects.proofs.Changes.{same_changes}

pub told_one : (refs : List Reference) (o : Identity) (weak strong : Bool) (objects : List Object) → weak ≡ held_in refs o → strong ≡ strong_in refs o
    → changed (λ x. same x.id o) (λ x. record x { told_weak = weak; told_strong = strong }) objects ≡ changed (λ x. same x.id o) (told_of refs) objects
told_one refs o weak strong objects e g =
    same_changes (λ (x : Object). same x.id o) (λ (x : Object). record x { told_weak = weak; told_strong = strong }) (told_of refs)
    (λ x h. rw (e, g) (ap (λ i. record x { told_weak = held_in refs i; told_strong = strong_in refs i }) (sym (same_eq x.id o h)))) objects

pub told_none : (refs : List Reference) (objects : List Object) → objects ≡ changed (λ x. is_told_by [] x.id) (told_of refs) objects
told_none refs objects = sym (none (told_of refs) (λ (x : Object). is_told_by [] x.id) objects (λ x. refl))

-- no object is that of an item which is no notice
pub told_nobody : (refs : List Reference) (objects : List Object) → objects ≡ changed (λ (x : Object). is_some_and {A = Identity} None (same x.id)) (told_of refs) objects
told_nobody refs objects = sym (none (told_of refs) (λ (x : Object). is_some_and {A = Identity} None (same x.id)) objects (λ x. refl))

pub told_more : (refs : List Reference) (objects : List Object) (ws : List Work) (i : ℕ) (d : Work) → i < length ws
    → changed (λ x. is_some_and (notice_of (get_or ws i d).kind) (same x.id)) (told_of refs) (changed (λ x. is_told_by (take i ws) x.id) (told_of refs) objects)
    ≡ changed (λ x. is_told_by (take (i + 1) ws) x.id) (told_of refs) objects
told_more refs objects ws i d h =
    let p = λ (x : Object). is_some_and (notice_of (get_or ws i d).kind) (same x.id) in
    let q = λ (x : Object). is_told_by (take i ws) x.id in
    twice (told_of refs) p q objects (λ x. refl) (λ x. refl)
    ∙ same_tests (told_of refs) (λ x. q x || p x) (λ x. is_told_by (take (i + 1) ws) x.id) objects
    (λ x. sym (list_any_more (λ (w : Work). is_some_and (notice_of w.kind) (same x.id)) ws i d h))

-- by references that hold the same
pub told_alike : (these others : List Reference) (ws : List Work) (objects : List Object) → HoldsAlike these others
    → changed (λ x. is_told_by ws x.id) (told_of others) objects ≡ changed (λ x. is_told_by ws x.id) (told_of these) objects
told_alike these others ws objects h =
    same_changes (λ (x : Object). is_told_by ws x.id) (told_of others) (told_of these) (λ x e. rw ((h x.id).0, (h x.id).1) refl) objects
