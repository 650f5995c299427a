-- For FollowingIsLocal and NothingIsPending: what is found in a list to which elements come, and among objects.
use Rattle.bd_laws.proofs.words.Logic.{arith, ◌≡◌, Bool, true, false, List, [], ◌∷◌, ◌++◌, Option, Some, None, is_some, ap, refl, find, list_any, list_any-append}
use Rattle.bd_laws.proofs.words.Types.{Identity, Object}
use Rattle.bd_laws.proofs.words.Space.{same, is_some_and, object_in}
use Rattle.bd_laws.proofs.words.Laws.{In, Pairs, Differ}
use Rattle.bd_laws.proofs.Lists.{any_found, find_in, find_some, pairs_either}
use Rattle.bd_laws.proofs.Tests.{same_eq, eq_same}

module _ {A : Type 0} (p : A → Bool) where
  pub any_more : (xs : List A) (y : A) → list_any p xs ≡ true → list_any p (xs ++ y ∷ []) ≡ true
  any_more xs y h = search (arith, list_any-append)

  -- what comes and passes isn't the first that does
  pub any_same : (xs ys : List A) → ((y : A) → In y ys → p y ≡ true → list_any p xs ≡ true) → list_any p (xs ++ ys) ≡ list_any p xs
  any_same xs ys h = search (arith, list_any-append, any_found)

  -- none of those that come passes
  pub any_none : (xs ys : List A) → ((y : A) → In y ys → p y ≡ false) → list_any p (xs ++ ys) ≡ list_any p xs
  any_none xs ys h = search (arith, any_same)

  pub find_left : (xs ys : List A) (q : A → Bool) → is_some_and (find p xs) q ≡ true → find p (xs ++ ys) ≡ find p xs
  find_left [] ys q h = absurd (cc)
  find_left (x ∷ xs) ys q h = search (arith, find_left xs ys q)

-- an object that is found passes one test if it passes the other
pub found_still : (objects : List Object) (o : Identity) (p q : Object → Bool) → ((x : Object) → In x objects → x.id ≡ o → p x ≡ true → q x ≡ true)
    → is_some_and (object_in objects o) p ≡ true → is_some_and (object_in objects o) q ≡ true
found_still objects o p q k h = search (arith, find_in)

-- an object is found by its identity
pub find_only : (xs : List Object) (x : Object) (o : Identity) → Pairs Differ xs → In x xs → x.id ≡ o → object_in xs o ≡ Some x
find_only xs x o h l e = it_is (object_in xs o) (find_some (λ (y : Object). same y.id o) x xs l (eq_same x.id o e)) (λ y f. only y (find_in (λ (y : Object). same y.id o) y xs f))
  where
    it_is : (f : Option Object) → is_some f ≡ true → ((y : Object) → f ≡ Some y → y ≡ x) → f ≡ Some x
    it_is None some k = absurd (cc)
    it_is (Some y) some k = ap (λ (z : Object). Some z) (k y refl)

    only : (y : Object) → In y xs × (same y.id o ≡ true) → y ≡ x
    only y i = search (arith, same_eq, pairs_either)
