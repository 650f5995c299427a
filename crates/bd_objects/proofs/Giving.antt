-- The names that come with references, given one after the other: an object that a process comes to refer to is to be
-- named unless it is its own.
use Rattle.bd_objects.proofs.Words.{AreReady, AreReferred, Bool, Identity, IsFull, IsPastLimit, Item, List, Name, None, Object, Option, Reference, Some, [], and_from, and_parts, ap, append-nil, arith, cond, drop, eq-eqb, false, filter, filter-append}
use Rattle.bd_objects.proofs.Words.{find, fold, fold-map, fold_more, get_or, has_number_past_limit, if◌then◌else◌, is_managers, is_named_in, is_ready, is_referred, is_some, length, list_all, list_any-append, lt-ltb, map, named_in, nat_lt, new_number}
use Rattle.bd_objects.proofs.Words.{not, number_in, object_in, object_of_item, option_eq, option_map, or_right, owned_in, refl, same, same_eq, same_self, subst, suc, sym, take, true, with_name, with_name_unless, with_other_name, zero, ℕ, ◌&&◌, ◌++◌}
use Rattle.bd_objects.proofs.Words.{◌+◌, ◌<◌, ◌==◌, ◌||◌, ◌∙◌, ◌∷◌, ◌≡◌}

by_cases : {A : Type 0} (own some : Bool) (xs ys : A) → (if own then xs else (if some then xs else ys)) ≡ (if (not own && true) && not some then ys else xs)
by_cases true some xs ys = refl
by_cases false true xs ys = refl
by_cases false false xs ys = refl

-- what a number names has a number
named_has : (p n : ℕ) (o : Identity) (ns : List Name) → named_in ns p n ≡ Some o → is_some (number_in ns p o) ≡ true
named_has p n o [] h = absurd (cc)
named_has p n o (m ∷ ns) h = at (m.process == p) (m.number == n) (same m.object o) refl h (named_has p n o ns)
  where
    at : (a b c : Bool) → same m.object o ≡ c → option_map (λ (x : Name). x.object) (cond (a && b) (Some m) (find (λ (x : Name). (x.process == p) && (x.number == n)) ns)) ≡ Some o
        → (named_in ns p n ≡ Some o → is_some (number_in ns p o) ≡ true)
        → is_some (option_map (λ (x : Name). x.number) (cond (a && c) (Some m) (find (λ (x : Name). (x.process == p) && same x.object o) ns))) ≡ true
    at true true true f h rest = refl
    at true true false f h rest = let is : m.object ≡ o = cc in let known = subst (λ x. same x o ≡ true) (sym is) (same_self o) in absurd (cc)
    at true false true f h rest = refl
    at true false false f h rest = rest h
    at false b c f h rest = rest h

pub is_named : (x : Option Identity) (o : Identity) → option_eq same x (Some o) ≡ true → x ≡ Some o
is_named None o h = absurd (cc)
is_named (Some y) o h = ap (λ z. Some z) (same_eq y o h)

-- so none is given
pub known_stays : (own : Bool) (manager : Option Identity) (p n : ℕ) (ns : List Name) (o : Identity) → named_in ns p n ≡ Some o → with_name_unless own manager p ns o ≡ ns
known_stays true manager p n ns o h = refl
known_stays false manager p n ns o h = ap (λ b. cond b ns (ns ++ record { process = p; number = new_number (is_managers manager o) p ns; object = o } ∷ [])) (named_has p n o ns h)

module _ (manager : Option Identity) (objects : List Object) (p : ℕ) where
  abbrev other : List Name → Identity → List Name
  other ns o = with_other_name manager objects p ns o

  abbrev pub give : List Name → Item → List Name
  give ns x = other ns x.object

  pub same_name : (refs : List Reference) (ns : List Name) (o : Identity) → is_referred refs p o ≡ true → other ns o ≡ with_name manager objects refs p ns o
  same_name refs ns o h = rw h (by_cases (owned_in objects p o) (is_some (number_in ns p o)) _ _)

  pub same_names : (refs : List Reference) (os : List Identity) (ns : List Name) → AreReferred refs p os → fold (with_other_name manager objects p) ns os ≡ fold (with_name manager objects refs p) ns os
  same_names refs [] ns h = refl
  same_names refs (o ∷ os) ns h = ap (λ ms. fold (with_other_name manager objects p) ms os) (same_name refs ns o h.0) ∙ same_names refs os (with_name manager objects refs p ns o) h.1

  -- ---- in a loop over items

  -- one name more
  pub give_next : (xs : List Item) (ns : List Name) (i : ℕ) (d : Item) (own : Bool) → i < length xs → own ≡ owned_in objects p (get_or xs i d).object
      → with_name_unless own manager p (fold give ns (take i xs)) (get_or xs i d).object ≡ fold give ns (take (i + 1) xs)
  give_next xs ns i d own h e = ap (λ b. with_name_unless b manager p (fold give ns (take i xs)) (get_or xs i d).object) e ∙ sym (fold_more give ns xs i d h)

  pub give_all : (xs : List Item) (ns : List Name) → fold give ns xs ≡ fold (with_other_name manager objects p) ns (map object_of_item xs)
  give_all xs ns = sym (fold-map (with_other_name manager objects p) object_of_item ns xs)

  -- ---- a number past the limit

  module _ (q : Name → Bool) where
    grown_twice_case : (ns : List Name) (n : Name) (a b : Bool) → (added : List Name) × ((if a then ns else (if b then ns else ns ++ n ∷ [])) ≡ ns ++ added)
    grown_twice_case ns n true b = ([], sym (append-nil ns))
    grown_twice_case ns n false true = ([], sym (append-nil ns))
    grown_twice_case ns n false false = (n ∷ [], refl)

    pub grown : (ns : List Name) (x : Item) → (added : List Name) × (give ns x ≡ ns ++ added)
    grown ns x = grown_twice_case ns _ _ _

    past_append : (ns added : List Name) → has_number_past_limit (filter q ns) ≡ true → has_number_past_limit (filter q (ns ++ added)) ≡ true
    past_append ns added h = rw (filter-append q ns added, list_any-append (λ m. nat_lt 4294967294 m.number) (filter q ns) (filter q added), h) refl

    past_give : (ns : List Name) (x : Item) → has_number_past_limit (filter q ns) ≡ true → has_number_past_limit (filter q (give ns x)) ≡ true
    past_give ns x h = let g = grown ns x in subst (λ ms. has_number_past_limit (filter q ms) ≡ true) (sym g.1) (past_append ns g.0 h)

    past_fold : (xs : List Item) (ns : List Name) → has_number_past_limit (filter q ns) ≡ true → has_number_past_limit (filter q (fold give ns xs)) ≡ true
    past_fold [] ns h = h
    past_fold (x ∷ xs) ns h = past_fold xs (give ns x) (past_give ns x h)

    fold_at : (xs : List Item) (ns : List Name) (i : ℕ) (d : Item) → i < length xs
        → fold give ns xs ≡ fold give (give (fold give ns (take i xs)) (get_or xs i d)) (drop (suc i) xs)
    fold_at [] ns i d h = absurd (omega arith)
    fold_at (x ∷ xs) ns zero d h = refl
    fold_at (x ∷ xs) ns (suc i) d h = fold_at xs (give ns x) i d (omega arith)

    -- one number past the limit on the way, and one at the end
    past_at : (xs : List Item) (ns : List Name) (i : ℕ) (d : Item) → i < length xs
        → has_number_past_limit (filter q (give (fold give ns (take i xs)) (get_or xs i d))) ≡ true
        → has_number_past_limit (filter q (fold give ns xs)) ≡ true
    past_at xs ns i d h past = rw (fold_at xs ns i d h) (past_fold (drop (suc i) xs) _ past)

    past_push : (ms : List Name) (n : Name) → q n ≡ true → 4294967294 < n.number → has_number_past_limit (filter q (ms ++ n ∷ [])) ≡ true
    past_push ms n e h =
        let one : has_number_past_limit (filter q (n ∷ [])) ≡ true = rw (e, lt-ltb 4294967294 n.number h) refl in
        rw (filter-append q ms (n ∷ []), list_any-append (λ m. nat_lt 4294967294 m.number) (filter q ms) (filter q (n ∷ []))) (or_right _ _ one)

  named : (refs : List Reference) (o : Identity) → owned_in objects p o ≡ false → is_referred refs p o ≡ true → is_named_in objects refs p o ≡ true
  named refs o e h = rw (e, h) refl

  -- the name that would be needed stays, since a reference carries it
  pub past_one : (refs : List Reference) (ms : List Name) (o : Identity) → owned_in objects p o ≡ false → is_referred refs p o ≡ true → IsFull (is_managers manager o) p ms o
      → IsPastLimit objects refs (other ms o)
  past_one refs ms o e h f =
      let q = λ (m : Name). is_named_in objects refs m.process m.object in
      let n : Name = record { process = p; number = new_number (is_managers manager o) p ms; object = o } in
      let given : other ms o ≡ ms ++ n ∷ [] = rw (e, f.lacks) refl in
      subst (λ ns. has_number_past_limit (filter q ns) ≡ true) (sym given) (past_push q ms n (named refs o e h) f.past)

  referred_at : (refs : List Reference) (xs : List Item) (i : ℕ) (d : Item) → i < length xs → AreReferred refs p (map object_of_item xs) → is_referred refs p (get_or xs i d).object ≡ true
  referred_at refs [] i d h r = absurd (omega arith)
  referred_at refs (x ∷ xs) zero d h r = r.0
  referred_at refs (x ∷ xs) (suc i) d h r = referred_at refs xs i d (omega arith) r.1

  pub past_all : (refs : List Reference) (xs : List Item) (ns : List Name) (i : ℕ) (d : Item) → i < length xs → owned_in objects p (get_or xs i d).object ≡ false
      → AreReferred refs p (map object_of_item xs) → IsFull (is_managers manager (get_or xs i d).object) p (fold give ns (take i xs)) (get_or xs i d).object
      → IsPastLimit objects refs (fold (with_other_name manager objects p) ns (map object_of_item xs))
  past_all refs xs ns i d h e r f =
      let q = λ (m : Name). is_named_in objects refs m.process m.object in
      subst (λ ms. has_number_past_limit (filter q ms) ≡ true) (give_all xs ns)
      (past_at q xs ns i d h (past_one refs _ _ e (referred_at refs xs i d h r) f))

or_none : (a b : Bool) → (a || b) ≡ false → a ≡ false
or_none true b h = absurd (cc)
or_none false b h = refl

-- what isn't its own with others isn't without them
pub owned_before : (objects made : List Object) (p : ℕ) (o : Identity) → owned_in (objects ++ made) p o ≡ false → owned_in objects p o ≡ false
owned_before objects made p o e =
    let owns = λ (x : Object). same x.id o && (x.owner == p) in
    or_none (owned_in objects p o) (owned_in made p o) (sym (list_any-append owns objects made) ∙ e)

-- those that are made count alike
pub owned_alike : (objects made kept : List Object) (p : ℕ) (o : Identity) → owned_in kept p o ≡ owned_in made p o → owned_in (objects ++ kept) p o ≡ owned_in (objects ++ made) p o
owned_alike objects made kept p o e =
    let owns = λ (x : Object). same x.id o && (x.owner == p) in
    list_any-append owns objects kept ∙ ap (λ b. owned_in objects p o || b) e ∙ sym (list_any-append owns objects made)

-- ---- what is ready once the names are given

module _ (p : ℕ) (o : Identity) where
  abbrev is_it : Name → Bool
  is_it m = (m.process == p) && same m.object o

  found_with : (ns more : List Name) → is_some (find is_it ns) ≡ true → is_some (find is_it (ns ++ more)) ≡ true
  found_with [] more h = absurd (cc)
  found_with (m ∷ ns) more h = at (is_it m) h (found_with ns more)
    where
      at : (b : Bool) → is_some (cond b (Some m) (find is_it ns)) ≡ true → (is_some (find is_it ns) ≡ true → is_some (find is_it (ns ++ more)) ≡ true)
          → is_some (cond b (Some m) (find is_it (ns ++ more))) ≡ true
      at true h rest = refl
      at false h rest = rest h

  found_last : (ns : List Name) (m : Name) → is_it m ≡ true → is_some (find is_it (ns ++ m ∷ [])) ≡ true
  found_last [] m h = rw h refl
  found_last (n ∷ ns) m h = at (is_it n) (found_last ns m h)
    where
      at : (b : Bool) → is_some (find is_it (ns ++ m ∷ [])) ≡ true → is_some (cond b (Some n) (find is_it (ns ++ m ∷ []))) ≡ true
      at true rest = refl
      at false rest = rest

  shown_number : (x : Option Name) → is_some (option_map (λ (m : Name). m.number) x) ≡ is_some x
  shown_number None = refl
  shown_number (Some m) = refl

  pub numbered_with : (ns more : List Name) → is_some (number_in ns p o) ≡ true → is_some (number_in (ns ++ more) p o) ≡ true
  numbered_with ns more h = shown_number _ ∙ found_with ns more (sym (shown_number _) ∙ h)

  pub numbered_last : (ns : List Name) (n : ℕ) → is_some (number_in (ns ++ record { process = p; number = n; object = o } ∷ []) p o) ≡ true
  numbered_last ns n = shown_number _ ∙ found_last ns _ (rw (same_self o, eq-eqb p p refl) refl)

module _ (manager : Option Identity) (objects : List Object) (p : ℕ) where
  abbrev gives : List Name → Item → List Name
  gives = give manager objects p

  numbered_other : (x : Item) (ns : List Name) (o : Identity) → is_some (number_in ns p o) ≡ true → is_some (number_in (gives ns x) p o) ≡ true
  numbered_other x ns o h = let g = grown manager objects p (λ m. true) ns x in subst (λ ms. is_some (number_in ms p o) ≡ true) (sym g.1) (numbered_with p o ns g.0 h)

  numbered_fold : (xs : List Item) (ns : List Name) (o : Identity) → is_some (number_in ns p o) ≡ true → is_some (number_in (fold gives ns xs) p o) ≡ true
  numbered_fold [] ns o h = h
  numbered_fold (x ∷ xs) ns o h = numbered_fold xs (gives ns x) o (numbered_other x ns o h)

  given_case : (own some : Bool) (ns ms : List Name) (o : Identity) → some ≡ is_some (number_in ns p o) → is_some (number_in ms p o) ≡ true
      → (own || is_some (number_in (if own then ns else (if some then ns else ms)) p o)) ≡ true
  given_case true some ns ms o e h = refl
  given_case false true ns ms o e h = sym e
  given_case false false ns ms o e h = h

  given_one : (ns : List Name) (o : Identity) → (owned_in objects p o || is_some (number_in (with_other_name manager objects p ns o) p o)) ≡ true
  given_one ns o = given_case (owned_in objects p o) (is_some (number_in ns p o)) ns _ o refl (numbered_last p o ns _)

  -- an object that is another's
  pub given_other : (ns : List Name) (o : Identity) → owned_in objects p o ≡ false → is_some (number_in (with_other_name manager objects p ns o) p o) ≡ true
  given_other ns o e = by (owned_in objects p o) e (given_one ns o)
    where
      by : (own : Bool) → own ≡ false → (own || is_some (number_in (with_other_name manager objects p ns o) p o)) ≡ true → is_some (number_in (with_other_name manager objects p ns o) p o) ≡ true
      by true e h = absurd (cc)
      by false e h = h

  or_more : (a b c : Bool) → (b ≡ true → c ≡ true) → (a || b) ≡ true → (a || c) ≡ true
  or_more true b c f h = refl
  or_more false b c f h = f h

  named_all : (xs ys : List Item) (ns : List Name) → list_all (λ (x : Item). is_some (object_in objects x.object)) xs ≡ true
      → ((ms : List Name) (x : Item) (o : Identity) → is_some (number_in ms p o) ≡ true → is_some (number_in (fold gives ms ys) p o) ≡ true)
      → list_all (λ (x : Item). is_ready objects (fold gives (fold gives ns xs) ys) p x.object) xs ≡ true
  named_all [] ys ns h k = refl
  named_all (x ∷ xs) ys ns h k =
      let here = and_parts (is_some (object_in objects x.object)) (list_all (λ (y : Item). is_some (object_in objects y.object)) xs) h in
      and_from _ _
      (and_from _ _ here.0 (or_more (owned_in objects p x.object) _ _ (λ e. k _ x x.object (numbered_fold xs (gives ns x) x.object e)) (given_one ns x.object)))
      (named_all xs ys (gives ns x) here.1 k)

  -- each item's object that is there
  pub given_ready : (xs : List Item) (ns : List Name) → list_all (λ (x : Item). is_some (object_in objects x.object)) xs ≡ true
      → AreReady objects (fold (with_other_name manager objects p) ns (map object_of_item xs)) p xs
  given_ready xs ns h = subst (λ ms. AreReady objects ms p xs) (give_all manager objects p xs ns) (named_all xs [] ns h (λ ms x o e. e))
