-- Names by process and number, and by process and object, as names come and go. No two of a process have one number.
use Rattle.bd_records.proofs.Words.{Bool, Identity, List, Name, None, Option, Some, Sound, [], and_from, and_parts, ap, arith, both_ways, cond, count_by, eq-eqb, eqb, eqb-true, false, filter, find, find-append, found_passes, has_number, has_object, named_in, none_mapped, not, number_in}
use Rattle.bd_records.proofs.Words.{option_and_then, option_map, option_or, refl, same, same_eq, same_turned, subst, sym, true, ℕ, ◌&&◌, ◌++◌, ◌∙◌, ◌∷◌, ◌≡◌, ◌≤◌}
use Rattle.bd_records.proofs.{Singles.{few_filter, few_push, find_filter, none_count, none_dropped, only}, Turned.{turned}}

find_push : {A : Type 0} (key : A → Bool) (xs : List A) (x : A) → find key (xs ++ x ∷ []) ≡ option_or (find key xs) (cond (key x) (Some x) None)
find_push key xs x = find-append key xs (x ∷ [])

map_push : {A B : Type 0} (f : A → B) (old : Option A) (x : A) (b : Bool) → (b ≡ true → option_map f old ≡ None)
    → option_map f (option_or old (cond b (Some x) None)) ≡ cond b (Some (f x)) (option_map f old)
map_push f None x true h = refl
map_push f None x false h = refl
map_push f (Some y) x true h = absurd (let z = h refl in cc)
map_push f (Some y) x false h = refl

some_map : {A B : Type 0} (f : A → B) (o : Option A) (y : B) → option_map f o ≡ Some y → (x : A) × (o ≡ Some x) × (f x ≡ y)
some_map f None y h = absurd (cc)
some_map f (Some x) y h = (x, refl, cc)

-- ---- a name comes in with a number that is free, for an object without a name

module _ (names : List Name) (m : Name) (h : Sound names) (free : named_in names m.process m.number ≡ None) (new : number_in names m.process m.object ≡ None) where
  free_at : (p n : ℕ) → has_number p n m ≡ true → named_in names p n ≡ None
  free_at p n t = let k = and_parts (eqb m.process p) (eqb m.number n) t in rw (← eqb-true m.process p k.0, ← eqb-true m.number n k.1) free

  new_at : (p : ℕ) (o : Identity) → has_object p o m ≡ true → number_in names p o ≡ None
  new_at p o t = let k = and_parts (eqb m.process p) (same m.object o) t in rw (← eqb-true m.process p k.0, ← same_eq m.object o k.1) new

  pub came_sound : Sound (names ++ m ∷ [])
  came_sound = record {
    one_number = λ p n. few_push (has_number p n) names m (h.one_number p n) (λ t. none_mapped (λ (k : Name). k.object) (find (has_number p n) names) (free_at p n t));
    one_name = λ p o. few_push (has_object p o) names m (h.one_name p o) (λ t. none_mapped (λ (k : Name). k.number) (find (has_object p o) names) (new_at p o t));
  }

  pub came_object : (p n : ℕ) → named_in (names ++ m ∷ []) p n ≡ cond (has_number p n m) (Some m.object) (named_in names p n)
  came_object p n =
      ap (λ x. option_map (λ (k : Name). k.object) x) (find_push (has_number p n) names m)
      ∙ map_push (λ (k : Name). k.object) (find (has_number p n) names) m (has_number p n m) (free_at p n)

  pub came_number : (p : ℕ) (o : Identity) → number_in (names ++ m ∷ []) p o ≡ cond (has_object p o m) (Some m.number) (number_in names p o)
  came_number p o =
      ap (λ x. option_map (λ (k : Name). k.number) x) (find_push (has_object p o) names m)
      ∙ map_push (λ (k : Name). k.number) (find (has_object p o) names) m (has_object p o m) (new_at p o)

-- ---- names go that a test drops

filtered : {B : Type 0} (f : Name → B) (keep : Name → Bool) (b : Bool) (o : Option Name) → ((m : Name) → o ≡ Some m → keep m ≡ not b)
    → option_map f (option_and_then (λ m. cond (keep m) (Some m) None) o) ≡ cond b None (option_map f o)
filtered f keep true None h = refl
filtered f keep false None h = refl
filtered f keep b (Some m) h = rw (h m refl) (at b)
  where
    at : (b : Bool) → option_map f (cond (not b) (Some m) None) ≡ cond b None (Some (f m))
    at true = refl
    at false = refl

pub gone_sound : (names : List Name) (keep : Name → Bool) → Sound names → Sound (filter keep names)
gone_sound names keep h = record {
  one_number = λ p n. (let few = few_filter (has_number p n) keep names in let one = h.one_number p n in omega arith);
  one_name = λ p o. (let few = few_filter (has_object p o) keep names in let one = h.one_name p o in omega arith);
}

-- what is found of what was kept
gone_found : {B : Type 0} (f : Name → B) (key keep : Name → Bool) (b : Bool) (names : List Name) → count_by key names ≤ 1
    → ((m : Name) → find key names ≡ Some m → keep m ≡ not b) → option_map f (find key (filter keep names)) ≡ cond b None (option_map f (find key names))
gone_found f key keep b names few h = ap (λ x. option_map f x) (find_filter key keep names few) ∙ filtered f keep b (find key names) h

-- A key that no name has takes no name out of the list.
none_goes : {B : Type 0} (f : Name → B) (key : Name → Bool) (names : List Name) → option_map f (find key names) ≡ None
    → filter (λ m. not (key m)) names ≡ names
none_goes f key names e =
    let none = none_count key names (none_mapped f (find key names) e) in
    none_dropped key names (omega arith)

turned_both : (a b : ℕ) (c d : Identity) → (eqb a b && same d c) ≡ (eqb b a && same c d)
turned_both a b c d = ap (λ x. x && same d c) (turned a b) ∙ ap (λ x. eqb b a && x) (same_turned d c)

-- the one name of p for the object
module _ (names : List Name) (h : Sound names) (p : ℕ) (o : Identity) where
  abbrev keep : Name → Bool
  keep m = not (has_object p o m)

  -- Where p has no name for the object, taking its name out changes nothing.
  pub none_gone : number_in names p o ≡ None → filter keep names ≡ names
  none_gone e = none_goes (λ (k : Name). k.number) (has_object p o) names e

  module _ (n : ℕ) (has : number_in names p o ≡ Some n) where
    there : (m : Name) × (find (has_object p o) names ≡ Some m) × (m.number ≡ n)
    there = some_map (λ (k : Name). k.number) (find (has_object p o) names) n has

    -- a name of that number is the one of that object
    same_name : (q k : ℕ) (m : Name) → find (has_number q k) names ≡ Some m → has_object p o m ≡ (eqb p q && eqb n k)
    same_name q k m e =
        let t = and_parts (eqb m.process q) (eqb m.number k) (found_passes (has_number q k) names m e) in
        let mp : m.process ≡ q = eqb-true m.process q t.0 in
        let mn : m.number ≡ k = eqb-true m.number k t.1 in
        let w = and_parts (eqb there.0.process p) (same there.0.object o) (found_passes (has_object p o) names there.0 there.1) in
        both_ways (has_object p o m) (eqb p q && eqb n k)
        (λ y. (let u = and_parts (eqb m.process p) (same m.object o) y in
        let s : Some m ≡ Some there.0 = sym (only (has_object p o) (has_number q k) names m (h.one_name p o) e y) ∙ there.1 in
        let z : m ≡ there.0 = cc in
        and_from (eqb p q) (eqb n k) (eq-eqb p q (sym (eqb-true m.process p u.0) ∙ mp)) (eq-eqb n k (sym there.2 ∙ ap (λ (v : Name). v.number) (sym z) ∙ mn))))
        (λ y. (let u = and_parts (eqb p q) (eqb n k) y in
        let pass : has_number q k there.0 ≡ true = and_from (eqb there.0.process q) (eqb there.0.number k)
        (eq-eqb there.0.process q (eqb-true there.0.process p w.0 ∙ eqb-true p q u.0)) (eq-eqb there.0.number k (there.2 ∙ eqb-true n k u.1)) in
        let s : Some there.0 ≡ Some m = sym (only (has_number q k) (has_object p o) names there.0 (h.one_number q k) there.1 pass) ∙ e in
        let z : there.0 ≡ m = cc in
        subst (λ x. has_object p o x ≡ true) z (found_passes (has_object p o) names there.0 there.1)))

    pub gone_object : (q k : ℕ) → named_in (filter keep names) q k ≡ cond (eqb p q && eqb n k) None (named_in names q k)
    gone_object q k = gone_found (λ (m : Name). m.object) (has_number q k) keep (eqb p q && eqb n k) names (h.one_number q k) (λ m e. ap not (same_name q k m e))

    of_both : (q : ℕ) (x : Identity) (m : Name) → has_object q x m ≡ true → has_object p o m ≡ (eqb p q && same o x)
    of_both q x m t =
        let k = and_parts (eqb m.process q) (same m.object x) t in
        let mp : m.process ≡ q = eqb-true m.process q k.0 in
        let mo : m.object ≡ x = same_eq m.object x k.1 in
        rw (mp, mo) (turned_both q p o x)

    pub gone_number : (q : ℕ) (x : Identity) → number_in (filter keep names) q x ≡ cond (eqb p q && same o x) None (number_in names q x)
    gone_number q x = gone_found (λ (m : Name). m.number) (has_object q x) keep (eqb p q && same o x) names (h.one_name q x) (λ m e. ap not (of_both q x m (found_passes (has_object q x) names m e)))
