-- Lists of which no two elements have one key.
use Rattle.bd_records.proofs.Words.{AreDistinct, Bool, List, None, Option, Some, [], ap, changed, cond, false, filter, find, if◌then◌else◌, not, refl, subst, sym, true, ◌++◌, ◌||◌, ◌∙◌, ◌∷◌, ◌≡◌}

pub cons_none : {A : Type 0} (b : Bool) (x : A) (o : Option A) → cond b (Some x) o ≡ None → (b ≡ false) × (o ≡ None)
cons_none true x o h = absurd (cc)
cons_none false x o h = (refl, h)

pub none_cons : {A : Type 0} (b : Bool) (x : A) (o : Option A) → b ≡ false → o ≡ None → cond b (Some x) o ≡ None
none_cons b x o e h = rw (e, h) refl

module _ {A K : Type 0} (key : A → K) (eq : K → K → Bool) where
  abbrev pub at : K → A → Bool
  at k x = eq (key x) k

  pub filter_none : (p : A → Bool) (k : K) (xs : List A) → find (at k) xs ≡ None → find (at k) (filter p xs) ≡ None
  filter_none p k [] h = refl
  filter_none p k (x ∷ xs) h =
      let c = cons_none (at k x) x (find (at k) xs) h in
      let rest = filter_none p k xs c.1 in
      elim (p x) as (λ b. find (at k) (cond b (x ∷ filter p xs) (filter p xs)) ≡ None)
      [ true ↦ none_cons _ x _ c.0 rest | false ↦ rest ]

  pub filter_distinct : (p : A → Bool) (xs : List A) → AreDistinct key eq xs → AreDistinct key eq (filter p xs)
  filter_distinct p [] d = d
  filter_distinct p (x ∷ xs) d =
      let rest = filter_distinct p xs d.1 in
      elim (p x) as (λ b. AreDistinct key eq (cond b (x ∷ filter p xs) (filter p xs)))
      [ true ↦ (filter_none p (key x) xs d.0, rest) | false ↦ rest ]

  -- a change that leaves the keys
  module _ (p : A → Bool) (f : A → A) (stays : (x : A) → key (f x) ≡ key x) where
    by_key : (b : Bool) (x : A) → key (if b then f x else x) ≡ key x
    by_key true x = stays x
    by_key false x = refl

    pub changed_none : (k : K) (xs : List A) → find (at k) xs ≡ None → find (at k) (changed p f xs) ≡ None
    changed_none k [] h = refl
    changed_none k (x ∷ xs) h =
        let c = cons_none (at k x) x (find (at k) xs) h in
        none_cons _ _ _ (ap (λ l. eq l k) (by_key (p x) x) ∙ c.0) (changed_none k xs c.1)

    pub changed_distinct : (xs : List A) → AreDistinct key eq xs → AreDistinct key eq (changed p f xs)
    changed_distinct [] d = d
    changed_distinct (x ∷ xs) d = (
      subst (λ k. find (at k) (changed p f xs) ≡ None) (sym (by_key (p x) x)) (changed_none (key x) xs d.0),
      changed_distinct xs d.1,
    )

  -- where nothing has the key, a change there changes nothing
  pub none_stays : (stays : A → Bool) (k : K) (xs : List A) → find (at k) xs ≡ None
      → filter (λ x. not (at k x) || stays x) xs ≡ xs
  none_stays stays k [] h = refl
  none_stays stays k (x ∷ xs) h =
      let c = cons_none (at k x) x (find (at k) xs) h in
      let t : (not (at k x) || stays x) ≡ true = rw (c.0) refl in
      ap (λ b. cond b (x ∷ filter (λ y. not (at k y) || stays y) xs) (filter (λ y. not (at k y) || stays y) xs)) t
      ∙ ap (λ ys. x ∷ ys) (none_stays stays k xs c.1)

  pub away_none : (k : K) (xs : List A) → find (at k) xs ≡ None → filter (λ x. not (at k x)) xs ≡ xs
  away_none k [] h = refl
  away_none k (x ∷ xs) h =
      let c = cons_none (at k x) x (find (at k) xs) h in
      ap (λ b. cond (not b) (x ∷ filter (λ y. not (at k y)) xs) (filter (λ y. not (at k y)) xs)) c.0
      ∙ ap (λ ys. x ∷ ys) (away_none k xs c.1)

module _ {A K : Type 0} (key : A → K) (eq : K → K → Bool) (alike : (a b : K) → eq a b ≡ true → a ≡ b)
    (itself : (a : K) → eq a a ≡ true) where
  abbrev on : K → A → Bool
  on k x = eq (key x) k

  turned : (a b : K) (t : Bool) → eq b a ≡ t → eq a b ≡ false → t ≡ false
  turned a b false e h = refl
  turned a b true e h = let same : eq a b ≡ true =
      subst (λ c. eq a c ≡ true) (sym (alike b a e)) (itself a) in absurd (cc)

  pub push_none : (k : K) (x : A) (xs : List A) → find (on k) xs ≡ None → eq k (key x) ≡ false
      → find (on k) (xs ++ x ∷ []) ≡ None
  push_none k x [] h e = none_cons _ x _ (turned k (key x) _ refl e) refl
  push_none k x (y ∷ ys) h e = let c =
      cons_none (on k y) y (find (on k) ys) h in none_cons _ y _ c.0 (push_none k x ys c.1 e)

  -- a new one comes in
  pub push_distinct : (x : A) (xs : List A) → AreDistinct key eq xs → find (on (key x)) xs ≡ None
      → AreDistinct key eq (xs ++ x ∷ [])
  push_distinct x [] d h = (refl, tt)
  push_distinct x (y ∷ ys) d h =
      let c = cons_none (on (key x) y) y (find (on (key x)) ys) h in
      (push_none (key y) x ys d.0 c.0, push_distinct x ys d.1 c.1)

  -- what the first one with the key is, is said of the only one
  pub some_stays : (stays : A → Bool) (k : K) (x : A) (xs : List A) → AreDistinct key eq xs → find (on k) xs ≡ Some x
      → filter (λ y. not (on k y) || stays y) xs ≡ (if stays x then xs else filter (λ y. not (on k y)) xs)
  some_stays stays k x [] d h = absurd (cc)
  some_stays stays k x (y ∷ ys) d h = by (on k y) refl h (λ e. some_stays stays k x ys d.1 e)
    where
      rest : List A
      rest = filter (λ z. not (on k z) || stays z) ys

      away : List A
      away = filter (λ z. not (on k z)) ys

      join : (b : Bool) → rest ≡ (if b then ys else away) → y ∷ rest ≡ (if b then y ∷ ys else y ∷ away)
      join true e = ap (λ zs. y ∷ zs) e
      join false e = ap (λ zs. y ∷ zs) e

      alone : (b : Bool) → rest ≡ ys → away ≡ ys → cond b (y ∷ rest) rest ≡ (if b then y ∷ ys else away)
      alone true e f = ap (λ zs. y ∷ zs) e
      alone false e f = e ∙ sym f

      by : (b : Bool) → on k y ≡ b → cond b (Some y) (find (on k) ys) ≡ Some x
          → (find (on k) ys ≡ Some x → rest ≡ (if stays x then ys else away))
          → cond (not b || stays y) (y ∷ rest) rest ≡ (if stays x then y ∷ ys else cond (not b) (y ∷ away) away)
      by true e h further =
          let none : find (on k) ys ≡ None = subst (λ l. find (on l) ys ≡ None) (alike (key y) k e) d.0 in
          let is : y ≡ x = cc in
          let away-all : away ≡ ys = away_none key eq k ys none in
          subst (λ z. cond (stays y) (y ∷ rest) rest ≡ (if stays z then y ∷ ys else away)) is
          (alone (stays y) (none_stays key eq stays k ys none) away-all)
      by false e h further = join (stays x) (further h)
