-- A change at one name: what is said of the elements there is the same of each.
use Rattle.bd_objects.proofs.Words.{Bool, DeathNotification, Identity, List, Name, Object, Reference, [], and_parts, ap, at_name, cond, eqb-true, false, filter, is_lost, is_name_of, is_named_in, list_any, not, refl, same_eq, sym, true, ℕ, ◌&&◌, ◌||◌}
use Rattle.bd_objects.proofs.Words.{◌∙◌, ◌∷◌, ◌≡◌}

module _ {A : Type 0} (chosen stays : A → Bool) where
  stay : (xs : List A) → ((x : A) → chosen x ≡ true → stays x ≡ true) → filter (λ x. not (chosen x) || stays x) xs ≡ xs
  stay [] h = refl
  stay (x ∷ xs) h = ap (λ b. cond b (x ∷ rest) rest) (by (chosen x) refl) ∙ ap (λ ys. x ∷ ys) (stay xs h)
    where
      rest : List A
      rest = filter (λ y. not (chosen y) || stays y) xs

      by : (b : Bool) → chosen x ≡ b → (not b || stays x) ≡ true
      by true e = h x e
      by false e = refl

  go : (xs : List A) → ((x : A) → chosen x ≡ true → stays x ≡ false) → filter (λ x. not (chosen x) || stays x) xs ≡ filter (λ x. not (chosen x)) xs
  go [] h = refl
  go (x ∷ xs) h =
      ap (λ b. cond b (x ∷ filter (λ y. not (chosen y) || stays y) xs) (filter (λ y. not (chosen y) || stays y) xs)) (by (chosen x) refl)
      ∙ ap (λ ys. cond (not (chosen x)) (x ∷ ys) ys) (go xs h)
    where
      by : (b : Bool) → chosen x ≡ b → (not b || stays x) ≡ not b
      by true e = h x e
      by false e = refl

  pub all_stay : (b : Bool) (xs : List A) → b ≡ true → ((x : A) → chosen x ≡ true → stays x ≡ b) → xs ≡ filter (λ x. not (chosen x) || stays x) xs
  all_stay b xs e h = sym (stay xs (λ x k. h x k ∙ e))

  pub all_go : (b : Bool) (xs : List A) → b ≡ false → ((x : A) → chosen x ≡ true → stays x ≡ b) → filter (λ x. not (chosen x)) xs ≡ filter (λ x. not (chosen x) || stays x) xs
  all_go b xs e h = sym (go xs (λ x k. h x k ∙ e))

-- ---- names

pub named_at : (objects : List Object) (refs : List Reference) (p : ℕ) (o : Identity) (b : Bool) → b ≡ is_named_in objects refs p o
    → (m : Name) → at_name p o m.process m.object ≡ true → is_named_in objects refs m.process m.object ≡ b
named_at objects refs p o b e m h = let k = and_parts _ _ h in rw (eqb-true m.process p k.0, same_eq m.object o k.1) (sym e)

-- ---- death notifications

module _ (names : List Name) (p : ℕ) (o : Identity) where
  abbrev at : DeathNotification → Bool
  at x = at_name p o x.process x.object

  there : (x : DeathNotification) → at x ≡ true → is_name_of names x.process x.object ≡ is_name_of names p o
  there x h = let k = and_parts _ _ h in rw (eqb-true x.process p k.0, same_eq x.object o k.1) refl

  abbrev stays : DeathNotification → Bool
  stays x = not (at x) || (x.cleared || is_name_of names x.process x.object)

  stays_at : (b : Bool) → b ≡ is_name_of names p o → (x : DeathNotification) → stays x ≡ (not (at x) || (x.cleared || b))
  stays_at b e x = by (at x) refl
    where
      by : (a : Bool) → at x ≡ a → (not a || (x.cleared || is_name_of names x.process x.object)) ≡ (not a || (x.cleared || b))
      by true h = rw (there x h, ← e) refl
      by false h = refl

  pub filtered_at : (b : Bool) → b ≡ is_name_of names p o → (xs : List DeathNotification) → filter stays xs ≡ filter (λ x. not (at x) || (x.cleared || b)) xs
  filtered_at b e [] = refl
  filtered_at b e (x ∷ xs) =
      ap (λ t. cond t (x ∷ filter stays xs) (filter stays xs)) (stays_at b e x)
      ∙ ap (λ ys. cond (not (at x) || (x.cleared || b)) (x ∷ ys) ys) (filtered_at b e xs)

  lost_at : (x : DeathNotification) (a : Bool) → at x ≡ a → (a && not x.cleared && not (is_name_of names x.process x.object)) ≡ ((a && not x.cleared) && not (is_name_of names p o))
  lost_at x true h = rw (there x h) refl
  lost_at x false h = refl

  pub lost_gone : (b : Bool) → b ≡ is_name_of names p o → b ≡ false → (xs : List DeathNotification) → list_any (λ x. at x && not x.cleared) xs ≡ list_any (is_lost names p o) xs
  lost_gone b e h [] = refl
  lost_gone b e h (x ∷ xs) =
      let t : is_lost names p o x ≡ (at x && not x.cleared) = lost_at x (at x) refl ∙ rw (← e, h) (and_true (at x && not x.cleared)) in
      ap (λ c. c || list_any (λ y. at y && not y.cleared) xs) (sym t) ∙ ap (λ c. is_lost names p o x || c) (lost_gone b e h xs)
    where
      and_true : (a : Bool) → (a && true) ≡ a
      and_true true = refl
      and_true false = refl

  pub lost_none : (b : Bool) → b ≡ is_name_of names p o → b ≡ true → (xs : List DeathNotification) → false ≡ list_any (is_lost names p o) xs
  lost_none b e h [] = refl
  lost_none b e h (x ∷ xs) =
      let t : is_lost names p o x ≡ false = lost_at x (at x) refl ∙ rw (← e, h) (and_false (at x && not x.cleared)) in
      lost_none b e h xs ∙ ap (λ c. c || list_any (is_lost names p o) xs) (sym t)
    where
      and_false : (a : Bool) → (a && false) ≡ false
      and_false true = refl
      and_false false = refl
