-- A space's names, when a record came or went.
use Rattle.bd_records.proofs.Words.{Bool, Identity, IfNone, IfSome, IsNextNumber, KeepsNames, List, Name, Names, NamesAre, None, Option, Some, [], and_parts, ap, arith, cases_lt, cond, eq-eqb, eqb-true, false, filter, find, has, has_number, has_object, inl, inr, is_at, is_some, named_by, named_in}
use Rattle.bd_records.proofs.Words.{nat_lt, nat_tests, new_number, not, number_in, number_of, option_map, refl, same, same_eq, subst, sym, true, with_number, ℕ, ◌&&◌, ◌++◌, ◌<◌, ◌==◌, ◌^◌, ◌∙◌, ◌∷◌, ◌≡◌, ◌≤◌}
use Rattle.bd_records.proofs.{FreeNumbers.{free_first, free_past}, Freeing.{free_unnamed, used_named}, Limits.{fits_filter, fits_push, past_unnamed}, NamesFound.{came_number, came_object, came_sound, gone_number, gone_object, gone_sound, none_gone}}

abbrev name : ℕ → ℕ → Identity → Name
name p n o = record { process = p; number = n; object = o }

-- a number that is free while those below aren't is what the definition gives
pub new_is : (t : Names) (l : List Name) → NamesAre t l → (zero : Bool) (p n : ℕ) → named_by t p n ≡ None → cond zero 0 1 ≤ n → ((m : ℕ) → cond zero 0 1 ≤ m → m < n → is_some (named_by t p m) ≡ true)
    → n ≡ new_number zero p l
new_is t l h zero p n free from before =
    free_first p l (cond zero 0 1) n from (λ i a b. used_named p l i ∙ ap is_some (h.objects_are p i) ∙ before i a b) (used_named p l n ∙ ap is_some (h.objects_are p n ∙ free))

pub past_is : (t : Names) (l : List Name) → NamesAre t l → (zero : Bool) (p : ℕ) → ((m : ℕ) → cond zero 0 1 ≤ m → m ≤ 4294967294 → is_some (named_by t p m) ≡ true) → 4294967294 < new_number zero p l
past_is t l h zero p full =
    let past = free_past p l (cond zero 0 1) 4294967295 (λ i a b. used_named p l i ∙ ap is_some (h.objects_are p i) ∙ full i a (omega (arith, b))) in
    omega (arith, past)

-- a name comes, with the number that it gets
pub given : (t u : Names) (l : List Name) (zero : Bool) (p n : ℕ) (o : Identity) → NamesAre t l → n ≤ 4294967294 → number_of t p o ≡ None → n ≡ new_number zero p l
    → ((q m : ℕ) → named_by u q m ≡ cond ((p == q) && (n == m)) (Some o) (named_by t q m))
    → ((q : ℕ) (x : Identity) → number_of u q x ≡ cond ((p == q) && same o x) (Some n) (number_of t q x))
    → NamesAre u (with_number zero p l o)
given t u l zero p n o h small lacks is objects numbers = subst (NamesAre u) (new_list (number_in l p o) (h.numbers_are p o ∙ lacks)) came
  where
    within : nat_lt 4294967294 n ≡ false
    within = grind (arith, nat_tests)

    free : named_in l p n ≡ None
    free = free_unnamed p l (cond zero 0 1) n is

    new : number_in l p o ≡ None
    new = h.numbers_are p o ∙ lacks

    came : NamesAre u (l ++ name p n o ∷ [])
    came = record {
      sound = came_sound l (name p n o) h.sound free new;
      objects_are = λ q m. came_object l (name p n o) h.sound free new q m ∙ ap (λ y. cond {A = Option Identity} ((p == q) && (n == m)) (Some o) y) (h.objects_are q m) ∙ sym (objects q m);
      numbers_are = λ q x. came_number l (name p n o) h.sound free new q x ∙ ap (λ y. cond {A = Option ℕ} ((p == q) && same o x) (Some n) y) (h.numbers_are q x) ∙ sym (numbers q x);
      fits = fits_push l (name p n o) h.fits within;
    }

    new_list : (x : Option ℕ) → number_in l p o ≡ None → l ++ name p n o ∷ [] ≡ with_number zero p l o
    new_list x e = rw e (ap (λ k. l ++ name p k o ∷ []) is)

-- a name goes
pub taken : (t u : Names) (l : List Name) (p n : ℕ) (o : Identity) → NamesAre t l → number_of t p o ≡ Some n
    → ((q m : ℕ) → named_by u q m ≡ cond ((p == q) && (n == m)) None (named_by t q m))
    → ((q : ℕ) (x : Identity) → number_of u q x ≡ cond ((p == q) && same o x) None (number_of t q x))
    → NamesAre u (filter (λ m. not (has_object p o m)) l)
taken t u l p n o h has objects numbers =
    let here = h.numbers_are p o ∙ has in
    record {
      sound = gone_sound l (λ m. not (has_object p o m)) h.sound;
      objects_are = λ q m. gone_object l h.sound p o n here q m ∙ ap (λ y. cond {A = Option Identity} ((p == q) && (n == m)) None y) (h.objects_are q m) ∙ sym (objects q m);
      numbers_are = λ q x. gone_number l h.sound p o n here q x ∙ ap (λ y. cond {A = Option ℕ} ((p == q) && same o x) None y) (h.numbers_are q x) ∙ sym (numbers q x);
      fits = fits_filter (λ m. not (has_object p o m)) l h.fits;
    }

-- nothing goes where there is none
pub none_taken : (t u : Names) (l : List Name) (p : ℕ) (o : Identity) → NamesAre t l → number_of t p o ≡ None
    → ((q m : ℕ) → named_by u q m ≡ named_by t q m) → ((q : ℕ) (x : Identity) → number_of u q x ≡ number_of t q x)
    → NamesAre u (filter (λ m. not (has_object p o m)) l)
none_taken t u l p o h none objects numbers =
    subst (NamesAre u) (sym (none_gone l h.sound p o (h.numbers_are p o ∙ none)))
    (record { sound = h.sound; objects_are = λ q m. h.objects_are q m ∙ sym (objects q m); numbers_are = λ q x. h.numbers_are q x ∙ sym (numbers q x); fits = h.fits })

pub some_shown : {A B : Type 0} (f : A → B) (v : Option A) → is_some (option_map f v) ≡ is_some v
some_shown f None = refl
some_shown f (Some x) = refl

-- the name goes that there is, if there is one
pub gone : (t u : Names) (p : ℕ) (o : Identity) (k : Option ℕ) → number_of t p o ≡ k
    → ((q m : ℕ) → named_by u q m ≡ cond ((p == q) && is_at m k) None (named_by t q m))
    → ((q : ℕ) (x : Identity) → number_of u q x ≡ cond ((p == q) && same o x) None (number_of t q x))
    → (l : List Name) → NamesAre t l → NamesAre u (filter (λ m. not (has_object p o m)) l)
gone t u p o (Some n) is objects numbers l h = taken t u l p n o h is objects numbers
gone t u p o None is objects numbers l h = none_taken t u l p o h is (λ q m. grind (arith, objects q m)) (λ q x. at q x ((p == q) && same o x) refl)
  where
    at : (q : ℕ) (x : Identity) (b : Bool) → ((p == q) && same o x) ≡ b → number_of u q x ≡ number_of t q x
    at q x false e = grind (arith, numbers q x, e)
    at q x true e =
        let k = and_parts (p == q) (same o x) e in
        let other : number_of t q x ≡ None = subst (λ y. number_of t q y ≡ None) (same_eq o x k.1) (subst (λ y. number_of t y o ≡ None) (eqb-true p q k.0) is) in
        grind (arith, numbers q x, e, other)

pub names_kept : (t u : Names) → ((q m : ℕ) → named_by u q m ≡ named_by t q m) → ((q : ℕ) (x : Identity) → number_of u q x ≡ number_of t q x) → KeepsNames t u
names_kept t u objects numbers l h = record { sound = h.sound; objects_are = λ q m. h.objects_are q m ∙ sym (objects q m); numbers_are = λ q x. h.numbers_are q x ∙ sym (numbers q x); fits = h.fits }

-- the next number in the records is the next that names something
pub next_is : (t : Names) (l : List Name) → NamesAre t l → (p from : ℕ) (r : Option ℕ)
    → IfNone r ((m : ℕ) → from ≤ m → m < 2 ^ 32 → named_by t p m ≡ None) → IfSome r (λ n. from ≤ n) → IfSome r (λ n. is_some (named_by t p n) ≡ true)
    → IfSome r (λ n. (m : ℕ) → from ≤ m → m < n → named_by t p m ≡ None) → IsNextNumber l p from r
next_is t l h p from None none le there before = λ n le. elim (cases_lt n 4294967296) [
  | inl lt ↦ h.objects_are p n ∙ none n le (omega (arith, lt))
  | inr ge ↦ past_unnamed l h.fits p n (omega (arith, ge))
]
next_is t l h p from (Some n) none le there before = (le, ap is_some (h.objects_are p n) ∙ there, λ m le lt. h.objects_are p m ∙ before m le lt)

-- all names of a process go
module _ (p : ℕ) where
  abbrev other : Name → Bool
  other m = not (m.process == p)

  -- none of one that goes is found, and each of another is
  left_found : {A : Type 0} (f : Name → A) (k : Name → Bool) (q : ℕ) → ((m : Name) → k m ≡ true → m.process ≡ q) → (l : List Name)
      → option_map f (find k (filter other l)) ≡ cond (p == q) None (option_map f (find k l))
  left_found f k q of [] = grind arith
  left_found f k q of (m ∷ l) = at (m.process == p) refl (k m) refl (p == q) refl (left_found f k q of l)
    where
      at : (a : Bool) → (m.process == p) ≡ a → (b : Bool) → k m ≡ b → (d : Bool) → (p == q) ≡ d → option_map f (find k (filter other l)) ≡ cond (p == q) None (option_map f (find k l))
          → option_map f (find k (cond (not a) (m ∷ filter other l) (filter other l))) ≡ cond d None (option_map f (cond b (Some m) (find k l)))
      at true e true g true i more = more ∙ ap (λ c. cond c None (option_map f (find k l))) i
      at true e true g false i more = absurd (let h : (p == q) ≡ true = subst (λ r. (p == r) ≡ true) (of m g) (subst (λ r. (r == m.process) ≡ true) (eqb-true m.process p e) (eq-eqb m.process m.process refl)) in cc)
      at true e false g d i more = more ∙ ap (λ c. cond c None (option_map f (find k l))) i
      at false e true g true i more = absurd (let h : (m.process == p) ≡ true = subst (λ r. (m.process == r) ≡ true) (of m g ∙ sym (eqb-true p q i)) (eq-eqb m.process m.process refl) in cc)
      at false e true g false i more = ap (λ c. option_map f (cond c (Some m) (find k (filter other l)))) g
      at false e false g d i more = ap (λ c. option_map f (cond c (Some m) (find k (filter other l)))) g ∙ more ∙ ap (λ c. cond c None (option_map f (find k l))) i

  pub ended : (t u : Names) → ((q m : ℕ) → named_by u q m ≡ cond (p == q) None (named_by t q m)) → ((q : ℕ) (x : Identity) → number_of u q x ≡ cond (p == q) None (number_of t q x))
      → (l : List Name) → NamesAre t l → NamesAre u (filter (λ m. not (m.process == p)) l)
  ended t u named numbers l h = record {
    sound = gone_sound l other h.sound;
    objects_are = λ q n. left_found (λ (m : Name). m.object) (has_number q n) q (λ m e. of_number q n m e) l ∙ ap (λ y. cond {A = Option Identity} (p == q) None y) (h.objects_are q n) ∙ sym (named q n);
    numbers_are = λ q x. left_found (λ (m : Name). m.number) (has_object q x) q (λ m e. of_object q x m e) l ∙ ap (λ y. cond {A = Option ℕ} (p == q) None y) (h.numbers_are q x) ∙ sym (numbers q x);
    fits = fits_filter other l h.fits;
  }
    where
      of_number : (q n : ℕ) (m : Name) → has_number q n m ≡ true → m.process ≡ q
      of_number q n m e = eqb-true m.process q (and_parts (m.process == q) (m.number == n) e).0

      of_object : (q : ℕ) (x : Identity) (m : Name) → has_object q x m ≡ true → m.process ≡ q
      of_object q x m e = eqb-true m.process q (and_parts (m.process == q) (same m.object x) e).0
