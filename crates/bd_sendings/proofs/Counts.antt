-- How many pass a test, as some come and go.
use Rattle.std.proofs.Common.{◌≡◌, ℕ, ◌+◌, ◌≤◌, Bool, true, false, not, ◌&&◌, ◌||◌, cond, List, [], ◌∷◌, ◌++◌, filter, count_by, refl, ap, arith}
use Rattle.std.specs.List.{list_any}
use Rattle.std.proofs.lemmas.List.Sums.{sum_by-cons, sum_by_push}
use Rattle.bd_sendings.specs.declared.sent.Sent.{Sent}

pub count_cons : (p : Sent → Bool) (x : Sent) (xs : List Sent) → count_by p (x ∷ xs) ≡ cond (p x) 1 0 + count_by p xs
count_cons p x xs = sum_by-cons (λ y. cond (p y) 1 0) x xs

count_push : (p : Sent → Bool) (xs : List Sent) (x : Sent) → count_by p (xs ++ x ∷ []) ≡ count_by p xs + cond (p x) 1 0
count_push p xs x = sum_by_push (λ y. cond (p y) 1 0) xs x

-- one more, where none was
abbrev one_of : Bool → ℕ
one_of b = cond b 1 0

pub pushed : (p : Sent → Bool) (xs : List Sent) (x : Sent) → count_by p xs ≤ 1 → (p x ≡ true → count_by p xs ≡ 0) → count_by p (xs ++ x ∷ []) ≤ 1
pushed p xs x le none = at (p x) refl
  where
    at : (b : Bool) → p x ≡ b → count_by p (xs ++ x ∷ []) ≤ 1
    at true e = let zero = none e in let one : one_of (p x) ≡ 1 = ap one_of e in omega (arith, count_push p xs x, zero, one)
    at false e = let no : one_of (p x) ≡ 0 = ap one_of e in omega (arith, count_push p xs x, le, no)

module _ (f q : Sent → Bool) where
  abbrev pub rest : List Sent → List Sent
  rest l = filter (λ x. not (q x)) l

  pub fewer : (l : List Sent) → count_by f (rest l) ≤ count_by f l
  fewer [] = omega arith
  fewer (x ∷ l) = at (q x) (fewer l)
    where
      at : (b : Bool) → count_by f (rest l) ≤ count_by f l → count_by f (cond (not b) (x ∷ rest l) (rest l)) ≤ count_by f (x ∷ l)
      at true more = omega (arith, more, count_cons f x l)
      at false more = omega (arith, more, count_cons f x l, count_cons f x (rest l))

  pub none_in_rest : ((x : Sent) → f x ≡ true → q x ≡ true) → (l : List Sent) → count_by f (rest l) ≡ 0
  none_in_rest on [] = refl
  none_in_rest on (x ∷ l) = at (q x) refl (f x) refl (none_in_rest on l)
    where
      at : (b : Bool) → q x ≡ b → (c : Bool) → f x ≡ c → count_by f (rest l) ≡ 0 → count_by f (cond (not b) (x ∷ rest l) (rest l)) ≡ 0
      at true e c g more = more
      at false e true g more = absurd (let k = on x g in cc)
      at false e false g more = grind (arith, g, more, count_cons f x (rest l))

pub none_count : (q p : Sent → Bool) → ((x : Sent) → q x ≡ true → p x ≡ true) → (l : List Sent) → list_any p l ≡ false → count_by q l ≡ 0
none_count q p so [] e = refl
none_count q p so (x ∷ l) e = at (q x) refl (none_count q p so l)
  where
    at : (b : Bool) → q x ≡ b → (list_any p l ≡ false → count_by q l ≡ 0) → count_by q (x ∷ l) ≡ 0
    at true f more = absurd (let k = so x f in grind (arith, k, e))
    at false f more = grind (arith, f, more, e, count_cons q x l)

-- a narrower test finds none either
pub none_narrower : (q p : Sent → Bool) → ((x : Sent) → q x ≡ true → p x ≡ true) → (l : List Sent) → list_any p l ≡ false → list_any q l ≡ false
none_narrower q p so [] e = refl
none_narrower q p so (x ∷ l) e = at (q x) refl (none_narrower q p so l)
  where
    at : (b : Bool) → q x ≡ b → (list_any p l ≡ false → list_any q l ≡ false) → list_any q (x ∷ l) ≡ false
    at true f more = absurd (let k = so x f in grind (arith, k, e))
    at false f more = grind (arith, f, more, e)

-- where one is that passes both tests, and one that passes the first alone, two pass the first
pub two_pass : (p q r : Sent → Bool) → ((x : Sent) → q x ≡ true → (p x ≡ true) × (r x ≡ false)) → ((x : Sent) → r x ≡ true → p x ≡ true) → (l : List Sent)
    → count_by q l + count_by r l ≤ count_by p l
two_pass p q r onq onr [] = omega arith
two_pass p q r onq onr (x ∷ l) = at (q x) refl (r x) refl (p x) refl (two_pass p q r onq onr l)
  where
    ones : (t : Sent → Bool) (b : Bool) → t x ≡ b → count_by t (x ∷ l) ≡ cond b 1 0 + count_by t l
    ones t b e = grind (arith, e, count_cons t x l)

    at : (b : Bool) → q x ≡ b → (c : Bool) → r x ≡ c → (d : Bool) → p x ≡ d → count_by q l + count_by r l ≤ count_by p l
        → count_by q (x ∷ l) + count_by r (x ∷ l) ≤ count_by p (x ∷ l)
    at true e true f d g more = absurd (let k = (onq x e).1 in cc)
    at true e false f false g more = absurd (let k = (onq x e).0 in cc)
    at false e true f false g more = absurd (let k = onr x f in cc)
    at true e false f true g more = omega (arith, more, ones q true e, ones r false f, ones p true g)
    at false e true f true g more = omega (arith, more, ones q false e, ones r true f, ones p true g)
    at false e false f true g more = omega (arith, more, ones q false e, ones r false f, ones p true g)
    at false e false f false g more = omega (arith, more, ones q false e, ones r false f, ones p false g)

pub some_count : (p : Sent → Bool) (l : List Sent) → list_any p l ≡ true → 1 ≤ count_by p l
some_count p [] e = absurd cc
some_count p (x ∷ l) e = at (p x) refl (some_count p l)
  where
    at : (b : Bool) → p x ≡ b → (list_any p l ≡ true → 1 ≤ count_by p l) → 1 ≤ count_by p (x ∷ l)
    at true f more = grind (arith, f, count_cons p x l)
    at false f more = let rest : list_any p l ≡ true = grind (arith, f, e) in let one = more rest in grind (arith, f, one, count_cons p x l)
