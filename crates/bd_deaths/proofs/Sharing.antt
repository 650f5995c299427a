-- How many pass a test, and how many have a cookie, where one comes, goes or changes.
use Rattle.bd_deaths.proofs.Words.{All-map, AllPairs, AllPairs-cons, AreKept, AreShared, Bool, DeathNotification, Distinct, List, None, Option, Phase, Sharers, Some, WordKey, WordMap, [], ap, arith, changed, changed_none, cond, cookie_of, count_at}
use Rattle.bd_deaths.proofs.Words.{count_by, count_by-le-length, count_of, eqb-true, false, filter, filter_none, find, has, has_cookie, is_notification, is_told, is_told_of, is_told_with, length, look, map, not, one_if, option_map, pairs_head}
use Rattle.bd_deaths.proofs.Words.{pairs_tail, refl, rest_differ, same_word, subst, sum_by-cons, sum_by_push, sym, told_at, told_of, true, without, word_eq, word_self, ℕ, ◌&&◌, ◌++◌, ◌+◌, ◌-◌, ◌<◌, ◌==◌, ◌∙◌, ◌∷◌, ◌≡◌, ◌≤◌}

module _ {A : Type 0} where
  pub count_cons : (q : A → Bool) (x : A) (xs : List A) (b : Bool) → q x ≡ b → count_by q (x ∷ xs) ≡ cond b 1 0 + count_by q xs
  count_cons q x xs b e = sum_by-cons (λ y. cond (q y) 1 0) x xs ∙ ap (λ c. cond c 1 0 + count_by q xs) e

  pub count_push : (q : A → Bool) (xs : List A) (x : A) → count_by q (xs ++ x ∷ []) ≡ count_by q xs + one_if (q x)
  count_push q xs x = sum_by_push (λ y. cond (q y) 1 0) xs x

  -- where none passes none is found
  pub none_counted : (q : A → Bool) (xs : List A) → count_by q xs ≡ 0 → find q xs ≡ None
  none_counted q [] h = refl
  none_counted q (x ∷ xs) h = at (q x) refl (none_counted q xs)
    where
      at : (b : Bool) → q x ≡ b → (count_by q xs ≡ 0 → find q xs ≡ None) → cond b (Some x) (find q xs) ≡ None
      at true e rest = let c = count_cons q x xs true e in absurd (omega (arith, c, h))
      at false e rest = let c = count_cons q x xs false e in rest (omega (arith, c, h))

  -- what is found and passes is counted
  pub found_counted : (p q : A → Bool) (xs : List A) (e : A) → find p xs ≡ Some e → q e ≡ true → 1 ≤ count_by q xs
  found_counted p q [] e f is = absurd cc
  found_counted p q (x ∷ xs) e f is = at (p x) f (found_counted p q xs e)
    where
      at : (b : Bool) → cond b (Some x) (find p xs) ≡ Some e → (find p xs ≡ Some e → q e ≡ true → 1 ≤ count_by q xs) → 1 ≤ count_by q (x ∷ xs)
      at true f rest = let same : x ≡ e = cc in let c = count_cons q x xs true (ap q same ∙ is) in omega (arith, c)
      at false f rest = let r = rest f is in let c = count_cons q x xs (q x) refl in omega (arith, c, r)

  -- of the only one that passes it is the first
  pub only_counted : (p q : A → Bool) (xs : List A) (e : A) → count_by q xs ≡ 1 → find p xs ≡ Some e → q e ≡ true → find q xs ≡ Some e
  only_counted p q [] e one f is = absurd cc
  only_counted p q (x ∷ xs) e one f is = at (p x) (q x) refl f (found_counted p q xs e) (only_counted p q xs e)
    where
      at : (b c : Bool) → q x ≡ c → cond b (Some x) (find p xs) ≡ Some e → (find p xs ≡ Some e → q e ≡ true → 1 ≤ count_by q xs)
          → (count_by q xs ≡ 1 → find p xs ≡ Some e → q e ≡ true → find q xs ≡ Some e) → cond c (Some x) (find q xs) ≡ Some e
      at true true g f some rest = f
      at true false g f some rest = let same : x ≡ e = cc in let on = ap q same ∙ is in absurd (let off = sym on ∙ g in cc)
      at false true g f some rest = let r = some f is in let c = count_cons q x xs true g in absurd (omega (arith, c, r, one))
      at false false g f some rest = let c = count_cons q x xs false g in rest (omega (arith, c, one)) f is

  -- who passes one test passes the other
  pub counted_less : (q r : A → Bool) → ((x : A) → q x ≡ true → r x ≡ true) → (xs : List A) → count_by q xs ≤ count_by r xs
  counted_less q r more [] = omega arith
  counted_less q r more (x ∷ xs) = at (q x) (r x) refl refl (counted_less q r more xs)
    where
      at : (b c : Bool) → q x ≡ b → r x ≡ c → count_by q xs ≤ count_by r xs → count_by q (x ∷ xs) ≤ count_by r (x ∷ xs)
      at true false e f rest = let on = more x e in absurd (let off = sym on ∙ f in cc)
      at true true e f rest = let c = count_cons q x xs true e in let d = count_cons r x xs true f in omega (arith, c, d, rest)
      at false true e f rest = let c = count_cons q x xs false e in let d = count_cons r x xs true f in omega (arith, c, d, rest)
      at false false e f rest = let c = count_cons q x xs false e in let d = count_cons r x xs false f in omega (arith, c, d, rest)

  -- those that change pass as before
  pub count_same : (q p : A → Bool) (f : A → A) → ((x : A) → p x ≡ true → q (f x) ≡ q x) → (xs : List A) → count_by q (changed p f xs) ≡ count_by q xs
  count_same q p f same [] = refl
  count_same q p f same (x ∷ xs) =
      count_cons q (cond (p x) (f x) x) (changed p f xs) (q x) (at (p x) refl) ∙ ap (λ n. cond (q x) 1 0 + n) (count_same q p f same xs) ∙ sym (count_cons q x xs (q x) refl)
    where
      at : (b : Bool) → p x ≡ b → q (cond b (f x) x) ≡ q x
      at true e = same x e
      at false e = refl

-- ---- one of those that no two have a key of

module _ {A : Type 0} (key : A → ℕ) (q : A → Bool) (m : ℕ) where
  pub count_less : (xs : List A) (e : A) → Distinct key xs → find (has key m) xs ≡ Some e → count_by q (without key m xs) + one_if (q e) ≡ count_by q xs
  count_less [] e distinct is = absurd cc
  count_less (x ∷ xs) e distinct is = at (has key m x) refl is (count_less xs e (pairs_tail (λ a b. key a ≡ key b → ⊥) x xs distinct))
    where
      at : (b : Bool) → has key m x ≡ b → cond b (Some x) (find (has key m) xs) ≡ Some e
          → (find (has key m) xs ≡ Some e → count_by q (without key m xs) + one_if (q e) ≡ count_by q xs)
          → count_by q (cond (not b) (x ∷ without key m xs) (without key m xs)) + one_if (q e) ≡ count_by q (x ∷ xs)
      at true h f rest =
          let same : x ≡ e = cc in
          let none = ap (count_by q) (filter_none key m xs (rest_differ key m x xs distinct (eqb-true (key x) m h))) in
          let c = count_cons q x xs (q e) (ap q same) in
          omega (arith, none, c)
      at false h f rest =
          let r = rest f in
          let c = count_cons q x xs (q x) refl in
          let d = count_cons q x (without key m xs) (q x) refl in
          omega (arith, r, c, d)

  pub count_turned : (f : A → A) (xs : List A) (e : A) → Distinct key xs → find (has key m) xs ≡ Some e
      → count_by q (changed (has key m) f xs) + one_if (q e) ≡ count_by q xs + one_if (q (f e))
  count_turned f [] e distinct is = absurd cc
  count_turned f (x ∷ xs) e distinct is = at (has key m x) refl is (count_turned f xs e (pairs_tail (λ a b. key a ≡ key b → ⊥) x xs distinct))
    where
      at : (b : Bool) → has key m x ≡ b → cond b (Some x) (find (has key m) xs) ≡ Some e
          → (find (has key m) xs ≡ Some e → count_by q (changed (has key m) f xs) + one_if (q e) ≡ count_by q xs + one_if (q (f e)))
          → count_by q (cond b (f x) x ∷ changed (has key m) f xs) + one_if (q e) ≡ count_by q (x ∷ xs) + one_if (q (f e))
      at true h g rest =
          let same : x ≡ e = cc in
          let none = ap (count_by q) (changed_none key f m xs (rest_differ key m x xs distinct (eqb-true (key x) m h))) in
          let c = count_cons q x xs (q e) (ap q same) in
          let d = count_cons q (f x) (changed (has key m) f xs) (q (f e)) (ap (λ y. q (f y)) same) in
          omega (arith, none, c, d)
      at false h g rest =
          let r = rest g in
          let c = count_cons q x xs (q x) refl in
          let d = count_cons q x (changed (has key m) f xs) (q x) refl in
          omega (arith, r, c, d)

pub distinct_mapped : {A B : Type 0} (key : B → ℕ) (f : A → B) (xs : List A) → Distinct (λ x. key (f x)) xs → Distinct key (map f xs)
distinct_mapped key f [] d = λ i j z lt h. absurd (omega arith)
distinct_mapped key f (x ∷ xs) d =
    AllPairs-cons (λ a b. key a ≡ key b → ⊥) (f x) (map f xs)
    (All-map (λ b. key (f x) ≡ key b → ⊥) f xs (pairs_head (λ a b. key (f a) ≡ key (f b) → ⊥) x xs d))
    (distinct_mapped key f xs (pairs_tail (λ a b. key (f a) ≡ key (f b) → ⊥) x xs d))

-- ---- with a cookie

pub told_with : (k : WordKey) (x : DeathNotification) → is_told_of k x ≡ is_told_with k.process k.word x
told_with k x = three (is_told x.phase) (x.process == k.process) (x.cookie == k.word)
  where
    three : (a b c : Bool) → (a && (b && c)) ≡ ((a && b) && c)
    three true b c = refl
    three false b c = refl

told_has : (k : WordKey) (x : DeathNotification) → is_told_of k x ≡ true → has_cookie k x ≡ true
told_has k x is = at (is_told x.phase) is
  where
    at : (a : Bool) → (a && has_cookie k x) ≡ true → has_cookie k x ≡ true
    at true e = e
    at false e = absurd cc

module _ (m n : WordMap Sharers) (l : List DeathNotification) (x : DeathNotification) (h : AreShared m l) where
  -- its own is a key of its
  own : has_cookie (cookie_of x) x ≡ true
  own = word_self (cookie_of x)

  pub shared_more : length l < 18446744073709551615
      → (count_at m (cookie_of x) < 18446744073709551615 → (k : WordKey) → count_at n k ≡ count_at m k + one_if (same_word (cookie_of x) k))
      → (told_at m (cookie_of x) < 18446744073709551615 → (k : WordKey) → told_at n k ≡ cond (same_word (cookie_of x) k) (told_at m k + one_if (is_told x.phase)) (told_at m k))
      → (AreKept m → AreKept n) → AreShared n (l ++ x ∷ [])
  shared_more few counts tolds kept = record {
    counted = λ k. counts (below (has_cookie (cookie_of x)) (h.counted (cookie_of x))) k ∙ ap (λ c. c + one_if (has_cookie k x)) (h.counted k) ∙ sym (count_push (has_cookie k) l x);
    tolds = λ k. tolds (below (is_told_of (cookie_of x)) (h.tolds (cookie_of x))) k ∙ at k (has_cookie k x) refl;
    kept = kept h.kept;
  }
    where
      below : {c : ℕ} (q : DeathNotification → Bool) → c ≡ count_by q l → c < 18446744073709551615
      below q is = let less = count_by-le-length q l in omega (arith, is, less, few)

      at : (k : WordKey) (b : Bool) → has_cookie k x ≡ b → cond b (told_at m k + one_if (is_told x.phase)) (told_at m k) ≡ count_by (is_told_of k) (l ++ x ∷ [])
      at k b e = two (is_told x.phase) b (h.tolds k) (count_push (is_told_of k) l x ∙ ap (λ c. count_by (is_told_of k) l + one_if (is_told x.phase && c)) e)
        where
          two : (a b : Bool) {s t u : ℕ} → s ≡ t → u ≡ t + one_if (a && b) → cond b (s + one_if a) s ≡ u
          two true true e f = omega (arith, e, f)
          two false true e f = omega (arith, e, f)
          two true false e f = omega (arith, e, f)
          two false false e f = omega (arith, e, f)

  module _ (rest : List DeathNotification) (less : (q : DeathNotification → Bool) → count_by q rest + one_if (q x) ≡ count_by q l) where
    -- it is one of those that have its cookie
    pub own_counted : 0 < count_at m (cookie_of x)
    own_counted =
        let a = less (has_cookie (cookie_of x)) in
        let b = ap one_if own in
        let c = h.counted (cookie_of x) in
        omega (arith, a, b, c)

    -- those of them that are told aren't more than the others, and itself
    pub others_counted : told_at m (cookie_of x) + 1 ≤ count_at m (cookie_of x) + one_if (is_told x.phase)
    others_counted =
        let k = cookie_of x in
        let a = less (has_cookie k) in
        let b = ap one_if own in
        let c = h.counted k in
        let d = less (is_told_of k) in
        let e = ap (λ b. one_if (is_told x.phase && b)) own ∙ ap one_if (and_true (is_told x.phase)) in
        let f = h.tolds k in
        let g = counted_less (is_told_of k) (has_cookie k) (told_has k) rest in
        omega (arith, a, b, c, d, e, f, g)
      where
        and_true : (b : Bool) → (b && true) ≡ b
        and_true true = refl
        and_true false = refl

    pub shared_less : ((k : WordKey) → count_at n k ≡ count_at m k - one_if (same_word (cookie_of x) k))
        → (told_at m (cookie_of x) + 1 ≤ count_at m (cookie_of x) + one_if (is_told x.phase)
        → (k : WordKey) → told_at n k ≡ cond (same_word (cookie_of x) k) (told_at m k - one_if (is_told x.phase)) (told_at m k))
        → (AreKept m → AreKept n) → AreShared n rest
    shared_less counts tolds kept = record {
      counted = λ k. let a = counts k in let b = h.counted k in let c = less (has_cookie k) in omega (arith, a, b, c);
      tolds = λ k. tolds others_counted k ∙ two (is_told x.phase) (has_cookie k x) (h.tolds k) (less (is_told_of k));
      kept = kept h.kept;
    }
      where
        two : (a b : Bool) {s t u : ℕ} → s ≡ t → u + one_if (a && b) ≡ t → cond b (s - one_if a) s ≡ u
        two true true e f = omega (arith, e, f)
        two false true e f = omega (arith, e, f)
        two true false e f = omega (arith, e, f)
        two false false e f = omega (arith, e, f)

    pub shared_turned : (phase : Phase) (turned : List DeathNotification)
        → ((q : DeathNotification → Bool) → count_by q turned + one_if (q x) ≡ count_by q l + one_if (q (record x { phase = phase })))
        → ((k : WordKey) → count_at n k ≡ count_at m k)
        → (0 < count_at m (cookie_of x) → told_at m (cookie_of x) + 1 ≤ count_at m (cookie_of x) + one_if (is_told x.phase)
        → (k : WordKey) → told_at n k ≡ cond (same_word (cookie_of x) k) (told_at m k - one_if (is_told x.phase) + one_if (is_told phase)) (told_at m k))
        → (AreKept m → AreKept n) → AreShared n turned
    shared_turned phase turned one counts tolds kept = record {
      counted = λ k. let a = counts k in let b = h.counted k in let c = one (has_cookie k) in omega (arith, a, b, c);
      tolds = λ k. tolds own_counted others_counted k ∙ two (is_told x.phase) (is_told phase) (has_cookie k x) (count_by (is_told_of k) rest) (h.tolds k) (less (is_told_of k)) (one (is_told_of k));
      kept = kept h.kept;
    }
      where
        two : (a c b : Bool) (v : ℕ) {s t u : ℕ} → s ≡ t → v + one_if (a && b) ≡ t → u + one_if (a && b) ≡ t + one_if (c && b) → cond b (s - one_if a + one_if c) s ≡ u
        two true true true v e f g = omega (arith, e, f, g)
        two false true true v e f g = omega (arith, e, f, g)
        two true false true v e f g = omega (arith, e, f, g)
        two false false true v e f g = omega (arith, e, f, g)
        two true true false v e f g = omega (arith, e, f, g)
        two false true false v e f g = omega (arith, e, f, g)
        two true false false v e f g = omega (arith, e, f, g)
        two false false false v e f g = omega (arith, e, f, g)

-- who has a cookie, and who is told, stays
pub shared_same : (m : WordMap Sharers) (l : List DeathNotification) (p : DeathNotification → Bool) (f : DeathNotification → DeathNotification)
    → ((k : WordKey) (x : DeathNotification) → has_cookie k (f x) ≡ has_cookie k x) → ((k : WordKey) (x : DeathNotification) → p x ≡ true → is_told_of k (f x) ≡ is_told_of k x)
    → AreShared m l → AreShared m (changed p f l)
shared_same m l p f cookies tolds h = record {
  counted = λ k. h.counted k ∙ sym (count_same (has_cookie k) p f (λ x is. cookies k x) l);
  tolds = λ k. h.tolds k ∙ sym (count_same (is_told_of k) p f (tolds k) l);
  kept = h.kept;
}

pub shared_kept : (m n : WordMap Sharers) (l : List DeathNotification) → ((k : WordKey) → look n k ≡ look m k) → AreShared m l → AreShared n l
shared_kept m n l same h = record {
  counted = λ k. ap count_of (same k) ∙ h.counted k;
  tolds = λ k. ap told_of (same k) ∙ h.tolds k;
  kept = λ k none. same k ∙ h.kept k (sym (ap count_of (same k)) ∙ none);
}

-- ---- another value at a key of a map

more_if : (b : Bool) (n : ℕ) → cond b (n + 1) n ≡ n + one_if b
more_if true n = refl
more_if false n = omega arith

module _ (old new : WordMap Sharers) (key : WordKey) (o : Option Sharers) (put : (k : WordKey) → look new k ≡ cond (same_word key k) o (look old k)) where
  pub put_at : (g : Option Sharers → ℕ) (w : ℕ → ℕ) → g o ≡ w (g (look old key)) → (k : WordKey) → g (look new k) ≡ cond (same_word key k) (w (g (look old k))) (g (look old k))
  put_at g w is k = ap g (put k) ∙ at (same_word key k) refl
    where
      at : (b : Bool) → same_word key k ≡ b → g (cond b o (look old k)) ≡ cond b (w (g (look old k))) (g (look old k))
      at true e = is ∙ ap (λ j. w (g (look old j))) (word_eq key k e)
      at false e = refl

  pub put_more : count_of o ≡ count_at old key + 1 → (k : WordKey) → count_at new k ≡ count_at old k + one_if (same_word key k)
  put_more is k = put_at count_of (λ n. n + 1) is k ∙ more_if (same_word key k) (count_at old k)

  pub put_kept : (count_of o ≡ 0 → o ≡ None) → AreKept old → AreKept new
  put_kept none kept k = subst (λ n. count_of n ≡ 0 → n ≡ None) (sym (put k)) (at (same_word key k))
    where
      at : (b : Bool) → count_of (cond b o (look old k)) ≡ 0 → cond b o (look old k) ≡ None
      at true e = none e
      at false e = kept k e
