-- Lists with some elements changed or left out, where a search by a key that rises ends, and what is found where elements come or go.
use Rattle.bd_buffers.proofs.Words.{All, All-cons, All-head, All-tail, AllPairs, Bool, Distinct, Err, IsBinarySearchResult, IsNonDecreasingBy, IsPartitionPoint, IsPartitionedBy, IsPartitionedBy-ltb, IsSearchInRange, IsWithout, List, MatchOption, Ok, OnErr, OnOk, Option, Result, Rising, Some, ap, arith, changed}
use Rattle.bd_buffers.proofs.Words.{cond, distinct, eqb-true, false, filter, filter_none, find, find_none, get_or, get_or-map, kept, length, length-map, ltb, ltb-false, ltb-true, map, nat_cmp, not, pairs_head, pairs_tail, refl, rest_differ, result_ok, suc, sym, true, ℕ, []}
use Rattle.bd_buffers.proofs.Words.{◌<◌, ◌==◌, ◌∙◌, ◌∷◌, ◌≡◌, ◌≤◌}
use Rattle.bd_keys.proofs.Rising.{searched as by_halves}

-- what each element keeps where those that pass are changed
pub All_changed : {A : Type 0} (p : A → Bool) (f : A → A) (P : A → Type 0) → ((x : A) → P x → P (f x)) → (xs : List A) → All P xs → All P (changed p f xs)
All_changed p f P k [] all = all
All_changed p f P k (x ∷ xs) all = grind (arith, All-head, All-cons, All-tail, All_changed p f P k xs (All-tail P x xs all))

-- nothing is left where none passes
pub none_left : {A : Type 0} (p : A → Bool) (xs : List A) → All (λ x. p x ≡ false) xs → filter p xs ≡ []
none_left p [] all = refl
none_left p (x ∷ xs) all = grind (arith, All-head, All-tail, none_left p xs (All-tail (λ y. p y ≡ false) x xs all))

-- ---- answers

module _ {A E : Type 0} (P Q : Type 0) (f : P → Q) where
  pub on_ok : (r : Result A E) → OnOk r P → OnOk r Q
  on_ok r p = search arith

  pub on_err : (r : Result A E) → OnErr r P → OnErr r Q
  on_err r p = search arith

pub refused : {A E : Type 0} (r : Result A E) (P : Type 0) → P → OnErr r P
refused r P p = search arith

-- ---- pairs

module _ {A : Type 0} (R : A → A → Type 0) where
  pub pairs_cons : (x : A) (xs : List A) → All (R x) xs → AllPairs R xs → AllPairs R (x ∷ xs)
  pairs_cons x xs all pairs h2 h3 d lt h = search arith

  pub pairs_changed : (p : A → Bool) (f : A → A) → ((x y : A) → R x y → R (f x) y) → ((x y : A) → R x y → R x (f y)) → (xs : List A) → AllPairs R xs → AllPairs R (changed p f xs)
  pairs_changed p f left right [] pairs = pairs
  pairs_changed p f left right (x ∷ xs) pairs =
      let rest = pairs_changed p f left right xs (pairs_tail R x xs pairs) in
      let all = All_changed p f (R x) (right x) xs (pairs_head R x xs pairs) in
      elim (p x) as (λ b. AllPairs R (cond b (f x) x ∷ changed p f xs)) [ true ↦ pairs_cons (f x) (changed p f xs) (λ k d h. left x _ (all k d h)) rest | false ↦ pairs_cons x (changed p f xs) all rest ]

module _ {A : Type 0} (key : A → ℕ) where
  -- where a search by the key ends
  pub searched : (m i : ℕ) (xs : List A) → IsNonDecreasingBy key xs
      → (IsPartitionedBy (λ y. ltb (key y) m) xs → IsPartitionPoint (λ y. ltb (key y) m ≡ true) (λ y. ltb (key y) m ≡ false) xs i) → IsPartitionPoint (λ y. key y < m) (λ y. m ≤ key y) xs i
  searched m i xs order ends = grind (arith, IsPartitionedBy-ltb, ltb-true, ltb-false)

  -- what a search by halves answers is where an element has the key, or that none has
  pub halved : (m : ℕ) (xs : List A) (r : Result ℕ ℕ) → Rising key xs → IsBinarySearchResult (λ x. nat_cmp (key x) m) xs r → IsSearchInRange r (length xs)
      → MatchOption (result_ok r) (All (λ y. (key y == m) ≡ false) xs) (λ i. (i < length xs) × ((d : A) → key (get_or xs i d) ≡ m))
  halved m xs (Ok i) rising found bound = (bound, by_halves key m xs (Ok i) rising found)
  halved m xs (Err i) rising found bound = by_halves key m xs (Err i) rising found

-- ---- what is found where those that aren't kept go

pub kept_some : {A : Type 0} (keep : A → Bool) (o : Option A) (x : A) → kept keep o ≡ Some x → (o ≡ Some x) × (keep x ≡ true)
kept_some keep o x e = grind arith

pub find_kept : {A : Type 0} (key : A → ℕ) (keep : A → Bool) (m : ℕ) (xs : List A) → Distinct key xs → find (λ y. key y == m) (filter keep xs) ≡ kept keep (find (λ y. key y == m) xs)
find_kept key keep m [] apart = refl
find_kept key keep m (x ∷ xs) apart =
    let rest = find_kept key keep m xs (pairs_tail (λ a b. key a ≡ key b → ⊥) x xs apart) in let none = rest_differ key m x xs apart in grind (arith, eqb-true, find_none)

-- ---- where one stands, and where places stay

-- where keys rise, the same keys do
pub same_keys : {A B : Type 0} (key : A → ℕ) (other : B → ℕ) (xs : List A) (ys : List B) → map other ys ≡ map key xs → Rising key xs → Rising other ys
same_keys key other [] ys e rising i j d lt h = absurd (omega (arith, length-map ys other, ap length e))
same_keys key other (x ∷ xs) ys e rising i j d lt h =
    let len : length ys ≡ length (x ∷ xs) = sym (length-map ys other) ∙ ap length e ∙ length-map (x ∷ xs) key in
    let at : (k : ℕ) → k < length ys → other (get_or ys k d) ≡ key (get_or (x ∷ xs) k x) =
    λ k lt. sym (get_or-map other ys k d 0 lt) ∙ ap (λ ns. get_or ns k 0) e ∙ get_or-map key (x ∷ xs) k x 0 (omega (arith, len, lt)) in
    omega (arith, at i (omega (arith, lt, h)), at j h, rising i j x lt (omega (arith, len, h)))

module _ {A : Type 0} (key : A → ℕ) where
  -- where the one with a key goes, it is missing
  pub gone_at : (m : ℕ) (xs : List A) (x : A) → Rising key xs → find (λ y. key y == m) xs ≡ Some x → IsWithout x xs (filter (λ y. not (key y == m)) xs)
  gone_at m [] x rising e = cc
  gone_at m (y ∷ xs) x rising e = by (key y == m) refl e (gone_at m xs x (pairs_tail (λ a b. key a < key b) y xs rising))
    where
      by : (t : Bool) → (key y == m) ≡ t → cond t (Some y) (find (λ z. key z == m) xs) ≡ Some x → (find (λ z. key z == m) xs ≡ Some x → IsWithout x xs (filter (λ z. not (key z == m)) xs))
          → IsWithout x (y ∷ xs) (cond (not t) (y ∷ filter (λ z. not (key z == m)) xs) (filter (λ z. not (key z == m)) xs))
      by true e f rest =
          let none = filter_none key m xs (rest_differ key m y xs (distinct key (y ∷ xs) rising) (eqb-true (key y) m e)) in
          record { index = 0; within = omega arith; at = λ d. cc; left = none }
      by false e f rest = let gone = rest f in record { index = suc gone.index; within = omega arith; at = gone.at; left = ap (λ ys. y ∷ ys) gone.left }
