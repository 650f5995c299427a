-- Lists after a change, and what stands on one.
use Rattle.std.proofs.Common.{◌≡◌, ℕ, ◌==◌, nat_lt, Bool, true, false, ◌&&◌, cond, List, [], ◌∷◌, ◌++◌, filter, find, Option, Some, None, refl, sym, ap, ◌∙◌, arith}
use Rattle.std.specs.{List.{list_any, slice_get}, Iterator.{YieldsFirst}}
use Rattle.bd_chains.specs.{declared.chains.Chains.{Chains}, Rows.{Row, ring, values, values_on, on_some, counted_on, drop_key}}
use Rattle.bd_chains.specs.{Columns.{is_open, Holds}, Lists.{AreListed, Shows}}

some_is : {a b : ℕ} → Some a ≡ Some b → a ≡ b
some_is e = cc

pub none_is : {a : ℕ} → None ≡ Some a → ⊥
none_is e = cc

clash : {b : Bool} → b ≡ true → b ≡ false → ⊥
clash a b = cc

-- the first on a list is none: nothing is on it
pub empty_ring : (ks : List ℕ) → slice_get ks 0 ≡ None → ks ≡ []
empty_ring [] e = refl
empty_ring (k ∷ ks) e = cc

pub first_yielded : {A : Type 0} (vs : List A) (o : Option A) (ws : List A) → YieldsFirst (λ s. s) vs o ws → o ≡ slice_get vs 0
first_yielded vs None ws h = sym (ap (λ us. slice_get us 0) h.0)
first_yielded vs (Some x) ws h = sym (ap (λ us. slice_get us 0) h)

pub first_kept : {A : Type 0} (p : A → Bool) (vs : List A) → slice_get (filter p vs) 0 ≡ find p vs
first_kept p [] = refl
first_kept p (v ∷ vs) = grind (arith, first_kept p vs)

module _ {K T : Type 0} (key : T → K) (counts : T → Bool) (E : K → K → Bool) where
  pub listed_so : (N M : K → Option ℕ) → ((k : K) (n : ℕ) → N k ≡ Some n → M k ≡ Some n) → (rs : List (Row T)) → AreListed key counts N rs → AreListed key counts M rs
  listed_so N M so [] h = tt
  listed_so N M so (r ∷ rs) h = ((so (key r.held.value) r.list h.0.0, h.0.1), listed_so N M so rs h.1)

  pub listed_more : (N : K → Option ℕ) (rs : List (Row T)) (r : Row T) → AreListed key counts N rs → N (key r.held.value) ≡ Some r.list → r.held.counted ≡ counts r.held.value
      → AreListed key counts N (rs ++ r ∷ [])
  listed_more N [] r h is count = ((is, count), tt)
  listed_more N (q ∷ rs) r h is count = (h.0, listed_more N rs r h.1 is count)

  listed_less : (N : K → Option ℕ) (x : ℕ) (rs : List (Row T)) → AreListed key counts N rs → AreListed key counts N (drop_key x rs)
  listed_less N x [] h = tt
  listed_less N x (r ∷ rs) h = at (r.key == x) (listed_less N x rs h.1)
    where
      at : (b : Bool) → AreListed key counts N (drop_key x rs) → AreListed key counts N (cond b (drop_key x rs) (r ∷ drop_key x rs))
      at true k = k
      at false k = (h.0, k)

  module _ (N M : K → Option ℕ) (t u : Chains T) where
    -- the lists keep their numbers, and stay open
    pub kept_shows : (rs ss : List (Row T)) → Shows key counts E N t rs → Holds u ss → AreListed key counts N ss → ((m : ℕ) → is_open u m ≡ is_open t m) → ((k : K) → M k ≡ N k) → Shows key counts E M u ss
    kept_shows rs ss h holds listed opens numbers = record {
      holds = holds;
      listed = listed_so N M (λ k n is. numbers k ∙ is) ss listed;
      opened = λ k n is. opens n ∙ h.opened k n (sym (numbers k) ∙ is);
      one_list = λ k l n a b. h.one_list k l n (sym (numbers k) ∙ a) (sym (numbers l) ∙ b);
    }

    -- what stands in a slot goes
    pub dropped_shows : (x : ℕ) → ((rs : List (Row T)) → Holds t rs → Holds u (drop_key x rs)) → ((m : ℕ) → is_open u m ≡ is_open t m) → ((k : K) → M k ≡ N k)
        → (rs : List (Row T)) → Shows key counts E N t rs → Shows key counts E M u (drop_key x rs)
    dropped_shows x holds opens numbers rs h = kept_shows rs (drop_key x rs) h (holds rs h.holds) (listed_less N x rs h.listed) opens numbers

    module _ (congr : (x y z : K) → E x y ≡ true → E x z ≡ E y z) (alike : (k l : K) → E k l ≡ true → N k ≡ N l) (rs : List (Row T)) (h : Shows key counts E N t rs) (own : K) (n : ℕ) where
      -- a list that wasn't open has a number from now on, which was no other's
      pub opened_shows : N own ≡ None → Holds u rs → is_open t n ≡ false
          → ((m : ℕ) → is_open u m ≡ cond (n == m) true (is_open t m)) → ((k : K) → M k ≡ cond (E own k) (Some n) (N k)) → Shows key counts E M u rs
      opened_shows none holds fresh opens numbers = record {
        holds = holds;
        listed = listed_so N M (λ k g is. grind (arith, numbers k, alike own k)) rs h.listed;
        opened = λ k g is. grind (arith, opens g, numbers k, h.opened k g);
        one_list = λ k l g a b. grind (arith, numbers k, numbers l, congr own k l, h.one_list k l g, h.opened k n, h.opened l n);
      }

      -- a list on which nothing is loses its number
      pub closed_shows : N own ≡ Some n → ring n rs ≡ [] → Holds u rs
          → ((m : ℕ) → is_open u m ≡ cond (n == m) false (is_open t m)) → ((k : K) → M k ≡ cond (E own k) None (N k)) → Shows key counts E M u rs
      closed_shows is empty holds opens numbers = record {
        holds = holds;
        listed = off_list rs empty h.listed;
        opened = λ k g a. grind (arith, opens g, numbers k, h.opened k g, h.one_list own k n is);
        one_list = λ k l g a b. grind (arith, numbers k, numbers l, h.one_list k l g);
      }
        where
          stays : (v : T) (list : ℕ) → (list == n) ≡ false → N (key v) ≡ Some list → M (key v) ≡ Some list
          stays v list far on = grind (arith, numbers (key v), alike own (key v))

          off_list : (ss : List (Row T)) → ring n ss ≡ [] → AreListed key counts N ss → AreListed key counts M ss
          off_list [] empty l = tt
          off_list (r ∷ ss) empty l = ((stays r.held.value r.list (grind arith) l.0.0, l.0.1), off_list ss (grind arith) l.1)

  module _ (N : K → Option ℕ) (t : Chains T) (alike : (k l : K) → E k l ≡ true → N k ≡ N l) (rs : List (Row T)) (h : Shows key counts E N t rs) (own : K) where
    -- a value is on a list exactly where its key has that one's number
    pub same_number : (o : Option ℕ) (v : T) (list : ℕ) → N own ≡ o → N (key v) ≡ Some list → E own (key v) ≡ (elim o [ None ↦ false | Some n ↦ list == n ])
    same_number o v list is on = grind (arith, alike own (key v), h.one_list own (key v) list)

    pub on_list : (o : Option ℕ) → N own ≡ o → (ss : List (Row T)) → AreListed key counts N ss → filter (λ v. E own (key v)) (values ss) ≡ on_some [] values_on o ss
    on_list None is [] l = refl
    on_list (Some n) is [] l = refl
    on_list None is (r ∷ ss) l = rw (same_number None r.held.value r.list is l.0.0) (on_list None is ss l.1)
    on_list (Some n) is (r ∷ ss) l = rw (same_number (Some n) r.held.value r.list is l.0.0) (grind (arith, on_list (Some n) is ss l.1))

    pub counted_there : (o : Option ℕ) → N own ≡ o → (ss : List (Row T)) → AreListed key counts N ss
        → on_some false (λ n rs. nat_lt 0 (counted_on n rs)) o ss ≡ list_any (λ v. E own (key v) && counts v) (values ss)
    counted_there None is [] l = refl
    counted_there (Some n) is [] l = refl
    counted_there None is (r ∷ ss) l = rw (same_number None r.held.value r.list is l.0.0) (counted_there None is ss l.1)
    counted_there (Some n) is (r ∷ ss) l = rw (same_number (Some n) r.held.value r.list is l.0.0) (grind (arith, counted_there (Some n) is ss l.1, l.0.1))

    -- nothing on the list: no key is either
    pub ring_there : (n : ℕ) → N own ≡ Some n → (ss : List (Row T)) → AreListed key counts N ss → list_any (λ v. E own (key v)) (values ss) ≡ false → ring n ss ≡ []
    ring_there n is [] l none = refl
    ring_there n is (r ∷ ss) l none = grind (arith, ring_there n is ss l.1, same_number (Some n) r.held.value r.list is l.0.0)
