-- What a parcel makes is found by halves, or by owner and ptr.
use Rattle.bd_objects.proofs.Words.{All, All-head, All-push, All-tail, All-weaker, Bool, Finds, IsRising, List, None, Object, Option, Some, WordKey, WordMap, [], all_pairs_push, ap, arith, cond, distinct, drop, drop-append-le, drop_all, eqb-true}
use Rattle.bd_objects.proofs.Words.{false, few, find, find-append, find_none, kept, length, length-append, look, nat_lt, option_or, own_at, own_in, pairs_tail, refl, rest_differ, subst, sym, take, take-append-drop, take-append-le, take_all, true, ℕ}
use Rattle.bd_objects.proofs.Words.{◌&&◌, ◌++◌, ◌+◌, ◌<◌, ◌==◌, ◌||◌, ◌∙◌, ◌∷◌, ◌≡◌, ◌≤◌}

abbrev pub ptr_of : Object → ℕ
ptr_of x = x.ptr

-- what has another ptr isn't it
other : (c d : Bool) → d ≡ false → (c && d) ≡ false
other true d e = e
other false d e = refl

-- none above the highest is there
pub none_above : (highest : ℕ) (objects : List Object) → All (λ x. x.ptr ≤ highest) objects → (p ptr : ℕ) → highest < ptr → own_in objects p ptr ≡ None
none_above highest [] low p ptr above = refl
none_above highest (x ∷ xs) low p ptr above =
    let this = All-head (λ (y : Object). y.ptr ≤ highest) x xs low in
    let off : (x.ptr == ptr) ≡ false = grind (arith, this, above) in
    ap (λ b. cond b (Some x) (own_in xs p ptr)) (other (x.owner == p) (x.ptr == ptr) off)
    ∙ none_above highest xs (All-tail (λ (y : Object). y.ptr ≤ highest) x xs low) p ptr above

-- one more is no higher than the higher one
pub low_push : (a b : ℕ) (objects : List Object) (x : Object) → a ≤ b → x.ptr ≤ b → All (λ y. y.ptr ≤ a) objects → All (λ y. y.ptr ≤ b) (objects ++ x ∷ [])
low_push a b objects x up this low =
    All-push (λ (y : Object). y.ptr ≤ b) objects x (All-weaker (λ (y : Object). y.ptr ≤ a) (λ (y : Object). y.ptr ≤ b) (λ y le. omega (arith, le, up)) objects low) this

-- they rise to one that is higher than each
pub rising_push : (highest : ℕ) (objects : List Object) (x : Object) → All (λ y. y.ptr ≤ highest) objects → highest < x.ptr → IsRising objects → IsRising (objects ++ x ∷ [])
rising_push highest objects x low above rises =
    all_pairs_push (λ (a : Object) (b : Object). a.ptr < b.ptr) objects x rises
    (All-weaker (λ (y : Object). y.ptr ≤ highest) (λ (y : Object). y.ptr < x.ptr) (λ y le. omega (arith, le, above)) objects low)

-- where ptrs rise one alone has this one
pub own_risen : (p ptr : ℕ) (objects : List Object) → IsRising objects → own_in objects p ptr ≡ kept (λ x. x.owner == p) (find (λ y. y.ptr == ptr) objects)
own_risen p ptr [] rises = refl
own_risen p ptr (x ∷ xs) rises = at (x.owner == p) refl (x.ptr == ptr) refl (own_risen p ptr xs (pairs_tail (λ (a : Object) (b : Object). a.ptr < b.ptr) x xs rises))
  where
    at : (c : Bool) → (x.owner == p) ≡ c → (d : Bool) → (x.ptr == ptr) ≡ d → own_in xs p ptr ≡ kept (λ y. y.owner == p) (find (λ y. y.ptr == ptr) xs)
        → cond (c && d) (Some x) (own_in xs p ptr) ≡ kept (λ y. y.owner == p) (cond d (Some x) (find (λ y. y.ptr == ptr) xs))
    at true f true e more = sym (ap (λ b. cond b (Some x) None) f)
    at false f true e more =
        let none = find_none ptr_of ptr xs (rest_differ ptr_of ptr x xs (distinct ptr_of (x ∷ xs) rises) (eqb-true x.ptr ptr e)) in
        more ∙ ap (kept (λ (y : Object). y.owner == p)) none ∙ sym (ap (λ b. cond b (Some x) None) f)
    at true f false e more = more
    at false f false e more = more

-- one is found among the first ones or after them
pub found_split : (n : ℕ) (objects : List Object) (p ptr : ℕ) (found : Option Object)
    → found ≡ own_in (take n objects) p ptr → option_or found (own_in (drop n objects) p ptr) ≡ own_in objects p ptr
found_split n objects p ptr found e =
    let is_own = λ (x : Object). (x.owner == p) && (x.ptr == ptr) in
    ap (λ o. option_or o (own_in (drop n objects) p ptr)) e
    ∙ sym (find-append is_own (take n objects) (drop n objects)) ∙ ap (find is_own) (take-append-drop n objects)

-- while all come first, none comes after them
pub finds_all : (n m : ℕ) (objects : List Object) (x : Object) (later : WordMap Object) → n ≡ length objects → length objects + 1 ≤ m → Finds n objects later → Finds m (objects ++ x ∷ []) later
finds_all n m objects x later is le h k =
    let none = drop_all n objects (omega (arith, is)) in
    let still = drop_all m (objects ++ x ∷ []) (omega (arith, le, length-append objects (x ∷ []))) in
    h k ∙ ap (λ xs. own_at xs k) (none ∙ sym still)

-- all come first to which the ptrs rise, or which are few
pub all_first : (a d : Bool) (first n : ℕ) → (n ≤ few → first ≡ n) → ((a && (first == n) && d) || nat_lt n few) ≡ true → first ≡ n
all_first a d first n small h = by (nat_lt n few) refl
  where
    by : (b : Bool) → nat_lt n few ≡ b → first ≡ n
    by true e = small (grind (arith, e))
    by false e = eqb-true first n (grind (arith, h, e))

-- and then all rise where they do
pub all_rise : (a : Bool) (first n m highest : ℕ) (objects : List Object) (x : Object) → n ≡ length objects → n + 1 ≤ m → All (λ y. y.ptr ≤ highest) objects
    → (a ≡ true → IsRising (take first objects)) → (a && (first == n) && nat_lt highest x.ptr) ≡ true → IsRising (take m (objects ++ x ∷ []))
all_rise a first n m highest objects x is le low rises h =
    let all = eqb-true first n (grind (arith, h)) in
    let old = subst IsRising (take_all first objects (omega (arith, all, is))) (rises (grind (arith, h))) in
    let new = rising_push highest objects x low (grind (arith, h)) old in
    subst IsRising (sym (take_all m (objects ++ x ∷ []) (omega (arith, is, le, length-append objects (x ∷ []))))) new

-- the first ones stay as they are
pub still_rise : (a : Bool) (first : ℕ) (objects : List Object) (x : Object) → first ≤ length objects → (a ≡ true → IsRising (take first objects))
    → a ≡ true → IsRising (take first (objects ++ x ∷ []))
still_rise a first objects x le rises h = subst IsRising (sym (take-append-le first objects (x ∷ []) le)) (rises h)

-- one more comes after them
pub finds_more : (n : ℕ) (objects : List Object) (x : Object) (old new : WordMap Object) → Finds n objects old
    → n ≤ length objects → ((k : WordKey) → look new k ≡ option_or (look old k) (own_at (x ∷ []) k))
    → Finds n (objects ++ x ∷ []) new
finds_more n objects x old new h le e k =
    let is_own = λ (y : Object). (y.owner == k.process) && (y.ptr == k.word) in
    let later = drop-append-le n objects (x ∷ []) le in
    e k ∙ ap (λ o. option_or o (own_at (x ∷ []) k)) (h k)
    ∙ sym (ap (λ xs. own_at xs k) later ∙ find-append is_own (drop n objects) (x ∷ []))
