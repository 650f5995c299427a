-- For OwnersHearInOrder: the order in which an owner hears of an object, as states, and what a list of events has that goes
-- through them.
use Rattle.std.proofs.lemmas.List.Folds.{list_any-append}
use Rattle.bd_laws.proofs.words.Logic.{arith, IfSome, ◌≡◌, ℕ, suc, Bool, true, false, not, ◌||◌, List, [], ◌∷◌, ◌++◌, Option, Some, None, refl, ap, sym, subst, ◌∙◌, filter, append-nil, append_assoc, list_any, is_some, option_and_then}
use Rattle.bd_audit.specs.Hearing.{Event, increfs, acquire, release, decrefs, increfs_done, acquire_done, is_return, same_event, by_turns, telling, IsAnswered, InOrder}

-- Before its BR_INCREFS; told of the object weakly; told strongly; after its BR_DECREFS. The first value: whether the
-- BR_INCREFS waits for its BC_INCREFS_DONE; the second: whether the last BR_ACQUIRE waits for its BC_ACQUIRE_DONE.
pub data Hearing : Type 0 where
  unheard : Hearing
  weakly : Bool → Hearing
  strongly : Bool → Bool → Hearing
  ended : Hearing

-- the state that an event leads to, if it may come there: what takes back waits until what it takes back is acknowledged,
-- an acknowledgement answers what waits for it, and after BR_DECREFS nothing comes
abbrev pub hears : Event → Hearing → Option Hearing
hears increfs unheard = Some (weakly true)
hears acquire (weakly waits) = Some (strongly waits true)
hears release (strongly waits false) = Some (weakly waits)
hears decrefs (weakly false) = Some ended
hears increfs_done (weakly true) = Some (weakly false)
hears increfs_done (strongly true waits) = Some (strongly false waits)
hears acquire_done (strongly waits true) = Some (strongly waits false)
hears _ _ = None

abbrev pub hears_all : Hearing → List Event → Option Hearing
hears_all x [] = Some x
hears_all x (v ∷ vs) = option_and_then (λ y. hears_all y vs) (hears v x)

-- ---- the returns alone

-- what can still be told, with n turns to come
abbrev rest_of : Hearing → ℕ → List Event
rest_of unheard n = telling n
rest_of (weakly waits) n = by_turns n ++ decrefs ∷ []
rest_of (strongly waits waiting) n = release ∷ by_turns n ++ decrefs ∷ []
rest_of ended n = []

abbrev CanGo : Hearing → List Event → Type 0
CanGo st es = (n : ℕ) × (rest : List Event) × (filter is_return es ++ rest ≡ rest_of st n)

told_on : (es : List Event) (st : Hearing) → is_some (hears_all st es) ≡ true → CanGo st es
told_on [] st h = (0, rest_of st 0, refl)
told_on (increfs ∷ es) unheard h = let k = told_on es (weakly true) h in (k.0, k.1, ap (λ xs. increfs ∷ xs) k.2)
told_on (acquire ∷ es) (weakly w) h = let k = told_on es (strongly w true) h in (suc k.0, k.1, ap (λ xs. acquire ∷ xs) k.2)
told_on (release ∷ es) (strongly w false) h = let k = told_on es (weakly w) h in (k.0, k.1, ap (λ xs. release ∷ xs) k.2)
told_on (decrefs ∷ es) (weakly false) h = let k = told_on es ended h in (0, k.1, ap (λ xs. decrefs ∷ xs) k.2)
told_on (increfs_done ∷ es) (weakly true) h = told_on es (weakly false) h
told_on (increfs_done ∷ es) (strongly true w) h = told_on es (strongly false w) h
told_on (acquire_done ∷ es) (strongly w true) h = told_on es (strongly w false) h
told_on (v ∷ es) st h = absurd (cc)

-- ---- what is acknowledged

-- the return and its acknowledgement, where one is waited for or came
abbrev Knows : Hearing → List Event → Type 0
Knows unheard es = Unit {0}
Knows (weakly w) es = IsAnswered increfs increfs_done (not w) es
Knows (strongly w a) es = IsAnswered increfs increfs_done (not w) es × IsAnswered acquire acquire_done (not a) es
Knows ended es = Unit {0}

any_push : (v x : Event) (xs : List Event) (b c : Bool) → list_any (same_event v) xs ≡ b → same_event v x ≡ c → list_any (same_event v) (xs ++ x ∷ []) ≡ (b || c)
any_push v x xs b c h k = rw (list_any-append (same_event v) xs (x ∷ []), h, k) (search arith)

-- one event more, which isn't the return
goes_on : (v done x : Event) (b c : Bool) (es : List Event) → same_event v x ≡ false → same_event done x ≡ c → IsAnswered v done b es → IsAnswered v done (b || c) (es ++ x ∷ [])
goes_on v done x b c es other is k =
    (k.0, k.1 ++ x ∷ [], ap (λ xs. xs ++ x ∷ []) k.2 ∙ append_assoc k.0 (v ∷ k.1) (x ∷ []), any_push v x k.1 false false k.3 other, any_push done x k.1 b c k.4 is)

now_told : (v done : Event) (es : List Event) → IsAnswered v done false (es ++ v ∷ [])
now_told v done es = (es, [], refl, refl, refl)

-- one event more, which is neither the return nor its acknowledgement
goes_past : (v done x : Event) (b : Bool) (es : List Event) → same_event v x ≡ false → same_event done x ≡ false → IsAnswered v done b es → IsAnswered v done b (es ++ x ∷ [])
goes_past v done x true es other is k = goes_on v done x true false es other is k
goes_past v done x false es other is k = goes_on v done x false false es other is k

-- what is known once an event has come
abbrev Known : Option Hearing → List Event → Type 0
Known f es = IfSome f (λ now. Knows now es)

knows_next : (v : Event) (st : Hearing) (es : List Event) → Knows st es → Known (hears v st) (es ++ v ∷ [])
knows_next increfs unheard es k = now_told increfs increfs_done es
knows_next acquire (weakly w) es k = (goes_past increfs increfs_done acquire (not w) es refl refl k, now_told acquire acquire_done es)
knows_next release (strongly w false) es k = goes_past increfs increfs_done release (not w) es refl refl k.0
knows_next decrefs (weakly false) es k = tt
knows_next increfs_done (weakly true) es k = goes_on increfs increfs_done increfs_done false true es refl refl k
knows_next increfs_done (strongly true a) es k =
    (goes_on increfs increfs_done increfs_done false true es refl refl k.0, goes_past acquire acquire_done increfs_done (not a) es refl refl k.1)
knows_next acquire_done (strongly w true) es k =
    (goes_past increfs increfs_done acquire_done (not w) es refl refl k.0, goes_on acquire acquire_done acquire_done false true es refl refl k.1)
knows_next v st es k = tt

knows_all : (xs past : List Event) (st now : Hearing) → hears_all st xs ≡ Some now → Knows st past → Knows now (past ++ xs)
knows_all [] past st now h k = let is : st ≡ now = cc in subst (Knows now) (sym (append-nil past)) (subst (λ x. Knows x past) is k)
knows_all (v ∷ xs) past st now h k = of (hears v st) h (knows_next v st past k) (λ y g. knows_all xs (past ++ v ∷ []) y now g)
  where
    of : (f : Option Hearing) → option_and_then (λ y. hears_all y xs) f ≡ Some now → Known f (past ++ v ∷ [])
        → ((y : Hearing) → hears_all y xs ≡ Some now → Knows y (past ++ v ∷ []) → Knows now ((past ++ v ∷ []) ++ xs)) → Knows now (past ++ v ∷ xs)
    of None g known more = absurd (cc)
    of (Some y) g known more = subst (Knows now) (append_assoc past (v ∷ []) xs) (more y g known)

-- ---- lists in two parts

pub hears_append : (xs ys : List Event) (st now : Hearing) → hears_all st xs ≡ Some now → hears_all st (xs ++ ys) ≡ hears_all now ys
hears_append [] ys st now h = let is : st ≡ now = cc in ap (λ x. hears_all x ys) is
hears_append (v ∷ vs) ys st now h = of (hears v st) (λ y k. hears_append vs ys y now k) h
  where
    of : (f : Option Hearing) → ((y : Hearing) → hears_all y vs ≡ Some now → hears_all y (vs ++ ys) ≡ hears_all now ys)
        → option_and_then (λ y. hears_all y vs) f ≡ Some now → option_and_then (λ y. hears_all y (vs ++ ys)) f ≡ hears_all now ys
    of f more k = search arith

-- what has been heard after the first part
abbrev Parts : List Event → List Event → Hearing → Type 0
Parts xs ys st = (now : Hearing) × (hears_all st xs ≡ Some now) × (is_some (hears_all now ys) ≡ true)

parts : (xs ys : List Event) (st : Hearing) → is_some (hears_all st (xs ++ ys)) ≡ true → Parts xs ys st
parts [] ys st h = (st, refl, h)
parts (v ∷ xs) ys st h = of (hears v st) (λ y k. parts xs ys y k) h
  where
    of : (f : Option Hearing) → ((y : Hearing) → is_some (hears_all y (xs ++ ys)) ≡ true → Parts xs ys y) → is_some (option_and_then (λ y. hears_all y (xs ++ ys)) f) ≡ true
        → (now : Hearing) × (option_and_then (λ y. hears_all y xs) f ≡ Some now) × (is_some (hears_all now ys) ≡ true)
    of f more k = search arith

-- what is known before an event
abbrev KnownBefore : Event → List Event → Type 0
KnownBefore release front = IsAnswered acquire acquire_done true front
KnownBefore decrefs front = IsAnswered increfs increfs_done true front
KnownBefore acquire_done front = IsAnswered acquire acquire_done false front
KnownBefore increfs_done front = IsAnswered increfs increfs_done false front
KnownBefore v front = Unit {0}

knows_before : (v : Event) (now : Hearing) (front back : List Event) → is_some (hears_all now (v ∷ back)) ≡ true → Knows now front → KnownBefore v front
knows_before v now front back h k = search arith

pub in_order : (es : List Event) → is_some (hears_all unheard es) ≡ true → InOrder es
in_order es h = record { told = told_on es unheard h; before_release = at release; before_decrefs = at decrefs; before_acquire_done = at acquire_done; before_increfs_done = at increfs_done }
  where
    at : (v : Event) (front back : List Event) → es ≡ front ++ v ∷ back → KnownBefore v front
    at v front back e =
        let r = parts front (v ∷ back) unheard (subst (λ xs. is_some (hears_all unheard xs) ≡ true) e h) in
        knows_before v r.0 front back r.2 (knows_all front [] unheard r.0 r.1 tt)
