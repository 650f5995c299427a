-- The opening, and the dealing of seats.
use Rattle.bd_driver.proofs.{Keeping.{recarry, reseat}, Picked.{is_picked}, Views.{each_both, each_map}, Words.{Each, Empty, Enters, Fits, HasTaker, History, Home, Idle, Kept, List, Mailbox, Option, Splits, TableId, View, [], ap, arith, at_longer, at_set, cond, entered, eq-eqb, eqb, fresh, get_elem?, history_of, inl, inr, inside_of, length, length-set, map, mark, ne_eqb, new_seats, newcomers, none, opening, others_of, page_word, picked, ready_of, refl, replicate, seated, set, set_else, shut, since_of, some, some-injective, some-ne-none, step, subst, suc, sym, true, true≢false, view_of, zero, ℕ, ⊎_elim, ◌++◌, ◌+◌, ◌<◌, ◌∙◌, ◌∷◌, ◌≡◌, ◌≢◌, ◌≤◌, ◌⊎◌}}

pub new_idle : (seats who k : ℕ) → Each Idle (newcomers seats who k)
new_idle seats who zero = tt
new_idle seats who (suc k) = (refl, new_idle seats (who + 1) k)

-- idle views have no taker among them
pub not_taker : (views : List (List View)) (id t : ℕ) (vs : List View) (v : View) → get_elem? views id ≡ some vs → Each Idle vs → get_elem? views t ≡ some (v ∷ []) → v.taker ≡ true → t ≢ id
not_taker views id t vs v at idle is on same =
    let both : vs ≡ v ∷ [] = some-injective _ _ (sym at ∙ (ap (get_elem? views) (sym same) ∙ is)) in
    true≢false (sym on ∙ (subst (Each Idle) both idle).0)

pub at_snoc_here : {A : Type 0} (l : List A) (a b : A) (j : ℕ) → get_elem? (l ++ a ∷ []) j ≡ some b → (get_elem? l j ≡ some b) ⊎ ((j ≡ length l) × (a ≡ b))
at_snoc_here [] a b zero e = inr (refl, some-injective a b e)
at_snoc_here [] a b (suc j) e = absurd (some-ne-none b (sym e))
at_snoc_here (x ∷ xs) a b zero e = inl e
at_snoc_here (x ∷ xs) a b (suc j) e = ⊎_elim (λ h. inl h) (λ (h : (j ≡ length xs) × (a ≡ b)). inr (ap suc h.0, h.1)) (at_snoc_here xs a b j e)

-- later newcomers have later numbers
later : (P : View → Type 0) (seats who k : ℕ) → ((v : View) → who ≤ v.who → P v) → Each P (newcomers seats who k)
later P seats who zero f = tt
later P seats who (suc k) f = (f (fresh seats who) (omega arith), later P seats (who + 1) k (λ v h. f v (omega arith)))

pub deals : (seats id who k : ℕ) → Splits (Kept seats) id (newcomers seats who (suc k)) (newcomers seats (who + 1) k) (fresh seats who ∷ [])
deals seats id who k s h at =
    let left = newcomers seats (who + 1) k in
    let right = fresh seats who ∷ [] in
    let n : ℕ = length s.views in
    let carrier : ℕ → ℕ = λ x. cond (eqb x who) n (h.carrier x) in
    let stays : (x : ℕ) → x ≢ who → carrier x ≡ h.carrier x = λ x apart. ap (λ b. cond b n (h.carrier x)) (ne_eqb x who apart) in
    let moved : carrier who ≡ n = ap (λ b. cond b n (h.carrier who)) (eq-eqb who who refl) in
    let mine = h.each id (newcomers seats who (suc k)) at in
    let head = mine.0 in
    let goes : (j : ℕ) (u : View) → u.who ≢ who → Fits seats h.entries h.carrier h.taken_by h.mailboxes j u → Fits seats h.entries carrier h.taken_by h.mailboxes j u =
    λ j u apart f. reseat seats h.entries h.carrier carrier h.taken_by h.taken_by h.mailboxes j j u f (stays u.who apart ∙ f.held) f.takes in
    recarry seats s h carrier (set s.views id left ++ right ∷ []) (taker_stays h.taken_by h.has_taker) (λ j vs e. ⊎_elim
    (λ (was : get_elem? (set s.views id left) j ≡ some vs). ⊎_elim
    (λ (x : (j ≡ id) × (left ≡ vs)). subst (λ (y : ℕ × List View). Each (Fits seats h.entries carrier h.taken_by h.mailboxes y.0) y.1) (λ i. (sym x.0 i, x.1 i))
    (each_map (λ u. (who + 1 ≤ u.who) × Fits seats h.entries h.carrier h.taken_by h.mailboxes id u) (Fits seats h.entries carrier h.taken_by h.mailboxes id) (λ u f. goes id u (λ same. absurd (omega (arith, f.0))) f.1) left
    (each_both (λ u. who + 1 ≤ u.who) (Fits seats h.entries h.carrier h.taken_by h.mailboxes id) left (later (λ u. who + 1 ≤ u.who) seats (who + 1) k (λ v l. l)) mine.1)))
    (λ (x : (j ≢ id) × (get_elem? s.views j ≡ some vs)).
    each_map (Fits seats h.entries h.carrier h.taken_by h.mailboxes j) (Fits seats h.entries carrier h.taken_by h.mailboxes j) (λ u f. goes j u (λ same. x.0 (sym f.held ∙ (ap h.carrier same ∙ head.held))) f) vs (h.each j vs x.1))
    (at_set s.views id j left vs was))
    (λ (x : (j ≡ length (set s.views id left)) × (right ≡ vs)).
    let here : n ≡ j = sym (length-set s.views id left) ∙ sym x.0 in
    subst (λ (y : ℕ × List View). Each (Fits seats h.entries carrier h.taken_by h.mailboxes y.0) y.1) (λ i. (here i, x.1 i))
    (reseat seats h.entries h.carrier carrier h.taken_by h.taken_by h.mailboxes id n (fresh seats who) head moved (λ on. absurd (true≢false (sym on))), tt))
    (at_snoc_here (set s.views id left) right vs j e))
  where
    taker_stays : (taken_by : Option ℕ) → HasTaker s.views h.mailboxes taken_by → HasTaker (set s.views id (newcomers seats (who + 1) k) ++ (fresh seats who ∷ []) ∷ []) h.mailboxes taken_by
    taker_stays none t = t
    taker_stays (some j) t =
        let apart : j ≢ id = not_taker s.views id j (newcomers seats who (suc k)) t.0 at (new_idle seats who (suc k)) t.1 t.2 in
        (t.0, at_longer (set s.views id (newcomers seats (who + 1) k)) _ j (t.0 ∷ []) (set_else s.views id j _ apart ∙ t.1), t.2, t.3)

-- the dealing as a step of it is stated
pub deals_at : (seats id who k : ℕ) (vs : List View) → vs ≡ newcomers seats who (suc k) → Splits (Kept seats) id vs (others_of vs) (view_of vs ∷ [])
deals_at seats id who k vs is = subst (λ l. Splits (Kept seats) id l (others_of l) (view_of l ∷ [])) (sym is) (deals seats id who k)

pub new_seats_more : (table : TableId) (seats who k : ℕ) → new_seats table seats who (suc k) ≡ new_seats table seats who k ++ record { table = table; view = seated seats (who + k) } ∷ []
new_seats_more table seats who zero = ap (λ (n : ℕ). record { table = table; view = seated seats n } ∷ []) (omega arith)
new_seats_more table seats who (suc k) =
    ap (λ l. record { table = table; view = seated seats who } ∷ l) (new_seats_more table seats (who + 1) k
    ∙ ap (λ (n : ℕ). new_seats table seats (who + 1) k ++ record { table = table; view = seated seats n } ∷ []) (omega arith))

at_shut : (n i : ℕ) → i < n → get_elem? (replicate n shut) i ≡ some shut
at_shut zero i h = absurd (omega arith)
at_shut (suc n) zero h = refl
at_shut (suc n) (suc i) h = at_shut n i (omega arith)

shut_at : (n i : ℕ) (b : Mailbox) → get_elem? (replicate n shut) i ≡ some b → b ≡ shut
shut_at zero i b e = absurd (some-ne-none b (sym e))
shut_at (suc n) zero b e = sym (some-injective shut b e)
shut_at (suc n) (suc i) b e = shut_at n i b e

all_shut : (n i : ℕ) (b : Mailbox) → get_elem? (replicate n shut) i ≡ some b → since_of b ≤ 0
all_shut n i b e = subst (λ c. since_of c ≤ 0) (sym (shut_at n i b e)) (omega arith)

length_shut : (n : ℕ) → length (replicate n shut) ≡ n
length_shut zero = refl
length_shut (suc n) = ap suc (length_shut n)

marks : (n : ℕ) → replicate n 0 ≡ map mark (replicate n shut)
marks zero = refl
marks (suc n) = ap (λ l. 0 ∷ l) (marks n)

insides : (n : ℕ) → map some (replicate n Empty) ≡ map inside_of (replicate n shut)
insides zero = refl
insides (suc n) = ap (λ l. some Empty ∷ l) (insides n)

all_fit : (seats who k : ℕ) → who + k ≤ seats → Each (Fits seats [] (λ _. 0) none (replicate seats shut) 0) (newcomers seats who k)
all_fit seats who zero h = tt
all_fit seats who (suc k) h = (
  record {
    seats_are = refl;
    below = omega arith;
    held = refl;
    begins = ([], refl);
    mailbox = shut;
    has_mailbox = at_shut seats who (omega arith);
    fits_mailbox = refl;
    own = refl;
    takes = λ on. absurd (true≢false (sym on));
    picks = tt;
    idle = λ _. refl;
  },
  all_fit seats (who + 1) k (omega arith),
)

-- a new table keeps the rule
pub opens : (seats word : ℕ) (e : History) → e ≡ history_of seats [] → word ≡ page_word seats 0 [] → ready_of seats [] < 2147483648
    → Kept seats (opening (word ∷ replicate seats 0) (Home e ∷ replicate seats Empty) (newcomers seats 0 seats))
opens seats word e stands page bits = record {
  entries = [];
  carrier = λ _. 0;
  taken_by = none;
  mailboxes = replicate seats shut;
  all_mailboxes = length_shut seats;
  early = all_shut seats;
  words = λ i. page i ∷ marks seats i;
  homes = λ i. some (Home (stands i)) ∷ insides seats i;
  small = (omega arith, bits);
  has_taker = λ i r since start count e. absurd (true≢false (ap is_picked (shut_at seats i (picked r since start count) e)));
  each = λ j vs at. one j vs at;
}
  where
    one : (j : ℕ) (vs : List View) → get_elem? (newcomers seats 0 seats ∷ []) j ≡ some vs → Each (Fits seats [] (λ _. 0) none (replicate seats shut) j) vs
    one zero vs at = subst (Each (Fits seats [] (λ _. 0) none (replicate seats shut) 0)) (some-injective _ _ at) (all_fit seats 0 seats (omega arith))
    one (suc j) vs at = absurd (some-ne-none vs (sym at))

-- a new seat of the table may carry no view
pub enters : (seats slots : ℕ) (v : List View) → Enters (Kept seats) slots 0 (λ n w. entered (step slots 0 0 0 none) (v, []) n (w, []))
enters seats slots v s h len small = (
  [],
  recarry seats s h h.carrier (s.views ++ [] ∷ []) (taker_stays h.taken_by h.has_taker)
      (λ j vs e. ⊎_elim (λ (was : get_elem? s.views j ≡ some vs). h.each j vs was) (λ (x : (j ≡ length s.views) × ([] ≡ vs)). subst (Each (Fits seats h.entries h.carrier h.taken_by h.mailboxes j)) x.1 tt) (at_snoc_here s.views [] vs j e)),
  ((refl, refl, refl), refl),
)
  where
    taker_stays : (taken_by : Option ℕ) → HasTaker s.views h.mailboxes taken_by → HasTaker (s.views ++ [] ∷ []) h.mailboxes taken_by
    taker_stays none t = t
    taker_stays (some j) t = (t.0, at_longer s.views ([] ∷ []) j (t.0 ∷ []) t.1, t.2, t.3)
