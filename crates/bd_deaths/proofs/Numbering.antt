-- Those that are due, by their numbers.
use Rattle.bd_deaths.proofs.Words.{All, All-filter, All-head, All-map, All-tail, AllPairs, AllPairs-cons, Apart, Bool, Contains, Contains-dedup_nat, Contains-from_dedup, DeathTable, EntriesAre, Entry, Fits, Identity, List, None, Object, Some, Watch}
use Rattle.bd_deaths.proofs.Words.{[], and_parts, ap, arith, at_of, by_object, cond, death_of, deaths_at, dedup, due_numbers, eq-eqb, eqb, eqb-true, false, filter, get_or, inl, inr, is_among, is_any_at, is_armed, is_at, is_due, is_due_entry}
use Rattle.bd_deaths.proofs.Words.{is_due_number, is_for_another, is_some, is_some_and, kept_at, length, list_any, list_any-append, map, ne_eqb, not, number_of, or_cases, or_left, or_right, owned_in, pairs_head, pairs_tail, refl, same, same_eq}
use Rattle.bd_deaths.proofs.Words.{same_object, same_turned, subst, suc, sym, true, watch_of, zero, ℕ, ◌%◌, ◌&&◌, ◌*◌, ◌++◌, ◌+◌, ◌<◌, ◌==◌, ◌^◌, ◌||◌, ◌∙◌, ◌∷◌, ◌≡◌, ◌⊎◌}
use Rattle.bd_deaths.proofs.{Looking.{all_kept}, Queueing.{owned_among}}
use Rattle.bd_deaths.specs.Numbers.{has}

abbrev pub number : Entry → ℕ
number e = number_of e.kept e.at

-- ---- of one object

module _ (t : DeathTable) (p : ℕ) (o : Identity) where
  abbrev on : List Entry → List Watch
  on es = filter (λ w. same_object o (by_object w)) (map watch_of es)

  found_on : (e : Entry) (n : ℕ) → kept_at t (at_of e) ≡ Some e.kept → is_at t p n (watch_of e) ≡ (is_for_another p (death_of e) && (number e == n))
  found_on e n here = rw here (by (is_for_another p (death_of e)))
    where
      by : (b : Bool) → is_some_and (cond b (Some (number e)) None) (λ m. m == n) ≡ (b && (number e == n))
      by true = refl
      by false = refl

  any_on_it : (e : Entry) → kept_at t (at_of e) ≡ Some e.kept → is_any_at t p (watch_of e) ≡ is_for_another p (death_of e)
  any_on_it e here = rw here (by (is_for_another p (death_of e)))
    where
      by : (b : Bool) → is_some (cond b (Some (number e)) None) ≡ b
      by true = refl
      by false = refl

  watched : (q : Watch → Bool) (r : Entry → Bool) (es : List Entry) → All (λ e. q (watch_of e) ≡ r e) es → list_any q (on es) ≡ list_any (λ e. same o (death_of e).object && r e) es
  watched q r [] all = refl
  watched q r (e ∷ es) all = at (same o (death_of e).object) (All-head (λ e. q (watch_of e) ≡ r e) e es all) (watched q r es (All-tail (λ e. q (watch_of e) ≡ r e) e es all))
    where
      at : (b : Bool) → q (watch_of e) ≡ r e → list_any q (on es) ≡ list_any (λ e. same o (death_of e).object && r e) es
          → list_any q (cond b (watch_of e ∷ on es) (on es)) ≡ ((b && r e) || list_any (λ e. same o (death_of e).object && r e) es)
      at true here rest = rw (here, rest) refl
      at false here rest = rest

  pub numbers_on : (es : List Entry) → EntriesAre t es → (n : ℕ) → list_any (is_at t p n) (on es) ≡ list_any (λ e. same o (death_of e).object && (is_for_another p (death_of e) && (number e == n))) es
  numbers_on es h n = watched (is_at t p n) (λ e. is_for_another p (death_of e) && (number e == n)) es (λ k d lt. found_on (get_or es k d) n (all_kept t es h k d lt))

  pub some_on : (es : List Entry) → EntriesAre t es → list_any (is_any_at t p) (on es) ≡ list_any (λ e. same o (death_of e).object && is_for_another p (death_of e)) es
  some_on es h = watched (is_any_at t p) (λ e. is_for_another p (death_of e)) es (λ k d lt. any_on_it (get_or es k d) (all_kept t es h k d lt))

-- ---- one object after the other

-- it is on one of these, armed for another, and has this number
abbrev pub is_found : ℕ → List Identity → ℕ → Entry → Bool
is_found p os n e = is_among os (death_of e).object && (is_for_another p (death_of e) && (number e == n))

pub none_found : (p n : ℕ) (es : List Entry) → list_any (is_found p [] n) es ≡ false
none_found p n [] = refl
none_found p n (e ∷ es) = none_found p n es

pub more_found : (p : ℕ) (os : List Identity) (o : Identity) (n : ℕ) (es : List Entry)
    → (list_any (is_found p os n) es || list_any (λ e. same o (death_of e).object && (is_for_another p (death_of e) && (number e == n))) es) ≡ list_any (is_found p (os ++ o ∷ []) n) es
more_found p os o n [] = refl
more_found p os o n (e ∷ es) =
    four (is_among os (death_of e).object) (same o (death_of e).object) (is_for_another p (death_of e) && (number e == n)) (list_any (is_found p os n) es) _
    ∙ ap (λ b. ((is_among os (death_of e).object || (b || false)) && (is_for_another p (death_of e) && (number e == n))) || (list_any (is_found p os n) es || list_any (λ e. same o (death_of e).object && (is_for_another p (death_of e) && (number e == n))) es)) (same_turned o (death_of e).object)
    ∙ (λ i. (sym (list_any-append (λ k. same (death_of e).object k) os (o ∷ [])) i && (is_for_another p (death_of e) && (number e == n))) || more_found p os o n es i)
  where
    four : (a b q r s : Bool) → (((a && q) || r) || ((b && q) || s)) ≡ (((a || (b || false)) && q) || (r || s))
    four true true true r s = refl
    four true false true r s = refl
    four false true true true s = refl
    four false true true false s = refl
    four false false true r s = refl
    four true true false r s = refl
    four true false false r s = refl
    four false true false r s = refl
    four false false false r s = refl

module _ (objects : List Object) (p : ℕ) where
  abbrev pub owned : List Identity
  owned = map (λ x. x.id) (filter (λ x. x.owner == p) objects)

  pub due_found : (n : ℕ) (es : List Entry) → list_any (is_found p owned n) es ≡ list_any (is_due_number objects p n) es
  due_found n [] = refl
  due_found n (e ∷ es) = (λ i. (ap (λ b. b && (is_for_another p (death_of e) && (number e == n))) (owned_among objects p (death_of e).object) ∙ five (owned_in objects p (death_of e).object) (not ((death_of e).process == p)) (is_armed (death_of e).phase) (number e == n)) i || due_found n es i)
    where
      five : (a b c d : Bool) → (a && ((b && c) && d)) ≡ ((b && (c && a)) && d)
      five true true true d = refl
      five true true false d = refl
      five true false c d = refl
      five false true true d = refl
      five false true false d = refl
      five false false c d = refl

  -- one on an object of the process is due
  pub some_due : (o : Identity) → is_among owned o ≡ true → (es : List Entry) → list_any (λ e. same o (death_of e).object && is_for_another p (death_of e)) es ≡ true → list_any (is_due objects p) (map death_of es) ≡ true
  some_due o own [] h = absurd cc
  some_due o own (e ∷ es) h = elim (or_cases (same o (death_of e).object && is_for_another p (death_of e)) (list_any (λ e. same o (death_of e).object && is_for_another p (death_of e)) es) h) [
    | inl s ↦
        let here = and_parts (same o (death_of e).object) (is_for_another p (death_of e)) s in
        let armed = (and_parts (not ((death_of e).process == p)) (is_armed (death_of e).phase) here.1).1 in
        let is : owned_in objects p (death_of e).object ≡ true = sym (ap (owned_in objects p) (same_eq o (death_of e).object here.0)) ∙ sym (owned_among objects p o) ∙ own in
        or_left (is_due objects p (death_of e)) (list_any (is_due objects p) (map death_of es)) (let d : is_due objects p (death_of e) ≡ true = rw (armed, is) refl in d)
    | inr s ↦ or_right (is_due objects p (death_of e)) (list_any (is_due objects p) (map death_of es)) (some_due o own es s)
  ]

-- ---- in order

-- lists that rise and have the same are the same
abbrev pub Rise : List ℕ → Type 0
Rise xs = AllPairs (λ x y. x < y) xs

above_none : (n : ℕ) (xs : List ℕ) → All (λ y. n < y) xs → has xs n ≡ false
above_none n [] all = refl
above_none n (x ∷ xs) all =
    let above = All-head (λ y. n < y) x xs all in
    rw (ne_eqb x n (λ e. absurd (omega (arith, above, e)))) (above_none n xs (All-tail (λ y. n < y) x xs all))

below_all : (n m : ℕ) (xs : List ℕ) → All (λ y. n < y) xs → has xs m ≡ true → n < m
below_all n m [] all h = absurd cc
below_all n m (x ∷ xs) all h = elim (or_cases (x == m) (has xs m) h) [
  | inl s ↦ subst (λ k. n < k) (eqb-true x m s) (All-head (λ y. n < y) x xs all)
  | inr s ↦ below_all n m xs (All-tail (λ y. n < y) x xs all) s
]

pub same_risen : (xs ys : List ℕ) → Rise xs → Rise ys → ((n : ℕ) → has xs n ≡ has ys n) → xs ≡ ys
same_risen [] [] up vp alike = refl
same_risen [] (y ∷ ys) up vp alike = let e = alike y in let f = eq-eqb y y refl in absurd (cc)
same_risen (x ∷ xs) [] up vp alike = let e = alike x in let f = eq-eqb x x refl in absurd (cc)
same_risen (x ∷ xs) (y ∷ ys) up vp alike =
    let above_x = pairs_head (λ x y. x < y) x xs up in
    let above_y = pairs_head (λ x y. x < y) y ys vp in
    let heads : x ≡ y = first (or_cases (y == x) (has ys x) (sym (alike x) ∙ rw (eq-eqb x x refl) refl)) (or_cases (x == y) (has xs y) (alike y ∙ rw (eq-eqb y y refl) refl)) above_x above_y in
    (λ i. heads i ∷ same_risen xs ys (pairs_tail (λ x y. x < y) x xs up) (pairs_tail (λ x y. x < y) y ys vp) (λ n. rest n heads above_x above_y (x == n) refl) i)
  where
    first : (((y == x) ≡ true) ⊎ (has ys x ≡ true)) → (((x == y) ≡ true) ⊎ (has xs y ≡ true)) → All (λ z. x < z) xs → All (λ z. y < z) ys → x ≡ y
    first (inl a) b p q = sym (eqb-true y x a)
    first (inr a) (inl b) p q = eqb-true x y b
    first (inr a) (inr b) p q = let u = below_all x y xs p b in let v = below_all y x ys q a in absurd (omega (arith, u, v))

    rest : (n : ℕ) → x ≡ y → All (λ z. x < z) xs → All (λ z. y < z) ys → (b : Bool) → (x == n) ≡ b → has xs n ≡ has ys n
    rest n heads p q true e =
        let is = eqb-true x n e in
        subst (λ k. has xs k ≡ false) is (above_none x xs p) ∙ sym (subst (λ k. has ys k ≡ false) (sym heads ∙ is) (above_none y ys q))
    rest n heads p q false e =
        let f = ap (λ z. z == n) (sym heads) ∙ e in
        sym (rw e refl) ∙ alike n ∙ rw f refl

-- the numbers of entries rise
pub numbers_rise : (next : ℕ) (es : List Entry) → AllPairs Apart es → All (Fits next) es → (q : Entry → Bool) → Rise (map number (filter q es))
numbers_rise next [] apart fits q = λ i j d lt h. absurd (omega arith)
numbers_rise next (e ∷ es) apart fits q = at (q e) (numbers_rise next es (pairs_tail Apart e es apart) (All-tail (Fits next) e es fits) q)
  where
    before : (s t a b : ℕ) → s < t → a < 2 ^ 64 → s * 2 ^ 64 + a < t * 2 ^ 64 + b
    before s t a b e f = omega arith

    above : All (λ m. number e < m) (map number (filter q es))
    above = All-map (λ m. number e < m) number (filter q es) (All-filter q (λ d. number e < number d) es (λ k d lt. before e.kept.serial (get_or es k d).kept.serial e.at (get_or es k d).at (pairs_head Apart e es apart k d lt).serials (All-head (Fits next) e es fits).at))

    at : (b : Bool) → Rise (map number (filter q es)) → Rise (map number (cond b (e ∷ filter q es) (filter q es)))
    at true rest = AllPairs-cons (λ x y. x < y) (number e) (map number (filter q es)) above rest
    at false rest = rest

-- ---- and back

pub has_any : (n : ℕ) (q : Entry → Bool) (es : List Entry) → list_any (λ e. q e && (number e == n)) es ≡ has (map number (filter q es)) n
has_any n q [] = refl
has_any n q (e ∷ es) = at (q e) (has_any n q es)
  where
    at : (b : Bool) → list_any (λ e. q e && (number e == n)) es ≡ has (map number (filter q es)) n
        → ((b && (number e == n)) || list_any (λ e. q e && (number e == n)) es) ≡ has (map number (cond b (e ∷ filter q es) (filter q es))) n
    at true rest = ap (λ c. (number e == n) || c) rest
    at false rest = rest

-- ---- each once

found : (ns : List ℕ) (n : ℕ) → has ns n ≡ true → Contains ns n
found [] n h = absurd cc
found (m ∷ ns) n h = elim (or_cases (m == n) (has ns n) h) [
  | inl s ↦ (0, omega arith, eqb-true m n s)
  | inr s ↦ let f = found ns n s in let within = f.1 in (suc f.0, omega (arith, within), f.2)
]

there : (ns : List ℕ) (n k : ℕ) → k < length ns → get_or ns k n ≡ n → has ns n ≡ true
there [] n k h e = absurd (omega arith)
there (m ∷ ns) n zero h e = or_left (m == n) (has ns n) (eq-eqb m n e)
there (m ∷ ns) n (suc k) h e = or_right (m == n) (has ns n) (there ns n k (omega arith) e)

pub has_once : (ns : List ℕ) (n : ℕ) → has (dedup eqb ns) n ≡ has ns n
has_once ns n = both (has (dedup eqb ns) n) (has ns n)
    (λ h. let c = Contains-from_dedup eqb ns n (found (dedup eqb ns) n h) in there ns n c.0 c.1 c.2)
    (λ h. let c = Contains-dedup_nat ns n (found ns n h) in there (dedup eqb ns) n c.0 c.1 c.2)
  where
    both : (a b : Bool) → (a ≡ true → b ≡ true) → (b ≡ true → a ≡ true) → a ≡ b
    both true b f g = sym (f refl)
    both false true f g = g refl
    both false false f g = refl

-- ---- and back to the notifications

slot_of : (s a : ℕ) → a < 2 ^ 64 → (s * 2 ^ 64 + a) % 2 ^ 64 ≡ a
slot_of s a h = grind arith

module _ (t : DeathTable) where
  pub deaths_numbered : (q : Entry → Bool) (es : List Entry) → All (λ e. kept_at t (at_of e) ≡ Some e.kept) es → All (λ e. at_of e < 2 ^ 64) es → deaths_at t (map number (filter q es)) ≡ map death_of (filter q es)
  deaths_numbered q [] all fits = refl
  deaths_numbered q (e ∷ es) all fits =
      at (q e) (All-head (λ e. kept_at t (at_of e) ≡ Some e.kept) e es all) (slot_of e.kept.serial e.at (All-head (λ e. at_of e < 2 ^ 64) e es fits))
      (deaths_numbered q es (All-tail (λ e. kept_at t (at_of e) ≡ Some e.kept) e es all) (All-tail (λ e. at_of e < 2 ^ 64) e es fits))
    where
      at : (b : Bool) → kept_at t (at_of e) ≡ Some e.kept → (number e % 2 ^ 64) ≡ at_of e → deaths_at t (map number (filter q es)) ≡ map death_of (filter q es)
          → deaths_at t (map number (cond b (e ∷ filter q es) (filter q es))) ≡ map death_of (cond b (e ∷ filter q es) (filter q es))
      at true here slot rest = rw (slot, here) (ap (λ xs. death_of e ∷ xs) rest)
      at false here slot rest = rest

-- where there is a number one is due
pub some_number : (objects : List Object) (p i : ℕ) (es : List Entry) → i < length (due_numbers objects p es) → list_any (is_due objects p) (map death_of es) ≡ true
some_number objects p i [] h = absurd (omega arith)
some_number objects p i (e ∷ es) h = at (not ((death_of e).process == p)) (is_due objects p (death_of e)) refl h (some_number objects p i es)
  where
    at : (a b : Bool) → is_due objects p (death_of e) ≡ b → i < length (map number (cond (a && b) (e ∷ filter (is_due_entry objects p) es) (filter (is_due_entry objects p) es)))
        → (i < length (due_numbers objects p es) → list_any (is_due objects p) (map death_of es) ≡ true) → (b || list_any (is_due objects p) (map death_of es)) ≡ true
    at a true f h rest = refl
    at true false f h rest = rest h
    at false false f h rest = rest h
