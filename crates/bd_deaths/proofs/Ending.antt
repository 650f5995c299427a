-- A process's notifications go, one after the other.
use Rattle.bd_deaths.proofs.Words.{Bool, DeathNotification, DeathTable, DeathsAre, Distinct, Entry, List, Mark, None, Option, Row, Some, [], ap, arith, by_process, cond, death_of, false, filter, filter_none, find, found_has, is_notification, length}
use Rattle.bd_deaths.proofs.Words.{length-map, list_any, made_of, map, mark_of, none_mapped, not, option_map, pairs_tail, process_row, refl, rest_differ, sym, true, values, without, ℕ, ◌+◌, ◌==◌, ◌||◌, ◌∙◌, ◌∷◌, ◌≡◌}
use Rattle.bd_deaths.proofs.Changes.{by_place, filter_map, find_map}

pub values_of : {A T : Type 0} (row : A → Row T) (xs : List A) → values (map row xs) ≡ map (λ x. (row x).held.value) xs
values_of row [] = refl
values_of row (x ∷ xs) = ap (λ vs. (row x).held.value ∷ vs) (values_of row xs)

module _ (p : ℕ) where
  abbrev is_in : Entry → Bool
  is_in e = (death_of e).process == p

  abbrev elsewhere : List Entry → List Entry
  elsewhere es = filter (λ e. not (is_in e)) es

  none_in : (es : List Entry) → find is_in es ≡ None → elsewhere es ≡ es
  none_in [] is = refl
  none_in (x ∷ es) is = grind (arith, none_in es)

  -- the first of them goes: as many are elsewhere as before, and there is one less
  first_went : (es : List Entry) (e : Entry) → Distinct made_of es → find is_in es ≡ Some e
      → (elsewhere (without made_of (made_of e) es) ≡ elsewhere es) × (length (without made_of (made_of e) es) + 1 ≡ length es)
  first_went [] e distinct is = absurd cc
  first_went (x ∷ es) e distinct is = at (is_in x) refl is (first_went es e (pairs_tail (λ a b. made_of a ≡ made_of b → ⊥) x es distinct))
    where
      at : (b : Bool) → is_in x ≡ b → cond b (Some x) (find is_in es) ≡ Some e
          → (find is_in es ≡ Some e → (elsewhere (without made_of (made_of e) es) ≡ elsewhere es) × (length (without made_of (made_of e) es) + 1 ≡ length es))
          → (elsewhere (without made_of (made_of e) (x ∷ es)) ≡ elsewhere (x ∷ es)) × (length (without made_of (made_of e) (x ∷ es)) + 1 ≡ length (x ∷ es))
      at true f is more =
          let same : x ≡ e = cc in
          let rest = filter_none made_of (made_of e) es (rest_differ made_of (made_of e) x es distinct (ap made_of same)) in
          (grind (arith, rest, ap made_of same), grind (arith, rest, ap made_of same))
      at false f is more =
          let other = (found_has is_in (λ d. (made_of d == made_of x) ≡ false) es e is (rest_differ made_of (made_of x) x es distinct refl)).0 in
          (grind (arith, more is, other), grind (arith, more is, other))

  -- what is found of a process among its marks is found among the notifications
  pub marks_to : (es : List Entry) → list_any (λ m. p == by_process m) (values (map process_row es)) ≡ list_any (λ x. p == x.process) (map death_of es)
  marks_to [] = refl
  marks_to (e ∷ es) = ap (λ b. (p == (death_of e).process) || b) (marks_to es)

  -- once those of a process went, none is there
  pub none_owned : (xs : List DeathNotification) → list_any (λ x. p == x.process) (filter (λ x. not (x.process == p)) xs) ≡ false
  none_owned [] = refl
  none_owned (x ∷ xs) = grind (arith, none_owned xs)

  -- nothing stays of nothing
  pub none_left : (l : List DeathNotification) → length l ≡ 0 → filter (λ x. not (x.process == p)) l ≡ l
  none_left [] e = refl
  none_left (x ∷ l) e = absurd (omega arith)

module _ (t : DeathTable) (p : ℕ) (l : List DeathNotification) (h : DeathsAre t l) where
  -- the first mark of the process is the first notification's
  mark_found : find (λ v. by_process v == p) (values (map process_row h.entries)) ≡ option_map mark_of (find (is_in p) h.entries)
  mark_found = ap (find (λ v. by_process v == p)) (values_of process_row h.entries) ∙ find_map mark_of (λ v. by_process v == p) h.entries

  abbrev left : List DeathNotification → List DeathNotification
  left xs = filter (λ x. not (x.process == p)) xs

  pub popped : (mark : Mark) → find (λ v. by_process v == p) (values (map process_row h.entries)) ≡ Some mark
      → (left (filter (λ x. not (is_notification mark.made x)) l) ≡ left l) × (length (filter (λ x. not (is_notification mark.made x)) l) + 1 ≡ length l)
  popped mark is = of (find (is_in p) h.entries) refl (sym mark_found ∙ is)
    where
      of : (o : Option Entry) → find (is_in p) h.entries ≡ o → option_map mark_of o ≡ Some mark
          → (left (filter (λ x. not (is_notification mark.made x)) l) ≡ left l) × (length (filter (λ x. not (is_notification mark.made x)) l) + 1 ≡ length l)
      of None f k = absurd cc
      of (Some e) f k =
          let es = h.entries in
          let same : made_of e ≡ mark.made = cc in
          let w = first_went p es e (by_place es h.are.apart) f in
          let rest : map death_of (without made_of (made_of e) es) ≡ filter (λ x. not (x.made == mark.made)) l =
          filter_map death_of (λ x. not (x.made == made_of e)) es ∙ ap (λ m. filter (λ (x : DeathNotification). not (x.made == m)) (map death_of es)) same ∙ ap (filter (λ x. not (x.made == mark.made))) h.deaths_are in
          let n = w.1 in
          let a = length-map (without made_of (made_of e) es) death_of in
          let b = length-map es death_of in
          let c = ap length rest in
          let d = ap length h.deaths_are in (
            ap left (sym rest) ∙ sym (filter_map death_of (λ x. not (x.process == p)) (without made_of (made_of e) es)) ∙ ap (map death_of) w.0 ∙ filter_map death_of (λ x. not (x.process == p)) es ∙ ap left h.deaths_are,
            omega (arith, n, a, b, c, d),
          )

  pub emptied : find (λ v. by_process v == p) (values (map process_row h.entries)) ≡ None → left l ≡ l
  emptied is =
      ap left (sym h.deaths_are) ∙ sym (filter_map death_of (λ x. not (x.process == p)) h.entries)
      ∙ ap (map death_of) (none_in p h.entries (none_mapped mark_of (find (is_in p) h.entries) (sym mark_found ∙ is))) ∙ h.deaths_are
