-- Entries, where one comes, goes or is handed out: their rows, and what they are found by.
use Rattle.std.proofs.Common.{◌≡◌, ℕ, ◌==◌, ◌+◌, Bool, true, false, not, ◌||◌, cond, List, [], ◌∷◌, find, filter, map, length, Some, None, refl, sym, ap, subst, arith}
use Rattle.std.proofs.lemmas.Bool.{eqb-true, eqb-false}
use Rattle.std.specs.{Prelude.{option_map}, List.{list_any}}
use Rattle.bd_space.specs.{declared.space.Turn.{Turn}, Words.{changed}}
use Rattle.bd_space.proofs.Keyed.{changed_none}
use Rattle.bd_keys.proofs.{Rising.{Distinct, has, without, pairs_tail, rest_differ, filter_none}, Found.{any_some, found_has, find_gone, find_stays}}
use Rattle.bd_turns.proofs.Mapped.{find_map}
use Rattle.bd_chains.specs.Chain as chain
use Rattle.bd_chains.specs.{Rows.{Row, keys, values, row_at, drop_key}, Setting.{with_value}}
use Rattle.bd_chains.proofs.Rowing.{drop_none}
use Rattle.bd_turns.specs.{Turn.{hand_turn}, Entries.{Entry, made_of, call_row, mark_row, by_window, hand_entry}}

abbrev pub turn_of : Entry → Turn
turn_of e = e.turn

-- ---- the one made at a place, among the rows

-- where one was made there no other was
without_first : (m : ℕ) (x : Entry) (es : List Entry) → Distinct made_of (x ∷ es) → made_of x ≡ m → without made_of m es ≡ es
without_first m x es distinct is = filter_none made_of m es (rest_differ made_of m x es distinct is)

abbrev later : (x : Entry) (es : List Entry) → Distinct made_of (x ∷ es) → Distinct made_of es
later x es distinct = pairs_tail (λ a b. made_of a ≡ made_of b → ⊥) x es distinct

module _ {T : Type 0} (row : Entry → Row T) (m : ℕ) where
  -- what is found has a row
  found_key : (es : List Entry) (e : Entry) → find (has made_of m) es ≡ Some e → chain.has (row e).key (keys (map row es)) ≡ true
  found_key [] e is = grind arith
  found_key (x ∷ es) e is = grind (arith, found_key es e)

  -- the first's is in no other's
  pub row_went : (es : List Entry) (e : Entry) → Distinct made_of es → chain.distinct (keys (map row es)) ≡ true → find (has made_of m) es ≡ Some e
      → drop_key (row e).key (map row es) ≡ map row (without made_of m es)
  row_went [] e distinct apart is = grind arith
  row_went (x ∷ es) e distinct apart is =
      grind (arith, row_went es e (later x es distinct), found_key es e, drop_none (row e).key (map row es), without_first m x es distinct)

-- ---- one is handed out

with_none : {T : Type 0} (x : ℕ) (v : T) (rs : List (Row T)) → chain.has x (keys rs) ≡ false → with_value x v rs ≡ rs
with_none x v [] off = refl
with_none x v (r ∷ rs) off = grind (arith, with_none x v rs)

module _ (m : ℕ) where
  -- what stands in the slot of the one made there
  pub row_found : (es : List Entry) (e : Entry) → chain.distinct (keys (map call_row es)) ≡ true → find (has made_of m) es ≡ Some e
      → row_at e.spot.call (map call_row es) ≡ Some (e.lists.call, record { value = e.turn; counted = false })
  row_found [] e apart is = grind arith
  row_found (x ∷ es) e apart is = grind (arith, row_found es e, found_key call_row m es e)

  pub row_handed : (es : List Entry) (e : Entry) → Distinct made_of es → chain.distinct (keys (map call_row es)) ≡ true → find (has made_of m) es ≡ Some e
      → with_value e.spot.call (hand_turn e.turn) (map call_row es) ≡ map call_row (changed (has made_of m) hand_entry es)
  row_handed [] e distinct apart is = grind arith
  row_handed (x ∷ es) e distinct apart is =
      grind (arith, row_handed es e (later x es distinct), found_key call_row m es e, with_none e.spot.call (hand_turn e.turn) (map call_row es), unchanged)
    where
      unchanged : made_of x ≡ m → changed (has made_of m) hand_entry es ≡ es
      unchanged is = changed_none made_of hand_entry m es (rest_differ made_of m x es distinct is)

  -- none was made there
  pub none_made : (es : List Entry) → list_any (λ t. t.made == m) (map turn_of es) ≡ false → find (has made_of m) es ≡ None
  none_made es h = grind (arith, any_some (λ (t : Turn). t.made == m) (map turn_of es), find_map turn_of (λ (t : Turn). t.made == m) es)

  -- of the spots of those that stay
  pub spots_went : (n : ℕ) (es : List Entry) → cond (m == n) None (option_map (λ (e : Entry). e.spot) (find (has made_of n) es)) ≡ option_map (λ (e : Entry). e.spot) (find (has made_of n) (without made_of m es))
  spots_went n es = at (m == n) refl
    where
      at : (b : Bool) → (m == n) ≡ b → cond b None (option_map (λ (e : Entry). e.spot) (find (has made_of n) es)) ≡ option_map (λ (e : Entry). e.spot) (find (has made_of n) (without made_of m es))
      at true f = ap (option_map (λ (e : Entry). e.spot)) (sym (subst (λ k. find (has made_of k) (without made_of m es) ≡ None) (eqb-true m n f) (find_gone made_of m es)))
      at false f = ap (option_map (λ (e : Entry). e.spot)) (sym (find_stays made_of m n es (eqb-false m n f)))

-- ---- those in a window

module _ (p : ℕ) where
  abbrev is_in : Entry → Bool
  is_in e = e.turn.receiver == p

  abbrev elsewhere : List Entry → List Entry
  elsewhere es = filter (λ e. not (is_in e)) es

  pub none_in : (es : List Entry) → find is_in es ≡ None → elsewhere es ≡ es
  none_in [] is = refl
  none_in (x ∷ es) is = grind (arith, none_in es)

  -- the first of them goes: as many are elsewhere as before, and there is one less
  pub first_went : (es : List Entry) (e : Entry) → Distinct made_of es → find is_in es ≡ Some e
      → (elsewhere (without made_of (made_of e) es) ≡ elsewhere es) × (length (without made_of (made_of e) es) + 1 ≡ length es)
  first_went [] e distinct is = absurd cc
  first_went (x ∷ es) e distinct is = at (is_in x) refl is (first_went es e (later x es distinct))
    where
      at : (b : Bool) → is_in x ≡ b → cond b (Some x) (find is_in es) ≡ Some e
          → (find is_in es ≡ Some e → (elsewhere (without made_of (made_of e) es) ≡ elsewhere es) × (length (without made_of (made_of e) es) + 1 ≡ length es))
          → (elsewhere (without made_of (made_of e) (x ∷ es)) ≡ elsewhere (x ∷ es)) × (length (without made_of (made_of e) (x ∷ es)) + 1 ≡ length (x ∷ es))
      at true f is more =
          let same : x ≡ e = cc in
          let rest = without_first (made_of e) x es distinct (ap made_of same) in
          (grind (arith, rest, ap made_of same), grind (arith, rest, ap made_of same))
      at false f is more =
          let other = (found_has is_in (λ d. (made_of d == made_of x) ≡ false) es e is (rest_differ made_of (made_of x) x es distinct refl)).0 in
          (grind (arith, more is, other), grind (arith, more is, other))

-- ---- a process's

-- what is found of a process among its marks is found among the calls
pub marks_to : (p : ℕ) (es : List Entry) → list_any (λ m. p == by_window m) (values (map mark_row es)) ≡ list_any (λ t. p == t.receiver) (map turn_of es)
marks_to p [] = refl
marks_to p (e ∷ es) = ap (λ b. (p == e.turn.receiver) || b) (marks_to p es)

-- once those of a process went, none is there
pub none_received : (p : ℕ) (ts : List Turn) → list_any (λ t. p == t.receiver) (filter (λ t. not (t.receiver == p)) ts) ≡ false
none_received p [] = refl
none_received p (t ∷ ts) = grind (arith, none_received p ts)
