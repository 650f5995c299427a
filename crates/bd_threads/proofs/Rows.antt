-- What rows have, and what each change leaves of it.
use Rattle.std.proofs.Common.{◌≡◌, ℕ, zero, suc, ◌<◌, ◌==◌, false, cond, List, [], ◌∷◌, ◌++◌, length, get_or, set, take, drop, ◌+◌, Some, None, refl, ap, sym, ◌∙◌, arith, eq-eqb, ne_eqb}
use Rattle.std.proofs.{lemmas.Bool.Decides.{nat_tests}, lemmas.Grind.{common_steps}, lemmas.List.{take_more, drop_more, get_or_read}}
use Rattle.std.proofs.lemmas.List.Elements.{All-nil, All-cons, filter_map-append}
use Rattle.std.specs.{Prelude.{Option, option_map}, List.{cons_option}}
use Rattle.bd_space.specs.{declared.space.Thread.{Thread}, Seats.{thread_in}, Words.{changed}}
use Rattle.bd_space.proofs.Keyed.{changed_none}
use Rattle.bd_keys.proofs.Rising.{AllOthers, has, without, filter_none}
use Rattle.bd_threads.specs.{declared.table.ThreadTable.{ThreadTable}, Listed.{listed}, Rows.{AreInverse, live, seat_at, place_at}}

abbrev pub seat_of : Thread → ℕ
seat_of t = t.seat

-- where no row is the seat's, no thread has it
pub none_seated : (seat : ℕ) (rows : List (Option Thread)) → ((i : ℕ) → seat_at rows i ≡ Some seat → ⊥)
    → AllOthers seat_of seat (live rows)
none_seated seat [] none = All-nil (λ t. has seat_of seat t ≡ false)
none_seated seat (None ∷ rows) none = none_seated seat rows (λ i. none (suc i))
none_seated seat (Some t ∷ rows) none =
    All-cons (λ u. has seat_of seat u ≡ false) t (live rows)
    (ne_eqb t.seat seat (λ e. none zero (ap (λ s. Some s) e))) (none_seated seat rows (λ i. none (suc i)))

-- the row of a seat's thread
pub record IsRowOf (seat : ℕ) (rows : List (Option Thread)) (i : ℕ) : Type 0 where
  pub found : thread_in (live rows) seat ≡ get_or rows i None
  pub left : live (set rows i None) ≡ without seat_of seat (live rows)
  pub fewer : suc (length (live (set rows i None))) ≡ length (live rows)
  pub turned : (f : Thread → Thread) (t : Thread) → get_or rows i None ≡ Some t
      → live (set rows i (Some (f t))) ≡ changed (has seat_of seat) f (live rows)

pub row_of : (seat : ℕ) (rows : List (Option Thread)) (i : ℕ) → seat_at rows i ≡ Some seat
    → ((j : ℕ) → seat_at rows j ≡ Some seat → j ≡ i) → IsRowOf seat rows i
row_of seat [] i at only = absurd (cc)
row_of seat (None ∷ rows) zero at only = absurd (cc)
row_of seat (Some t ∷ rows) zero at only =
    let is = eq-eqb t.seat seat (cc) in
    let others = none_seated seat rows (λ j e. let same = only (suc j) e in absurd (omega arith)) in
    record {
      found = rw is refl;
      left = rw is (sym (filter_none seat_of seat (live rows) others));
      fewer = refl;
      turned = λ f u e. let same : t ≡ u = cc in rw (is, changed_none seat_of f seat (live rows) others) (ap (λ v. f v ∷ live rows) (sym same));
    }
row_of seat (o ∷ rows) (suc i) at only = later o (λ e. let same = only zero e in absurd (omega arith)) (row_of seat rows i at (λ j e. let same = only (suc j) e in omega arith))
  where
    later : (o : Option Thread) → (option_map seat_of o ≡ Some seat → ⊥) → IsRowOf seat rows i → IsRowOf seat (o ∷ rows) (suc i)
    later None other r = record { found = r.found; left = r.left; fewer = r.fewer; turned = r.turned }
    later (Some t) other r =
        let differs = ne_eqb t.seat seat (λ e. other (ap (λ s. Some s) e)) in
        record {
          found = rw differs r.found;
          left = rw differs (ap (λ us. t ∷ us) r.left);
          fewer = ap suc r.fewer;
          turned = λ f u e. rw differs (ap (λ us. t ∷ us) (r.turned f u e));
        }

within : (rows : List (Option Thread)) (i seat : ℕ) → seat_at rows i ≡ Some seat → i < length rows
within rows i seat at = grind (arith, common_steps)

before : (rows : List (Option Thread)) (i j seat : ℕ) → seat_at (take i rows) j ≡ Some seat → (j < i) × (seat_at rows j ≡ Some seat)
before rows i j seat at = (grind (arith, common_steps), grind (arith, common_steps))

-- ---- where the map of a table leads

module _ (t : ThreadTable) (seat : ℕ) where
  pub none_found : None ≡ place_at t.places seat → AllOthers seat_of seat (listed t)
  none_found none = none_seated seat t.rows.items (λ i e. let here = t.found.back i seat e in cc)

  module _ (i : ℕ) (is : Some i ≡ place_at t.places seat) where
    pub inside : i < length t.rows.items
    inside = within t.rows.items i seat (t.found.there seat i (sym is))

    pub row_found : IsRowOf seat t.rows.items i
    row_found = row_of seat t.rows.items i (t.found.there seat i (sym is)) (λ j e. let here = t.found.back j seat e in cc)

    pub read : (o p : Option Thread) → o ≡ get_or t.rows.items i o → o ≡ p → get_or t.rows.items i None ≡ p
    read o p at e = sym (get_or_read t.rows.items i o inside at None) ∙ e

    -- it isn't empty
    pub filled : get_or t.rows.items i None ≡ None → ⊥
    filled none = let there = sym (ap (option_map seat_of) none) ∙ t.found.there seat i (sym is) in cc

    -- no row before it has the seat
    pub none_before : AllOthers seat_of seat (live (take i t.rows.items))
    none_before =
        none_seated seat (take i t.rows.items) (λ j e.
        let k = before t.rows.items i j seat e in
        let here = t.found.back j seat k.1 in
        let at : j ≡ i = cc in
        absurd (omega (arith, k.0, at)))

  -- a seat that no thread has leads nowhere
  pub unplaced : thread_in (listed t) seat ≡ None → place_at t.places seat ≡ None
  unplaced none = at (place_at t.places seat) refl
    where
      at : (o : Option ℕ) → o ≡ place_at t.places seat → o ≡ None
      at None e = refl
      at (Some i) e = absurd (filled i e (sym (row_found i e).found ∙ none))

  -- the thread in a row is its seat's
  pub seated : (i : ℕ) (u : Thread) → get_or t.rows.items i None ≡ Some u → u.seat ≡ seat → thread_in (listed t) seat ≡ Some u
  seated i u is same =
      let place = t.found.back i seat (ap (option_map seat_of) is ∙ ap (λ s. Some s) same) in
      (row_found i (sym place)).found ∙ is

-- ---- whose seat a row is

pub seat_set : (rows : List (Option Thread)) (i : ℕ) (o : Option Thread) → i < length rows → (j : ℕ)
    → seat_at (set rows i o) j ≡ cond (i == j) (option_map seat_of o) (seat_at rows j)
seat_set rows i o lt j = grind (arith, nat_tests, common_steps)

pub seat_push : (rows : List (Option Thread)) (o : Option Thread) (j : ℕ)
    → seat_at (rows ++ o ∷ []) j ≡ cond (length rows == j) (option_map seat_of o) (seat_at rows j)
seat_push rows o j = grind (arith, nat_tests, common_steps)

-- the seat of a row stays, whatever else changes of its thread
pub seat_kept : (rows : List (Option Thread)) (i : ℕ) (t u : Thread) → get_or rows i None ≡ Some t → u.seat ≡ t.seat → (j : ℕ)
    → seat_at (set rows i (Some u)) j ≡ seat_at rows j
seat_kept rows i t u is same j = grind (arith, nat_tests, common_steps)

-- ---- a row further

module _ (rows : List (Option Thread)) (i : ℕ) (lt : i < length rows) (o : Option Thread) (is : get_or rows i None ≡ o) where
  pub live_take : live (take (i + 1) rows) ≡ live (take i rows) ++ cons_option o []
  live_take = grind (arith, take_more rows i None lt, filter_map-append)

  pub live_drop : live (drop i rows) ≡ cons_option o (live (drop (i + 1) rows))
  live_drop = grind (arith, drop_more rows i None lt)

-- ---- two that lead back to where the other came from still do when a pair comes into both, or goes

abbrev put : (ℕ → Option ℕ) → ℕ → Option ℕ → ℕ → Option ℕ
put f a o x = cond (a == x) o (f x)

module _ (f g new_f new_g : ℕ → Option ℕ) (h : AreInverse f g) where
  pub inverse_as : ((a : ℕ) → new_f a ≡ f a) → ((b : ℕ) → new_g b ≡ g b) → AreInverse new_f new_g
  inverse_as of og = record { there = λ a b e. grind (arith, of, og, h.there); back = λ b a e. grind (arith, of, og, h.back) }

  module _ (a b : ℕ) where
    pub inverse_more : f a ≡ None → g b ≡ None → ((x : ℕ) → new_f x ≡ put f a (Some b) x) → ((y : ℕ) → new_g y ≡ put g b (Some a) y)
        → AreInverse new_f new_g
    inverse_more no_f no_g of og = record {
      there = λ x y e. grind (arith, nat_tests, of, og, h.there, h.back);
      back = λ y x e. grind (arith, nat_tests, of, og, h.there, h.back);
    }

    pub inverse_less : f a ≡ Some b → ((x : ℕ) → new_f x ≡ put f a None x) → ((y : ℕ) → new_g y ≡ put g b None y)
        → AreInverse new_f new_g
    inverse_less was of og = record {
      there = λ x y e. grind (arith, nat_tests, of, og, h.there, h.back);
      back = λ y x e. grind (arith, nat_tests, of, og, h.there, h.back);
    }
