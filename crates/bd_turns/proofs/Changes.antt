-- The table after a change.
use Rattle.std.proofs.Common.{◌≡◌, ℕ, ◌==◌, ◌+◌, ◌≤◌, Bool, true, false, eqb-true, not, cond, List, [], ◌∷◌, ◌++◌, find, filter, map, length, Option, Some, None, refl, sym, ap, subst, ◌∙◌, arith}
use Rattle.std.proofs.{lemmas.List.{map-append, length-map}, lemmas.List.Kept.{AllPairs-filter}, lemmas.List.Quantifiers.{all_pairs_push}}
use Rattle.std.specs.{Prelude.{option_map, min}, List.{list_any}}
use Rattle.bd_space.specs.{declared.space.Turn.{Turn}, Words.{changed}}
use Rattle.bd_space.proofs.Keyed.{changed_none, pairs_changed, tags_changed}
use Rattle.bd_keys.proofs.{Rising.{AllOthers, has, without, filter_none}, Found.{none_found, apart_from, tags_more}, Options.{none_mapped}}
use Rattle.bd_chains.specs.{declared.links.Held.{Held}, declared.chains.Chains.{Chains}, Rows.{Row, values, drop_key}, Setting.{with_value}}
use Rattle.bd_chains.specs.{Columns.{value_at, is_open, Holds}, Lists.{AreListed}}
use Rattle.bd_turns.specs.{declared.spot.Mark.{Mark}, declared.spot.Spot.{Spot}, declared.table.TurnTable.{TurnTable}, Turn.{hand_turn}}
use Rattle.bd_turns.specs.Spots.{spot_at, mark_of}
use Rattle.bd_turns.specs.Entries.{by_object, by_window, same_object, object_number, CallsShow, MarksShow, Entry, made_of, call_row, mark_row, hand_entry, EntriesAre}
use Rattle.bd_turns.specs.Stands.{TurnsAre}
use Rattle.bd_chains.proofs.Listing.{kept_shows}
use Rattle.bd_turns.proofs.Entries.{turn_of, row_went, row_found, row_handed, none_made, spots_went, none_in, first_went}
use Rattle.bd_turns.proofs.Mapped.{filter_map, find_map, changed_map, kept_map}

-- ---- room

pub more_chains : (i j n m s : ℕ) → i ≤ j → m ≡ n → min (min i n) s ≤ min (min j m) s
more_chains i j n m s items lists = omega arith

pub more_room : (l k m v w s t : ℕ) → l ≤ k → k ≤ m → v ≤ w → s ≤ t → min (min l v) s ≤ min (min m w) t + 0
more_room l k m v w s t a b c d = omega arith

-- a call that was found
record Found (es : List Entry) (made : ℕ) (s : Spot) : Type 0 where
  entry : Entry
  is : find (has made_of made) es ≡ Some entry
  spot : entry.spot ≡ s

found : (t : TurnTable) (es : List Entry) (made : ℕ) (s : Spot) → EntriesAre t es → spot_at t.spots made ≡ Some s → Found es made s
found t es made s h at = of (find (has made_of made) es) refl (sym (h.spots_are made) ∙ at)
  where
    of : (o : Option Entry) → find (has made_of made) es ≡ o → option_map (λ (e : Entry). e.spot) o ≡ Some s → Found es made s
    of None e k = absurd cc
    of (Some x) e k = record { entry = x; is = e; spot = cc }

absent : (t : TurnTable) (es : List Entry) (made : ℕ) → EntriesAre t es → spot_at t.spots made ≡ None → find (has made_of made) es ≡ None
absent t es made h at = none_mapped (λ (e : Entry). e.spot) (find (has made_of made) es) (sym (h.spots_are made) ∙ at)

-- what stands on the lists stays, and is found where it was
pub turns_kept : (t u : TurnTable) (l : List Turn) → ((rs : List (Row Turn)) → CallsShow t rs → CallsShow u rs) → ((rs : List (Row Mark)) → MarksShow t rs → MarksShow u rs)
    → ((m : ℕ) → spot_at u.spots m ≡ spot_at t.spots m) → TurnsAre t l → TurnsAre u l
turns_kept t u l calls marks spots h = record {
  entries = h.entries;
  are = record {
    on_objects = calls (map call_row h.entries) h.are.on_objects;
    in_windows = marks (map mark_row h.entries) h.are.in_windows;
    distinct = h.are.distinct;
    spots_are = λ m. spots m ∙ h.are.spots_are m;
  };
  turns_are = h.turns_are;
}

-- ---- one comes

pub turns_pushed : (t u : TurnTable) (turn : Turn) (spot : Spot) (l : List Turn) → list_any (λ t. t.made == turn.made) l ≡ false → TurnsAre t l
    → ((rs : List (Row Turn)) → CallsShow t rs → (n : ℕ) × CallsShow u (rs ++ record { key = spot.call; list = n; held = record { value = turn; counted = false } } ∷ []))
    → ((rs : List (Row Mark)) → MarksShow t rs → (n : ℕ) × MarksShow u (rs ++ record { key = spot.mark; list = n; held = record { value = mark_of turn; counted = false } } ∷ []))
    → ((m : ℕ) → spot_at u.spots m ≡ cond (turn.made == m) (Some spot) (spot_at t.spots m)) → TurnsAre u (l ++ turn ∷ [])
turns_pushed t u turn spot l new h calls marks spots =
    let es = h.entries in
    let none = none_made turn.made es (ap (list_any (λ (t : Turn). t.made == turn.made)) h.turns_are ∙ new) in
    let c = calls (map call_row es) h.are.on_objects in
    let w = marks (map mark_row es) h.are.in_windows in
    let e : Entry = record { turn = turn; spot = spot; lists = record { call = c.0; mark = w.0 } } in
    record {
      entries = es ++ e ∷ [];
      are = record {
        on_objects = subst (CallsShow u) (sym (map-append call_row es (e ∷ []))) c.1;
        in_windows = subst (MarksShow u) (sym (map-append mark_row es (e ∷ []))) w.1;
        distinct = all_pairs_push (λ a b. made_of a ≡ made_of b → ⊥) es e h.are.distinct (apart_from made_of es e none);
        spots_are = λ m. spots m ∙ ap (λ o. cond (turn.made == m) (Some spot) o) (h.are.spots_are m) ∙ tags_more made_of (λ (d : Entry). d.spot) es e m none;
      };
      turns_are = map-append turn_of es (e ∷ []) ∙ ap (λ ts. ts ++ turn ∷ []) h.turns_are;
    }

-- ---- one goes

pub turns_removed : (t u : TurnTable) (made : ℕ) (s : Spot) (l : List Turn) → TurnsAre t l → spot_at t.spots made ≡ Some s
    → ((rs : List (Row Turn)) → CallsShow t rs → CallsShow u (drop_key s.call rs))
    → ((rs : List (Row Mark)) → MarksShow t rs → MarksShow u (drop_key s.mark rs))
    → ((m : ℕ) → spot_at u.spots m ≡ cond (made == m) None (spot_at t.spots m)) → TurnsAre u (filter (λ t. not (t.made == made)) l)
turns_removed t u made s l h at calls marks spots =
    let es = h.entries in
    let f = found t es made s h.are at in
    record {
      entries = without made_of made es;
      are = record {
        on_objects = subst (CallsShow u)
            (ap (λ (p : Spot). drop_key p.call (map call_row es)) (sym f.spot) ∙ row_went call_row made es f.entry h.are.distinct h.are.on_objects.holds.apart f.is)
            (calls (map call_row es) h.are.on_objects);
        in_windows = subst (MarksShow u)
            (ap (λ (p : Spot). drop_key p.mark (map mark_row es)) (sym f.spot) ∙ row_went mark_row made es f.entry h.are.distinct h.are.in_windows.holds.apart f.is)
            (marks (map mark_row es) h.are.in_windows);
        distinct = AllPairs-filter (λ a b. made_of a ≡ made_of b → ⊥) (λ e. not (has made_of made e)) es h.are.distinct;
        spots_are = λ m. spots m ∙ ap (λ o. cond (made == m) None o) (h.are.spots_are m) ∙ spots_went made m es;
      };
      turns_are = filter_map turn_of (λ t. not (t.made == made)) es ∙ ap (filter (λ t. not (t.made == made))) h.turns_are;
    }

-- there was none
none_there : (t : TurnTable) (made : ℕ) (l : List Turn) → TurnsAre t l → spot_at t.spots made ≡ None → AllOthers (λ x. x.made) made l
none_there t made l h at =
    none_found (has (λ (x : Turn). x.made) made) l
    (ap (find (λ (x : Turn). x.made == made)) (sym h.turns_are) ∙ find_map turn_of (λ x. x.made == made) h.entries ∙ ap (option_map turn_of) (absent t h.entries made h.are at))

pub turns_absent : (t u : TurnTable) (made : ℕ) (l : List Turn) → TurnsAre t l → spot_at t.spots made ≡ None
    → ((rs : List (Row Turn)) → CallsShow t rs → CallsShow u rs) → ((rs : List (Row Mark)) → MarksShow t rs → MarksShow u rs)
    → ((m : ℕ) → spot_at u.spots m ≡ cond (made == m) None (spot_at t.spots m)) → TurnsAre u (filter (λ t. not (t.made == made)) l)
turns_absent t u made l h at calls marks spots =
    subst (TurnsAre u) (sym (filter_none (λ (x : Turn). x.made) made l (none_there t made l h at))) (turns_kept t u l calls marks (λ m. spots m ∙ same m (made == m) refl) h)
  where
    same : (m : ℕ) (b : Bool) → (made == m) ≡ b → cond b None (spot_at t.spots m) ≡ spot_at t.spots m
    same m true e = sym at ∙ ap (spot_at t.spots) (eqb-true made m e)
    same m false e = refl

-- ---- one is handed out

listed_handed : (N : _ → Option ℕ) (m : ℕ) (es : List Entry) → AreListed by_object (λ _. false) N (map call_row es) → AreListed by_object (λ _. false) N (map call_row (changed (has made_of m) hand_entry es))
listed_handed N m [] h = tt
listed_handed N m (x ∷ es) h = ((grind (arith, h.0.0), refl), listed_handed N m es h.1)

-- what stands in its slot
pub value_is : (t : TurnTable) (made : ℕ) (s : Spot) (l : List Turn) → (h : TurnsAre t l) → spot_at t.spots made ≡ Some s → (e : Entry) × (find (has made_of made) h.entries ≡ Some e) × (e.spot ≡ s) × (value_at t.objects.chains s.call ≡ Some e.turn)
value_is t made s l h at =
    let f = found t h.entries made s h.are at in (
      f.entry,
      f.is,
      f.spot,
      ap (λ (p : Spot). value_at t.objects.chains p.call) (sym f.spot)
          ∙ ap (option_map (λ (p : ℕ × Held Turn). p.1.value)) (h.are.on_objects.holds.shown_are f.entry.spot.call ∙ row_found made h.entries f.entry h.are.on_objects.holds.apart f.is),
    )

pub turns_handed_out : (t : TurnTable) (chains : Chains Turn) (made : ℕ) (s : Spot) (v : Turn) (l : List Turn) → TurnsAre t l → spot_at t.spots made ≡ Some s → value_at t.objects.chains s.call ≡ Some v
    → ((rs : List (Row Turn)) → Holds t.objects.chains rs → Holds chains (with_value s.call (hand_turn v) rs)) → ((m : ℕ) → is_open chains m ≡ is_open t.objects.chains m)
    → TurnsAre (record { objects = record { chains = chains; numbers = t.objects.numbers }; windows = t.windows; spots = t.spots; last = t.last }) (changed (λ t. t.made == made) hand_turn l)
turns_handed_out t chains made s v l h at was holds opens =
    let es = h.entries in
    let f = value_is t made s l h at in
    let same : f.0.turn ≡ v = some_is (sym f.3 ∙ was) in
    let rows = ap (λ (p : Spot). with_value p.call (hand_turn v) (map call_row es)) (sym f.2) ∙ ap (λ w. with_value f.0.spot.call (hand_turn w) (map call_row es)) (sym same)
    ∙ row_handed made es f.0 h.are.distinct h.are.on_objects.holds.apart f.1 in
    record {
      entries = changed (has made_of made) hand_entry es;
      are = record {
        on_objects = kept_shows by_object (λ _. false) same_object (object_number t) (object_number t) t.objects.chains chains (map call_row es) (map call_row (changed (has made_of made) hand_entry es)) h.are.on_objects
            (subst (Holds chains) rows (holds (map call_row es) h.are.on_objects.holds))
            (listed_handed (object_number t) made es h.are.on_objects.listed) opens (λ k. refl);
        in_windows = subst (MarksShow t) (sym (kept_map mark_row (has made_of made) hand_entry (λ e. refl) es)) h.are.in_windows;
        distinct = pairs_changed (has made_of made) hand_entry made_of (λ e. refl) (λ a b. a ≡ b → ⊥) es h.are.distinct;
        spots_are = λ m. h.are.spots_are m ∙ sym (tags_changed (has made_of made) hand_entry made_of (λ e. refl) (λ (e : Entry). e.spot) (λ e. refl) m es);
      };
      turns_are = changed_map turn_of (λ t. t.made == made) hand_entry hand_turn (λ e. refl) es ∙ ap (changed (λ t. t.made == made) hand_turn) h.turns_are;
    }
  where
    some_is : {a b : Turn} → Some a ≡ Some b → a ≡ b
    some_is e = cc

pub nothing_handed : (t : TurnTable) (made : ℕ) (l : List Turn) → TurnsAre t l → spot_at t.spots made ≡ None → TurnsAre t (changed (λ t. t.made == made) hand_turn l)
nothing_handed t made l h at = subst (TurnsAre t) (sym (changed_none (λ (x : Turn). x.made) hand_turn made l (none_there t made l h at))) h

-- ---- the values of the rows

values_of : {A T : Type 0} (row : A → Row T) (xs : List A) → values (map row xs) ≡ map (λ x. (row x).held.value) xs
values_of row [] = refl
values_of row (x ∷ xs) = ap (λ vs. (row x).held.value ∷ vs) (values_of row xs)

pub calls_are : (es : List Entry) → values (map call_row es) ≡ map turn_of es
calls_are = values_of call_row

pub marks_are : (es : List Entry) → values (map mark_row es) ≡ map (λ e. mark_of e.turn) es
marks_are = values_of mark_row

-- ---- those in a window go

module _ (t : TurnTable) (p : ℕ) (l : List Turn) (h : TurnsAre t l) where
  -- the first mark in the window is the first call's
  mark_found : find (λ v. by_window v == p) (values (map mark_row h.entries)) ≡ option_map (λ (e : Entry). mark_of e.turn) (find (λ e. e.turn.receiver == p) h.entries)
  mark_found = ap (find (λ v. by_window v == p)) (marks_are h.entries) ∙ find_map (λ (e : Entry). mark_of e.turn) (λ v. by_window v == p) h.entries

  abbrev left : List Turn → List Turn
  left ts = filter (λ t. not (t.receiver == p)) ts

  pub popped : (mark : Mark) → find (λ v. by_window v == p) (values (map mark_row h.entries)) ≡ Some mark
      → (left (filter (λ t. not (t.made == mark.made)) l) ≡ left l) × (length (filter (λ t. not (t.made == mark.made)) l) + 1 ≡ length l)
  popped mark is = of (find (λ e. e.turn.receiver == p) h.entries) refl (sym (mark_found) ∙ is)
    where
      of : (o : Option Entry) → find (λ e. e.turn.receiver == p) h.entries ≡ o → option_map (λ (e : Entry). mark_of e.turn) o ≡ Some mark
          → (left (filter (λ t. not (t.made == mark.made)) l) ≡ left l) × (length (filter (λ t. not (t.made == mark.made)) l) + 1 ≡ length l)
      of None f k = absurd cc
      of (Some e) f k =
          let es = h.entries in
          let same : made_of e ≡ mark.made = cc in
          let w = first_went p es e h.are.distinct f in
          let rest : map turn_of (without made_of (made_of e) es) ≡ filter (λ t. not (t.made == mark.made)) l =
          filter_map turn_of (λ t. not (t.made == made_of e)) es ∙ ap (λ m. filter (λ (t : Turn). not (t.made == m)) (map turn_of es)) same ∙ ap (filter (λ t. not (t.made == mark.made))) h.turns_are in
          let n = w.1 in
          let a = length-map (without made_of (made_of e) es) turn_of in
          let b = length-map es turn_of in
          let c = ap length rest in
          let d = ap length h.turns_are in (
            ap left (sym rest) ∙ sym (filter_map turn_of (λ t. not (t.receiver == p)) (without made_of (made_of e) es)) ∙ ap (map turn_of) w.0 ∙ filter_map turn_of (λ t. not (t.receiver == p)) es ∙ ap left h.turns_are,
            omega (arith, n, a, b, c, d),
          )

  pub emptied : find (λ v. by_window v == p) (values (map mark_row h.entries)) ≡ None → left l ≡ l
  emptied is =
      ap left (sym h.turns_are) ∙ sym (filter_map turn_of (λ t. not (t.receiver == p)) h.entries)
      ∙ ap (map turn_of) (none_in p h.entries (none_mapped (λ (e : Entry). mark_of e.turn) (find (λ e. e.turn.receiver == p) h.entries) (sym (mark_found) ∙ is))) ∙ h.turns_are

-- nothing stays of nothing
pub none_left : (p : ℕ) (l : List Turn) → length l ≡ 0 → filter (λ t. not (t.receiver == p)) l ≡ l
none_left p [] e = refl
none_left p (t ∷ l) e = absurd (omega arith)
