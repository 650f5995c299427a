-- For the public search `oneway_turns`, and for no law: a step changes no turn that has ended, and none after the first that
-- hasn't ended then.
use Rattle.bd_laws.proofs.words.Logic.{◌≡◌, ℕ, ◌+◌, zero, suc, ◌<◌, Bool, true, false, not, List, [], ◌∷◌, ◌++◌, Option, None, inl, inr, refl, ap, sym, subst, ◌∙◌, map, length, take, drop, set, get_or, add-one, arith, list_all, filter_map, is_some, take-append-drop, map-append, list_all-map, list_all_more}
use Rattle.bd_laws.proofs.words.Types.{Identity, Entry}
use Rattle.bd_laws.proofs.words.Space.{Space, History, space_after}
use Rattle.bd_laws.specs.Lists.{In, Pairs}
use Rattle.bd_laws.proofs.Lists.{in_left, map_in, in_all}
use Rattle.bd_laws.proofs.Tests.{and_both, is_some_ok}
use Rattle.bd_audit.specs.declared.turns.Turn.{Turn}
use Rattle.bd_audit.specs.Replays.{with_entry}
use Rattle.bd_audit.specs.TurnSearch.{is_handed, is_live, noted_at, marked, turn_made, next_turns, turns_on, has_ended, Wait, AreInTurn}
use Rattle.bd_audit.proofs.TurnsAreTaken.TurnLog.{always_logged}
use Rattle.bd_audit.proofs.TurnsAreTaken.Logged.{Logged, InOrder, handed_found, noted_none, noted_kept, never}
use Rattle.bd_laws.proofs.Fewer.{to_false}
use Rattle.bd_audit.proofs.TurnsTellOfCalls.TurnLists.{turns_noted, mark_next}

-- ---- lists

map_same : (f : Turn → Turn) (ts : List Turn) → ((t : Turn) → In t ts → f t ≡ t) → map f ts ≡ ts
map_same f [] h = refl
map_same f (t ∷ ts) h = ap (λ x. x ∷ map f ts) (h t (inl refl)) ∙ ap (λ xs. t ∷ xs) (map_same f ts (λ u i. h u (inr i)))

in_take : (n : ℕ) (ts : List Turn) (t : Turn) → In t (take n ts) → In t ts
in_take n ts t i = subst (In t) (take-append-drop n ts) (in_left t (take n ts) (drop n ts) i)

-- ---- one turn

none_is : (o : Option ℕ) → is_some o ≡ false → o ≡ None
none_is o h = search arith

not_noted : (o : Option ℕ) (n : ℕ) (now : Bool) → now ≡ false → noted_at o n now ≡ o
not_noted o n now h = search arith

module _ (o : Identity) (n : ℕ) (z : Space) (ts new : List Turn) (log : Logged o (map (marked n z.buffers) ts ++ new) z) where
  abbrev mark : Turn → Turn
  mark = marked n z.buffers

  abbrev all : List Turn
  all = map mark ts ++ new

  there : (t : Turn) → In t ts → In (mark t) all
  there t i = in_left (mark t) (map mark ts) new (map_in mark t ts i)

  -- what has ended has no buffer any more that could be handed out
  stays : (t : Turn) → In t ts → has_ended t ≡ true → mark t ≡ t
  stays t i h =
      let e = is_some_ok t.ended h in
      let ended = noted_kept t.ended n (not (is_live z.buffers t.made)) e.0 e.1 in
      let unhanded = to_false (is_handed z.buffers t.made) (λ y. let c = handed_found z.buffers t.made y in log.gone (mark t) (there t i) e.0 ended c.0 c.1 c.2) in
      let handed = not_noted t.handed n (is_handed z.buffers t.made) unhanded in
      (λ j. record { made = t.made; handed = handed j; ended = (ended ∙ sym e.1) j })

  -- while one hasn't ended, a later one is neither handed out nor ends
  waits : (t u : Turn) → In t ts → In u ts → InOrder (mark t) (mark u) → has_ended (mark t) ≡ false → mark u ≡ u
  waits t u i j order h =
      let lives = none_is (mark t).ended h in
      let b = log.live (mark t) (there t i) lives in
      let handed = never (mark u).handed (λ p e. let ended = (order.taken p e).3 in absurd (cc)) in
      let ended = never (mark u).ended (λ p e. (log.over (mark u) (there u j) p e handed).none b.0 b.1.here b.1.on) in
      let handed_was = noted_none u.handed n (is_handed z.buffers u.made) handed in
      let ended_was = noted_none u.ended n (not (is_live z.buffers u.made)) ended in
      (λ k. record { made = u.made; handed = (handed ∙ sym handed_was.0) k; ended = (ended ∙ sym ended_was.0) k })

  all_wait : (us : List Turn) → ((t : Turn) → In t us → In t ts) → Pairs InOrder (map mark us ++ new) → Wait mark us
  all_wait [] l k = tt
  all_wait (u ∷ us) l k = (
    (λ h. map_same mark us (λ t i. waits u t (l u (inl refl)) (l t (inr i)) (k.0 (mark t) (in_left (mark t) (map mark us) new (map_in mark t us i))) h)),
    all_wait us (λ t i. l t (inr i)) k.1,
  )

  pub logged_in_turn : (m : ℕ) → list_all has_ended (take m ts) ≡ true → AreInTurn mark m ts
  logged_in_turn m h = search (arith, map_same, stays, in_take, in_all, all_wait)

-- ---- one step more of a history

pub in_turn : (o : Identity) (g k : History) (e : Entry) (place m : ℕ) (ts : List Turn) → k ≡ with_entry g e → place ≡ length g.entries → ts ≡ turns_on o g
    → list_all has_ended (take m ts) ≡ true → AreInTurn (marked place (space_after k).buffers) m ts
in_turn o g k e place m ts at p t h =
    let bs = (space_after k).buffers in
    let next = turns_noted o g k e place ts (next_turns o place bs ts) at p t refl in
    logged_in_turn o place (space_after k) ts (filter_map (turn_made o place) bs) (subst (λ us. Logged o us (space_after k)) (sym next) (always_logged o k)) m h

-- ---- marking one after the other

rest_stays : (f : Turn → Turn) (ts : List Turn) (i : ℕ) (d : Turn) → Wait f ts → i < length ts → has_ended (f (get_or ts i d)) ≡ false → map f (drop (suc i) ts) ≡ drop (suc i) ts
rest_stays f [] i d w lt h = absurd (omega arith)
rest_stays f (t ∷ ts) zero d w lt h = w.0 h
rest_stays f (t ∷ ts) (suc i) d w lt h = rest_stays f ts i d w.1 (omega arith) h

turn_at : (f : Turn → Turn) (ts : List Turn) (i : ℕ) (d : Turn) → i < length ts → get_or (map f (take i ts) ++ drop i ts) i d ≡ get_or ts i d
turn_at f [] i d lt = absurd (omega arith)
turn_at f (t ∷ ts) zero d lt = refl
turn_at f (t ∷ ts) (suc i) d lt = turn_at f ts i d (omega arith)

-- the list while its first turns are marked, and which of these have ended
pub record MarkedTo (f : Turn → Turn) (ts : List Turn) (i : ℕ) (ys : List Turn) : Type 0 where
  pub turns : ys ≡ map f (take i ts) ++ drop i ts
  pub ended : list_all has_ended (map f (take i ts)) ≡ true

module _ (f : Turn → Turn) (n : ℕ) (ts : List Turn) (are : AreInTurn f n ts) where
  module _ (ys : List Turn) (i : ℕ) (d r : Turn) (at : MarkedTo f ts i ys) (lt : i < length ts) (below : i < length ys) (is : r ≡ f (get_or ys i d)) where
    one_more : set ys i r ≡ map f (take (i + 1) ts) ++ drop (i + 1) ts
    one_more = mark_next f ts ys i d r at.turns lt below is

    turn_is : f (get_or ts i d) ≡ r
    turn_is = sym (is ∙ ap (λ xs. f (get_or xs i d)) at.turns ∙ ap f (turn_at f ts i d lt))

    -- one that has ended
    pub marks_next : has_ended r ≡ true → MarkedTo f ts (i + 1) (set ys i r)
    marks_next h = record {
      turns = one_more;
      ended =
          list_all-map has_ended f (take (i + 1) ts)
          ∙ list_all_more (λ t. has_ended (f t)) ts i d lt
          ∙ and_both _ (has_ended (f (get_or ts i d))) (sym (list_all-map has_ended f (take i ts)) ∙ at.ended) (ap has_ended turn_is ∙ h);
    }

    -- one that hasn't, and with it all
    pub marks_stop : has_ended r ≡ false → set ys i r ≡ map f ts
    marks_stop h =
        let rest = subst (λ j. map f (drop j ts) ≡ drop j ts) (sym (add-one i)) (rest_stays f ts i d are.wait lt (ap has_ended turn_is ∙ h)) in
        one_more ∙ ap (λ xs. map f (take (i + 1) ts) ++ xs) (sym rest) ∙ sym (map-append f (take (i + 1) ts) (drop (i + 1) ts)) ∙ ap (map f) (take-append-drop (i + 1) ts)
