-- Those on some objects are queued.
use Rattle.bd_deaths.proofs.Words.{All, All-cons, All-head, All-tail, AllOthers, Armed, Bool, DeathNotification, DeathTable, DeathsAre, Distinct, Done, EntriesAre, Entry, Identity, Kept, List, None, Object, Option, Phase, Queued, Some, Told, Watch}
use Rattle.bd_deaths.proofs.Words.{WordKey, [], and-false, and-true, ap, arith, at_of, by_object, changed, cond, death_of, eq-eqb, eqb-true, eqb_turned, false, filter, find, find_none, get_or, has, has_cookie, in_phase, is_among, is_armed}
use Rattle.bd_deaths.proofs.Words.{is_armed_on, is_due, is_due_at, is_queued_in, is_told, is_told_of, kept_at, kept_of, list_any, list_any-append, made_of, map, ne_eqb, object_number, object_row, on_list, on_some, option_map, or-false, owned_in}
use Rattle.bd_deaths.proofs.Words.{pairs_head, pairs_tail, queued, queued_on, refl, rest_differ, same, same_eq, same_object, same_turned, subst, sym, true, values_on, watch_of, ℕ, ◌&&◌, ◌++◌, ◌==◌, ◌||◌, ◌∙◌, ◌∷◌, ◌≡◌}
use Rattle.bd_deaths.proofs.{Changes.{by_place, by_slot}, Ending.{values_of}, Tests.{same_tests}, Turning.{partly}}

-- what was queued is queued again
pub again : (o : Option Kept) (a b : Bool) → cond b (option_map queued (cond a (option_map queued o) o)) (cond a (option_map queued o) o) ≡ cond (a || (b || false)) (option_map queued o) o
again None true true = refl
again None true false = refl
again None false true = refl
again None false false = refl
again (Some k) true true = ap (λ k. Some k) (twice (is_armed k.death.phase) refl)
  where
    twice : (b : Bool) → is_armed k.death.phase ≡ b → queued (cond b (in_phase Queued k) k) ≡ cond b (in_phase Queued k) k
    twice true e = refl
    twice false e = rw e refl
again (Some k) true false = refl
again (Some k) false true = refl
again (Some k) false false = refl

-- ---- the watches on one object

module _ (o : Identity) where
  abbrev on : Entry → Bool
  on e = same_object o (death_of e).object

  -- those on its list are the watches of the entries on it
  pub watches_are : (t : DeathTable) (es : List Entry) → EntriesAre t es → (n : Option ℕ) → object_number t o ≡ n → on_some [] values_on n (map object_row es) ≡ filter (λ w. same_object o (by_object w)) (map watch_of es)
  watches_are t es h n is =
      sym (on_list by_object (λ _. false) same_object (object_number t) t.objects.chains (λ k l e. ap (object_number t) (same_eq k l e)) (map object_row es) h.on_objects o n is (map object_row es) h.on_objects.listed)
      ∙ ap (filter (λ w. same_object o (by_object w))) (values_of object_row es)

  -- what stands in a slot is among them if it is on the object
  pub watched : (k : ℕ) (es : List Entry) (e : Entry) → Distinct at_of es → find (λ e. at_of e == k) es ≡ Some e → list_any (λ w. w.at == k) (filter (λ w. same_object o (by_object w)) (map watch_of es)) ≡ on e
  watched k [] e distinct is = absurd cc
  watched k (x ∷ es) e distinct is = at (at_of x == k) (on x) refl refl is (watched k es e (pairs_tail (λ a b. at_of a ≡ at_of b → ⊥) x es distinct))
    where
      rest : List Entry → List Watch
      rest es = filter (λ w. same_object o (by_object w)) (map watch_of es)

      none : (es : List Entry) → find (λ e. at_of e == k) es ≡ None → list_any (λ w. w.at == k) (rest es) ≡ false
      none [] f = refl
      none (y ∷ es) f = grind (arith, none es)

      at : (b c : Bool) → (at_of x == k) ≡ b → on x ≡ c → cond b (Some x) (find (λ e. at_of e == k) es) ≡ Some e
          → (find (λ e. at_of e == k) es ≡ Some e → list_any (λ w. w.at == k) (rest es) ≡ on e) → list_any (λ w. w.at == k) (cond c (watch_of x ∷ rest es) (rest es)) ≡ on e
      at true true h g f more = let same : x ≡ e = cc in let is : on e ≡ true = sym (ap on same) ∙ g in rw (h, is) refl
      at true false h g f more =
          let same : x ≡ e = cc in
          none es (find_none at_of k es (rest_differ at_of k x es distinct (eqb-true (at_of x) k h))) ∙ sym (sym (ap on same) ∙ g)
      at false true h g f more = rw h (more f)
      at false false h g f more = more f

-- ---- what is kept where it is among the watches

module _ (t : DeathTable) (o : Identity) (l : List DeathNotification) (h : DeathsAre t l) where
  pub queued_there : (n : Option ℕ) → object_number t o ≡ n → (ws : List Watch) → ws ≡ on_some [] values_on n (map object_row h.entries)
      → (k : ℕ) → cond (list_any (λ w. w.at == k) ws) (option_map queued (kept_at t k)) (kept_at t k) ≡ option_map (partly (is_armed_on (o ∷ [])) (in_phase Queued)) (kept_at t k)
  queued_there n is ws are k = subst (λ o2. cond (list_any (λ w. w.at == k) ws) (option_map queued o2) o2 ≡ option_map (partly (is_armed_on (o ∷ [])) (in_phase Queued)) o2) (sym (h.are.slots_are k)) (of (find (λ e. at_of e == k) h.entries) refl)
    where
      of : (f : Option Entry) → find (λ e. at_of e == k) h.entries ≡ f
          → cond (list_any (λ w. w.at == k) ws) (option_map queued (option_map kept_of f)) (option_map kept_of f) ≡ option_map (partly (is_armed_on (o ∷ [])) (in_phase Queued)) (option_map kept_of f)
      of None f = none (list_any (λ w. w.at == k) ws)
        where
          none : (b : Bool) → cond {A = Option Kept} b None None ≡ None
          none true = refl
          none false = refl
      of (Some e) f =
          rw (ap (list_any (λ w. w.at == k)) (are ∙ watches_are o t h.entries h.are n is) ∙ watched o k h.entries e (by_slot h.entries h.are.apart) f ∙ same_turned o (death_of e).object)
          (some (same (death_of e).object o) (is_armed (death_of e).phase) refl)
        where
          some : (b c : Bool) → is_armed (death_of e).phase ≡ c → cond b (Some (cond (is_armed (death_of e).phase) (in_phase Queued e.kept) e.kept)) (Some e.kept) ≡ Some (cond (is_armed (death_of e).phase && (b || false)) (in_phase Queued e.kept) e.kept)
          some true true g = rw g refl
          some true false g = rw g refl
          some false true g = rw g refl
          some false false g = rw g refl

-- ---- one object after the other

-- who is armed is as little told as who is queued
pub queued_untold : (k : WordKey) (x : DeathNotification) → is_armed x.phase ≡ true → is_told_of k (record x { phase = Queued }) ≡ is_told_of k x
queued_untold k x armed = ap (λ b. b && has_cookie k x) (untold x.phase armed)
  where
    untold : (p : Phase) → is_armed p ≡ true → false ≡ is_told p
    untold Armed e = refl
    untold Queued e = absurd cc
    untold Told e = absurd cc
    untold Done e = absurd cc

abbrev queue : DeathNotification → DeathNotification
queue x = record x { phase = Queued }

pub none_queued : (l : List DeathNotification) → queued_on [] l ≡ l
none_queued [] = refl
none_queued (x ∷ l) = rw (and-false (is_armed x.phase)) (ap (λ ys. x ∷ ys) (none_queued l))

pub more_queued : (os : List Identity) (o : Identity) (l : List DeathNotification) → queued_on (o ∷ []) (queued_on os l) ≡ queued_on (os ++ o ∷ []) l
more_queued os o [] = refl
more_queued os o (x ∷ l) = (λ i. (head (is_armed x.phase) (is_among os x.object) refl ∙ ap (λ b. cond (is_armed x.phase && b) (queue x) x) (sym (list_any-append (λ k. same x.object k) os (o ∷ [])))) i ∷ more_queued os o l i)
  where
    head : (a s : Bool) → is_armed x.phase ≡ a
        → cond (is_armed_on (o ∷ []) (cond (a && s) (queue x) x)) (queue (cond (a && s) (queue x) x)) (cond (a && s) (queue x) x) ≡ cond (a && (s || is_among (o ∷ []) x.object)) (queue x) x
    head true true g = refl
    head true false g = rw g refl
    head false s g = rw g refl

-- ---- all objects of a process

pub owned_among : (objects : List Object) (p : ℕ) (o : Identity) → is_among (map (λ x. x.id) (filter (λ x. x.owner == p) objects)) o ≡ owned_in objects p o
owned_among [] p o = refl
owned_among (x ∷ objects) p o = at (x.owner == p) (owned_among objects p o)
  where
    rest : List Identity
    rest = map (λ x. x.id) (filter (λ x. x.owner == p) objects)

    at : (b : Bool) → is_among rest o ≡ owned_in objects p o → is_among (map (λ x. x.id) (cond b (x ∷ filter (λ x. x.owner == p) objects) (filter (λ x. x.owner == p) objects))) o ≡ ((same x.id o && b) || owned_in objects p o)
    at true more = rw (and-true (same x.id o), more, same_turned o x.id) refl
    at false more = rw (and-false (same x.id o)) more

module _ (objects : List Object) (p : ℕ) where
  none_due : (m : ℕ) (es : List Entry) → AllOthers made_of m es → list_any (is_due_at objects p m) (map death_of es) ≡ false
  none_due m [] others = refl
  none_due m (e ∷ es) others =
      let far = All-head (λ e. has made_of m e ≡ false) e es others in
      rw (eqb_turned m (made_of e), far, and-false (is_due objects p (death_of e))) (none_due m es (All-tail (λ e. has made_of m e ≡ false) e es others))

  -- where no two were made at one place, one has the place of one that is due only if it is due
  own_due : (es : List Entry) → Distinct made_of es → All (λ e. is_queued_in (map death_of es) objects p (death_of e) ≡ is_due objects p (death_of e)) es
  own_due [] distinct = λ k d h. absurd (omega arith)
  own_due (x ∷ es) distinct =
      All-cons (λ e. is_queued_in (map death_of (x ∷ es)) objects p (death_of e) ≡ is_due objects p (death_of e)) x es
      (rw (eq-eqb (made_of x) (made_of x) refl, and-true (is_due objects p (death_of x)), none_due (made_of x) es (rest_differ made_of (made_of x) x es distinct refl), or-false (is_due objects p (death_of x))) refl)
      (λ k d h.
      let far = ne_eqb (made_of (get_or es k d)) (made_of x) (λ e. pairs_head (λ a b. made_of a ≡ made_of b → ⊥) x es distinct k d h (sym e)) in
      rw (far, and-false (is_due objects p (death_of x))) (own_due es (pairs_tail (λ a b. made_of a ≡ made_of b → ⊥) x es distinct) k d h))

  pub all_queued : (t : DeathTable) (l : List DeathNotification) → DeathsAre t l → queued_on (map (λ x. x.id) (filter (λ x. x.owner == p) objects)) l ≡ changed (is_queued_in l objects p) queue l
  all_queued t l h =
      same_tests queue _ _ l (λ x. ap (λ b. is_armed x.phase && b) (owned_among objects p x.object))
      ∙ subst (λ l. changed (is_due objects p) queue l ≡ changed (is_queued_in l objects p) queue l) h.deaths_are
      (changed_same (is_due objects p) (is_queued_in (map death_of h.entries) objects p) h.entries (λ k d lt. sym (own_due h.entries (by_place h.entries h.are.apart) k d lt)))
    where
      changed_same : (P Q : DeathNotification → Bool) (es : List Entry) → All (λ e. P (death_of e) ≡ Q (death_of e)) es → changed P queue (map death_of es) ≡ changed Q queue (map death_of es)
      changed_same P Q [] all = refl
      changed_same P Q (e ∷ es) all =
          rw (All-head (λ e. P (death_of e) ≡ Q (death_of e)) e es all) (ap (λ ys. cond (Q (death_of e)) (queue (death_of e)) (death_of e) ∷ ys) (changed_same P Q es (All-tail (λ e. P (death_of e) ≡ Q (death_of e)) e es all)))
