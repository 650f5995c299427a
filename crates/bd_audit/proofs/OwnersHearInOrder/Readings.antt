-- For OwnersHearInOrder: a reading tells of an object what goes on from what was heard of it.
use Rattle.bd_laws.proofs.words.Logic.{◌≡◌, ℕ, suc, ◌+◌, ◌-◌, ◌≤◌, Bool, true, false, cond, ◌&&◌, List, [], ◌∷◌, ◌++◌, Some, inl, inr, refl, ap, sym, subst, ◌∙◌, length, arith, flat_map, filter_map, nat_lt}
use Rattle.bd_laws.proofs.words.Types.{Return, Identity, Object, Reference, Handshake, Work, Thread}
use mathlib.Core.Bool.{beq}
use Rattle.bd_laws.proofs.words.Space.{changed, same, Space, lives_in, held_in, strong_in, object_in, is_shaking, is_handshake, notice_of, list_to_read, returns_of, returns_of_object, bytes_read, shakes, handshakes, told_of, is_told_by, read_by, taken, ends_read}
use Rattle.bd_space.specs.declared.space.WorkKind.TheVariants as work
use Rattle.bd_laws.proofs.words.Laws.{In, Before, Once}
use Rattle.bd_laws.proofs.Lists.{in_left, in_append, in_changed, any_found, any_in, pairs_filter}
use Rattle.bd_laws.proofs.Tests.{and_both, same_eq, eq_same, to_false}
use Rattle.bd_laws.proofs.IsInTurn.Ripening.{taken_in}
use Rattle.bd_laws.proofs.Objects.{told_id}
use Rattle.bd_laws.proofs.IsInTurn.Received.{one_object}
use Rattle.bd_laws.proofs.NothingIsPending.Noticing.{Live}
use Rattle.bd_laws.proofs.FollowingIsLocal.Finding.{find_only}
use Rattle.bd_laws.proofs.Earlier.{in_order_differ}
use Rattle.bd_audit.specs.Hearing.{event_of, heard_in}
use Rattle.bd_audit.proofs.OwnersHearInOrder.Orders.{Hearing, unheard, hears_all}
use Rattle.bd_audit.proofs.OwnersHearInOrder.Tallies.{tally, tally_append, tally_first, tally_unmet}
use Rattle.bd_audit.proofs.OwnersHearInOrder.Tracking.{is_weak, is_strong, waits, number, shaken, Tells, Tracks, HeardBefore, Same, tells_same, shaking_parts}
use Rattle.bd_audit.proofs.OwnersHearInOrder.Returns.{Silent, is_strength, returns_by, turned, silent_heard, silent_untold, silent_shaken, once_heard, once_shaken, told_or_silent, speaks_told}
use Rattle.bd_laws.proofs.FollowingIsLocal.Handshakes.{is_a_handshake}
use Rattle.bd_laws.proofs.FollowingIsLocal.Sent.{strong_held}

-- ---- reading

held_of : (references : List Reference) (o : Identity) (r : Reference) → In r references → r.object ≡ o → held_in references o ≡ true
held_of references o r l e = any_in (λ (y : Reference). same y.object o) r references l (eq_same r.object o e)

strong_of : (references : List Reference) (o : Identity) (r : Reference) → In r references → r.object ≡ o → r.strong ≡ true → strong_in references o ≡ true
strong_of references o r l e t = any_in (λ (y : Reference). y.strong && same y.object o) r references l (and_both r.strong (same r.object o) t (eq_same r.object o e))

-- a Handshake keeps its object, in its strength
shaken_so : (references : List Reference) (o : Identity) (b : Bool) → shaken references o b ≡ 1 → cond b (strong_in references o) (held_in references o) ≡ true
shaken_so references o b h = search (arith, any_found, tally_unmet, shaking_parts, strong_of, held_of)

-- where no Handshake refers to the object, no Handshake does so at all
unheld : (references : List Reference) (o : Identity) → ((r : Reference) → In r references → r.holder ≡ Handshake) → ((b : Bool) → shaken references o b ≡ 0)
    → (r : Reference) → In r references → r.object ≡ o → ⊥
unheld references o all none r l e =
    let own = and_both (beq r.strong r.strong) (same r.object o) (own_strength r r.strong refl) (eq_same r.object o e) in
    let yes = any_in (is_shaking o r.strong) r references l (and_both (beq r.strong r.strong && same r.object o) (is_handshake r.holder) own (ap is_handshake (all r l))) in
    let first = tally_first (is_shaking o r.strong) references yes in
    let no = none r.strong in absurd (omega arith)
  where
    own_strength : (r : Reference) (b : Bool) → r.strong ≡ b → beq r.strong b ≡ true
    own_strength r b e = search arith

returns_found : (s : Space) (o : Identity) (y : Object) → object_in s.objects o ≡ Some y
    → returns_of s (work.Notice o) ≡ returns_by (held_in s.references y.id) (strong_in s.references y.id) y.told_weak y.told_strong y.ptr y.cookie
unfolding returns_of
returns_found s o y e = ap (returns_of_object s.references) e

module _ (o : Identity) (st : Hearing) (s : Space) (before : Before s) (live : Live s) (h : HeardBefore o st s) (seat : ℕ) (ws : List Work) where
  -- the references after the reading
  abbrev pub references_now : List Reference
  references_now = s.references ++ handshakes s 0 ws

  abbrev pub Reads : Type 0
  Reads = (now : Hearing) × (hears_all st (heard_in s o ws) ≡ Some now) × Tracks (held_in (read_by s seat ws).references o ≡ false) o now (read_by s seat ws) × ((suc s.steps ≤ o.place) → now ≡ unheard)

  -- no Notice of the object was taken
  reads_silent : Silent s o ws → Reads
  unfolding read_by
  reads_silent none = (st, ap (hears_all st) (silent_heard s o ws none), tracks, λ le. h.fresh (omega arith))
    where
      unchanged : Same o s.references references_now
      unchanged = search (arith, shakes, tally_append, silent_shaken, in_left)

      tracks : Tracks (held_in references_now o ≡ false) o st (read_by s seat ws)
      tracks x l e live =
          let z = in_changed (λ (x : Object). is_told_by ws x.id) (told_of s.references) x s.objects l in
          let id : z.0.id ≡ o = sym (told_id s.references (is_told_by ws z.0.id) z.0) ∙ sym (ap (λ (y : Object). y.id) z.2) ∙ e in
          let untold : is_told_by ws z.0.id ≡ false = ap (is_told_by ws) id ∙ silent_untold s o ws none in
          let is : x ≡ z.0 = z.2 ∙ ap (λ c. cond c (told_of s.references z.0) z.0) untold in
          subst (λ (y : Object). Tells (held_in references_now o ≡ false) references_now o y st) (sym is)
          (tells_same ⊥ (held_in references_now o ≡ false) o s.references references_now z.0 st unchanged (λ n. absurd n)
          (h.tracks z.0 z.1 id (subst (λ (y : Object). lives_in s.processes y.owner ≡ true) is live)))

  -- one Notice of the object was taken
  module _ (once : Once ws) (w : Work) (taken : In w ws) (notice : notice_of w.kind ≡ Some o) (y : Object) (here : In y s.objects) (id : y.id ≡ o) (found : object_in s.objects o ≡ Some y) where
    returns : List Return
    returns = returns_by (held_in s.references y.id) (strong_in s.references y.id) y.told_weak y.told_strong y.ptr y.cookie

    heard_is : heard_in s o ws ≡ filter_map event_of returns
    unfolding returns
    heard_is = once_heard s o ws once w taken notice ∙ ap (filter_map event_of) (returns_found s o y found)

    shaken_is : (b : Bool) → shaken references_now o b ≡ shaken s.references o b + tally (is_strength b) (flat_map shakes returns)
    unfolding returns
    shaken_is b = search (arith, tally_append, once_shaken, taken, shakes, returns_found)

    -- each object of this identity is the one that was told
    told_is : (x : Object) → In x (changed (λ x. is_told_by ws x.id) (told_of s.references) s.objects) → x.id ≡ o → x ≡ told_of s.references y
    told_is x l e = search (arith, in_changed, told_id, one_object, speaks_told, taken)

    reads_tells : Tells ⊥ s.references o y st → Reads
    unfolding read_by returns
    reads_tells (inl m) =
        let r = m.manager in
        let held : held_in s.references y.id ≡ true = held_of s.references y.id r.0 r.1 (r.2 ∙ sym id) in
        let strong : strong_in s.references y.id ≡ true = strong_of s.references y.id r.0 r.1 (r.2 ∙ sym id) r.4 in
        let none : returns ≡ [] = rw (held, strong, m.weak, m.strong) refl in (
          st,
          ap (hears_all st) (heard_is ∙ ap (filter_map event_of) none),
          λ x l e live. subst (λ (z : Object). Tells (held_in references_now o ≡ false) references_now o z st) (sym (told_is x l e)) (inl (record {
            start = m.start;
            weak = held;
            strong = strong;
            manager = (r.0, in_left r.0 s.references (handshakes s 0 ws) r.1, r.2, r.3, r.4);
            shakes = λ b. let k = shaken_is b in let n = m.shakes b in let t = ap (λ rs. tally (is_strength b) (flat_map shakes rs)) none in k ∙ ap (λ i. shaken s.references o b + i) t ∙ omega arith;
          })),
          λ le. m.start,
        )
    reads_tells (inr t) =
        let held = held_in s.references y.id in
        let strong = strong_in s.references y.id in
        let k = turned st y.ptr y.cookie held strong (λ g. strong_held s.references y.id g)
        (λ b g. subst (λ i. cond b (strong_in s.references i) (held_in s.references i) ≡ true) (sym id) (shaken_so s.references o b (t.shakes b ∙ ap number g))) t.over in
        let is : returns ≡ returns_by held strong (is_weak st) (is_strong st) y.ptr y.cookie = ap (λ c. returns_by held strong c y.told_strong y.ptr y.cookie) t.weak ∙ ap (λ c. returns_by held strong (is_weak st) c y.ptr y.cookie) t.strong in
        let count : (b : Bool) → shaken references_now o b ≡ number (waits k.now b) =
        (λ b. shaken_is b ∙ ap (λ n. n + tally (is_strength b) (flat_map shakes returns)) (t.shakes b) ∙ ap (λ rs. number (waits st b) + tally (is_strength b) (flat_map shakes rs)) is ∙ k.shakes b) in (
          k.now,
          ap (hears_all st) (heard_is ∙ ap (filter_map event_of) is) ∙ k.hears,
          λ x l e live. subst (λ (z : Object). Tells (held_in references_now o ≡ false) references_now o z k.now) (sym (told_is x l e)) (inr (record {
            weak = k.held_now;
            strong = k.strong_now;
            shakes = count;
            over = λ e. let was : held_in s.references o ≡ false = subst (λ i. held_in s.references i ≡ false) id (k.over e) in over_now was
                (λ b. let c = count b in let z = ap (λ (v : Hearing). number (waits v b)) e in let m = tally_append (is_shaking o b) s.references (handshakes s 0 ws) in omega arith);
          })),
          λ le. absurd (let lt = before.objects.kept.below y here in let place : y.id.place ≡ o.place = ap (λ (i : Identity). i.place) id in omega arith),
        )
      where
        over_now : held_in s.references o ≡ false → ((b : Bool) → shaken (handshakes s 0 ws) o b ≡ 0) → held_in references_now o ≡ false
        over_now was none = to_false (held_in references_now o) (λ e.
            let r = any_found (λ (q : Reference). same q.object o) references_now e in
            let id_r = same_eq r.0.object o r.2 in
            elim (in_append r.0 s.references (handshakes s 0 ws) r.1) [
              | inl i ↦ (let yes = held_of s.references o r.0 i id_r in absurd (cc))
              | inr i ↦ absurd (unheld (handshakes s 0 ws) o (is_a_handshake s ws 0) none r.0 i id_r)
            ])

  reads_one : (w : Work) → In w ws → In w s.todo → notice_of w.kind ≡ Some o → Once ws → Reads
  reads_one w l due e once =
      let x = live w o due e in
      reads_tells once w l e x.0 x.1 x.2 (find_only s.objects x.0 o (in_order_differ s.objects before.objects.kept.in_order) x.1 x.2) (h.tracks x.0 x.1 x.2 x.3)

  pub reads_all : Once ws → ((w : Work) → In w ws → In w s.todo) → Reads
  reads_all once due = elim (told_or_silent s o ws) [ inl w ↦ reads_one w.0 w.1 (due w.0 w.1) w.2 once | inr none ↦ reads_silent none ]

-- ---- the items of a reading are no two Notices of one object

module _ (s : Space) where
  taken_once : (xs : List Work) (left : ℕ) → Once xs → Once (taken s left xs)
  taken_once [] left h = h
  taken_once (x ∷ xs) left h = at (nat_lt left 68) (ends_read x.kind) (taken_once xs (left - length (bytes_read s x)) h.1)
    where
      at : (b c : Bool) → Once (taken s (left - length (bytes_read s x)) xs) → Once (cond b [] (x ∷ cond c [] (taken s (left - length (bytes_read s x)) xs)))
      at b c k = search (arith, taken_in)

  pub read_list_once : (t : Thread) (left : ℕ) → Once s.todo → Once (taken s left (list_to_read s t))
  unfolding list_to_read
  read_list_once t left h = search (arith, taken_once, pairs_filter)
