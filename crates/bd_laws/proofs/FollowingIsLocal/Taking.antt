-- For FollowingIsLocal, with lemmas for NothingIsPending: of a reading, only objects whose Notices it takes need a look.
use Rattle.bd_laws.proofs.words.Logic.{arith, ◌≡◌, ℕ, ◌==◌, true, false, not, ◌&&◌, ◌||◌, List, ◌++◌, refl, ap, sym, subst, ◌∙◌, list_any, list_any-append}
use Rattle.bd_laws.proofs.words.Types.{Identity, Thread, Object, Reference, DeathNotification, Work, WorkKind, Told}
use Rattle.bd_laws.proofs.words.Space.{changed, told_of, same, is_some_and, Space, lives_in, object_in, held_in, strong_in, is_item, is_notice, notice_of, list_to_read, without_taken, wants_notice, follow, read_by, taken, handshakes, is_told_by, is_told_of_death, ObjectTest, no_name, follow_of}
use Rattle.bd_laws.proofs.words.Laws.{In, Elsewhere, IsQuiet, Distinct}
use Rattle.bd_laws.proofs.Lists.{in_filter, in_changed, any_changed, find_changed, any_found, any_in, find_in}
use Rattle.bd_laws.proofs.Tests.{and_both, same_eq, eq_same, notice_kind, to_false}
use Rattle.bd_laws.proofs.IsInTurn.Ripening.{read_in}
use Rattle.bd_laws.proofs.Follow.{follow_local}
use Rattle.bd_laws.proofs.Fewer.{any_filtered}
use Rattle.bd_laws.proofs.FollowingIsLocal.Finding.{any_none}
use Rattle.bd_laws.proofs.FollowingIsLocal.Handshakes.{shaken_by, shaken_object}

-- ---- handshakes are with what was told

handshake_told : (s : Space) (ws : List Work) (k : ℕ) (r : Reference) → In r (handshakes s k ws) → is_told_by ws r.object ≡ true
handshake_told s ws k r l =
    let x = shaken_by s ws k r l in
    any_in (λ (w : Work). is_some_and (notice_of w.kind) (same r.object)) x.item ws x.here
    (ap (λ f. is_some_and f (same r.object)) x.tells ∙ eq_same r.object x.object (shaken_object s ws r x))

module _ (s : Space) (t : Thread) (seat left : ℕ) (h : IsQuiet s) (distinct : Distinct s.todo) where
  abbrev ws : List Work
  ws = taken s left (list_to_read s t)

  abbrev told : ObjectTest
  told = is_told_by ws

  abbrev more : List Reference
  more = s.references ++ handshakes s 0 ws

  untold : (o : Identity) → told o ≡ false → (r : Reference) → In r (handshakes s 0 ws) → same r.object o ≡ false
  untold o none r l = search (arith, same_eq, handshake_told)

  -- references say of it what they said
  same_said : (o : Identity) → told o ≡ false → (held_in more o ≡ held_in s.references o) × (strong_in more o ≡ strong_in s.references o)
  same_said o none = search (arith, any_none, untold)

  wants_same : (x : Object) → told x.id ≡ false → wants_notice s.processes more x ≡ wants_notice s.processes s.references x
  wants_same x none = search (arith, same_said)

  -- an object that wasn't told is as it was
  was : (x : Object) → In x (changed (λ x. is_told_by ws x.id) (told_of s.references) s.objects) → told x.id ≡ false → In x s.objects
  was x l none = search (arith, in_changed)

  read_due : (o : Identity) → told o ≡ false → is_some_and (object_in s.objects o) (wants_notice s.processes s.references) ≡ true
      → is_some_and (object_in (changed (λ x. is_told_by ws x.id) (told_of s.references) s.objects) o) (wants_notice s.processes more) ≡ true
  read_due o none due = search (arith, find_changed, find_in, wants_same)

  -- a Notice of an object that wasn't told isn't taken
  notice_stays : (o : Identity) → told o ≡ false → list_any (λ (w : Work). is_notice o w.kind) s.todo ≡ true → list_any (λ (w : Work). is_notice o w.kind) (without_taken ws s.todo) ≡ true
  notice_stays o none has =
      any_filtered (λ (w : Work). is_notice o w.kind) (λ (w : Work). not (list_any (λ (d : Work). is_item w d) ws)) s.todo (λ v l gone. to_false _ (λ e.
      let d = any_found (λ (d : Work). is_item v d) ws (search arith) in
      let is = distinct v d.0 l (read_in s t left d.0 d.1) d.2 in
      let it_is = any_in (λ (w : Work). is_some_and (notice_of w.kind) (same o)) d.0 ws d.1 (subst (λ (w : Work). is_some_and (notice_of w.kind) (same o) ≡ true) is (tells v.kind e)) in cc)) ∙ has
    where
      tells : (kind : WorkKind) → is_notice o kind ≡ true → is_some_and (notice_of kind) (same o) ≡ true
      tells kind e = search (arith, notice_kind, eq_same)

  read_elsewhere : Elsewhere no_name told (read_by s seat ws)
  unfolding read_by
  read_elsewhere = record {
    names = λ m l none. search (arith, any_changed, and_both, list_any-append);
    objects = λ x l none. ap (λ c. c || (lives_in s.processes x.owner && (x.told_weak || x.told_strong))) (same_said x.id none).0 ∙ h.followed.objects x (was x l none) refl;
    deaths = λ d l none. search (arith, in_changed);
    notices = λ w o l e none. read_due o none (h.followed.notices w o (in_filter (λ (w : Work). not (list_any (λ (d : Work). is_item w d) ws)) w s.todo l).0 e refl);
    tellings = λ w n l e.
        any_changed (is_told_of_death ws) (λ (x : DeathNotification). record x { phase = Told }) (λ (x : DeathNotification). x.made == n) (λ x. refl) s.deaths
        ∙ h.followed.tellings w n (in_filter (λ (w : Work). not (list_any (λ (d : Work). is_item w d) ws)) w s.todo l).0 e;
    made = λ x l none wants. notice_stays x.id none (h.followed.made x (was x l none) refl (sym (wants_same x none) ∙ wants));
  }

  pub read_local : follow (read_by s seat ws) ≡ follow_of no_name told (read_by s seat ws)
  read_local = follow_local no_name told (read_by s seat ws) read_elsewhere
