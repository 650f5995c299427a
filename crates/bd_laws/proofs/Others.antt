-- For the engine, by FollowingIsLocal: after the short commands (references asked for, the loop, death notifications) it is
-- enough to look at what they touched.
use Rattle.bd_laws.proofs.words.Logic.{fold, arith, ◌≡◌, ℕ, ◌==◌, Bool, true, false, not, ◌||◌, List, [], ◌∷◌, ◌++◌, None, Ok, inl, inr, refl, sym, subst, ◌∙◌, list_any, eq-eqb}
use Rattle.bd_laws.proofs.words.Types.{Identity, Reference, Asked, Buffer, Work, DeathNotification, Phase, Queued, OfProcess}
use Rattle.bd_laws.proofs.words.Space.{with_name, Space, reference_of, owned_in, assign_numbers, owe, turns_of, turn_of, is_name_of, ask, request_check, requested, with_death, with_looping, without_buffer, is_made_at, is_of_buffer, completed, ObjectTest, follow_of, no_name, at_name, at_object, names_of_references, objects_of_references}
use Rattle.bd_space.specs.declared.space.WorkKind.TheVariants as work
use Rattle.bd_laws.proofs.words.Laws.{In, Elsewhere, IsSettled, NoneRipe, IsQuiet, IsFollowed}
use Rattle.bd_laws.proofs.Lists.{all_push, in_last, any_in}
use Rattle.bd_laws.proofs.Tests.{both, and_both, not_false_true, eq_same, found_ok, unless_ok}
use Rattle.bd_laws.proofs.Sendings.{named_has}
use Rattle.bd_laws.proofs.NothingIsPending.Quiet.{any_more}
use Rattle.bd_laws.proofs.Fewer.{SameSaid, said_by, elsewhere_said, filtered_said, completed_local}
use Rattle.bd_laws.proofs.Freeing.{references_of_buffer, owed_unripe, owed_elsewhere}
use Rattle.bd_laws.proofs.FollowingIsLocal.Sent.{with_names_named, name_stays, any_none}
use Rattle.bd_laws.proofs.Next.{turns_filtered}
use Rattle.bd_laws.proofs.Pings.{follow_none}

abbrev pub no_object : ObjectTest
no_object o = false

-- A change that touches no name and no object has nothing that follows it.
pub nothing_local : (z : Space) → IsFollowed z → NoneRipe z.todo [] (turns_of z.buffers) → IsSettled z.frames → completed z ≡ z
nothing_local z h unripe settled = completed_local no_name no_object z h unripe settled ∙ follow_none no_object (λ o. refl) z

-- ---- BC_ENTER_LOOPER and BC_EXIT_LOOPER

pub looping_local : (s : Space) (seat : ℕ) (looping : Bool) → IsQuiet s → completed (with_looping s seat looping) ≡ with_looping s seat looping
unfolding with_looping
looping_local s seat looping h = search (arith, nothing_local)

-- ---- BC_INCREFS and BC_ACQUIRE

module _ (s : Space) (p : ℕ) (o : Identity) (strong : Bool) (h : IsQuiet s) where
  abbrev asked : Reference
  asked = reference_of s.steps 0 o strong (Asked p)

  -- A reference that p asks for touches p's name for the object, and the object, alone.
  asked_said : SameSaid (at_name p o) (at_object o) s.references (s.references ++ asked ∷ [])
  asked_said = search (arith, said_by, any_none, and_both)

  ask_elsewhere : Elsewhere no_name (at_object o) (ask s p o strong)
  unfolding ask assign_numbers
  ask_elsewhere =
      let e = elsewhere_said (at_name p o) (at_object o) s (s.references ++ asked ∷ []) h.followed asked_said in record {
        names = λ m l none. elim (with_names_named s.manager s.objects (s.references ++ asked ∷ []) p (o ∷ []) s.names m l) [
          | inl i ↦ (let t = both (not (owned_in s.objects m.process m.object)) _ (h.followed.names m i refl) in and_both _ _ t.0 (any_more _ s.references asked t.1))
          | inr e ↦ e
        ];
        objects = e.objects;
        deaths = λ d l none. stands d d.cleared (h.followed.deaths d l refl);
        notices = e.notices;
        tellings = e.tellings;
        made = e.made;
      }
    where
      stands : (d : DeathNotification) (c : Bool) → (c || is_name_of s.names d.process d.object) ≡ true
          → (c || is_name_of (fold (with_name s.manager s.objects (s.references ++ asked ∷ []) p) s.names (o ∷ [])) d.process d.object) ≡ true
      stands d c e = search (arith, name_stays)

  pub ask_local : completed (ask s p o strong) ≡ follow_of no_name (at_object o) (ask s p o strong)
  unfolding ask assign_numbers
  ask_local = completed_local no_name (at_object o) (ask s p o strong) ask_elsewhere h.unripe h.settled

-- ---- BC_REQUEST_DEATH_NOTIFICATION: nothing follows

-- other notifications, if each has its name and each Death item its notification
pub deaths_followed : (s : Space) (ds : List DeathNotification) → IsQuiet s → ((d : DeathNotification) → In d ds → (d.cleared || is_name_of s.names d.process d.object) ≡ true)
    → ((w : Work) (n : ℕ) → In w s.todo → w.kind ≡ work.Death n → list_any (λ (x : DeathNotification). x.made == n) ds ≡ true) → IsFollowed (record s { deaths = ds })
deaths_followed s ds quiet stands told = search (arith, stands)

module _ (s : Space) (p n cookie : ℕ) (o : Identity) (h : IsQuiet s) (check : request_check s p n ≡ Ok o) where
  has_name : is_name_of s.names p o ≡ true
  unfolding request_check
  has_name = search (arith, unless_ok, named_has, found_ok, any_in, and_both, eq-eqb, eq_same)

  death_followed : (phase : Phase) → IsFollowed (with_death s p o cookie phase)
  unfolding with_death
  death_followed phase =
      deaths_followed s _ h
      (all_push s.deaths _ (λ (x : DeathNotification). (x.cleared || is_name_of s.names x.process x.object) ≡ true) (λ d i. h.followed.deaths d i refl) has_name)
      (λ w m l e. any_more (λ (x : DeathNotification). x.made == m) s.deaths _ (h.followed.tellings w m l e))

  told_followed : IsFollowed (owe (with_death s p o cookie Queued) (OfProcess p) (work.Death s.steps))
  unfolding with_death owe
  told_followed =
      owed_elsewhere no_name no_object (with_death s p o cookie Queued) (OfProcess p) (work.Death s.steps) (λ i e. cc)
      (λ n e. let made : s.steps ≡ n = cc in any_in (λ (x : DeathNotification). x.made == n) _ _ (in_last _ s.deaths) (eq-eqb s.steps n made)) (death_followed Queued)

  told_unripe : NoneRipe (owe (with_death s p o cookie Queued) (OfProcess p) (work.Death s.steps)).todo [] (turns_of s.buffers)
  unfolding with_death owe
  told_unripe = search (arith, owed_unripe)

  pub requested_local : completed (requested s p o cookie) ≡ requested s p o cookie
  unfolding requested with_death owe
  requested_local = search (arith, nothing_local, death_followed, told_followed, told_unripe)

-- ---- BC_FREE_BUFFER of what is no one-way call's: nothing ripens

pub freed_two_way : (s : Space) (made : ℕ) → IsQuiet s → ((c : Buffer) → In c s.buffers → is_made_at made c ≡ true → turn_of c ≡ None)
    → completed (without_buffer s made)
    ≡ follow_of (names_of_references (references_of_buffer s made)) (objects_of_references (references_of_buffer s made)) (without_buffer s made)
unfolding without_buffer
freed_two_way s made h k =
    let gone = λ (r : Reference). is_of_buffer made r.holder in
    let e = elsewhere_said _ _ s _ h.followed (filtered_said gone s.references) in
    completed_local _ _ (without_buffer s made)
    (record { names = e.names; objects = e.objects; deaths = e.deaths; notices = e.notices; tellings = e.tellings; made = e.made })
    (subst (λ ts. NoneRipe s.todo [] ts) (sym (turns_filtered (λ (b : Buffer). not (is_made_at made b)) s.buffers (λ c l f. k c l (not_false_true (is_made_at made c) f)))) h.unripe) h.settled
