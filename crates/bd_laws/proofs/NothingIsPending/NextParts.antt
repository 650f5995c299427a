-- For NothingIsPending: what comes after a quiet space by opening, marking, managing or a refusal is quiet; and no turn
-- ripens by a reading.
use Rattle.bd_laws.proofs.words.Logic.{◌≡◌, ℕ, ◌-◌, ◌==◌, Bool, true, false, cond, ◌&&◌, ◌||◌, List, [], ◌∷◌, ◌++◌, Option, Some, None, inl, inr, refl, ap, sym, subst, ◌∙◌, map, length, arith, list_any, cons_option, option_map, list_any-append}
use Rattle.bd_laws.proofs.words.Types.{Cause, Identity, Process, Object, Reference, Manager, Frame, Buffer, Turn, Work, OfThread}
use Rattle.bd_laws.proofs.words.Space.{same, changed, first_of, Space, lives_in, reference_of, held_in, owe, hands_out, turn_of, turns_of, wants_notice, settle, reply_refused, refusal, taken, hand_out, serve, bytes_read, with_thread, with_process, with_manager, with_spam_detection}
use Rattle.bd_space.specs.declared.space.WorkKind.TheVariants as work
use Rattle.bd_laws.proofs.words.Laws.{In, Differ, KeptBefore, Before, IsSettled, NoneRipe, IsQuiet, On}
use Rattle.bd_laws.proofs.Lists.{in_changed, any_changed, pairs_push}
use Rattle.bd_laws.proofs.Tests.{same_eq, eq_same, not_eq, to_false}
use Rattle.bd_laws.proofs.NothingIsPending.Quiet.{IsCalm, owe_calm, closed_calm, told_calm, settle_quiet, elsewhere_aside, CallsStay, unripe_one}
use Rattle.bd_laws.proofs.Sending.{find_none, none_found}
use Rattle.bd_laws.proofs.FollowingIsLocal.Finding.{any_none, found_still}
use Rattle.bd_laws.proofs.FollowingIsLocal.Sent.{come_elsewhere}
use Rattle.bd_laws.proofs.IsInTurn.Ripening.{turn_parts}
use Rattle.bd_laws.proofs.Machine.Marks.{marked_lives}

pub calm : (s : Space) → IsQuiet s → IsCalm s
calm s h = record { differ = h.differ; followed = h.followed; unripe = h.unripe }

-- ---- refusals

pub refused_quiet : (s : Space) (t : ℕ) (c : Cause) → IsQuiet s → IsQuiet (settle (owe s (OfThread t) (work.Refusal (refusal c))))
refused_quiet s t c h = settle_quiet _ (owe_calm s (OfThread t) (work.Refusal (refusal c)) ((λ o e. cc), (λ n e. cc)) (calm s h))

pub failed_quiet : (s : Space) (t : ℕ) (f : Frame) → IsQuiet s → IsQuiet (settle (reply_refused s t f))
unfolding reply_refused
failed_quiet s t f h = search (arith, settle_quiet, told_calm, closed_calm, owe_calm)

-- ---- other processes and threads

-- who lives is all that is asked of processes, and only of owners
processes_quiet : (s : Space) (qs : List Process) → ((x : Object) → In x s.objects → lives_in qs x.owner ≡ lives_in s.processes x.owner) → IsQuiet s → IsQuiet (record s { processes = qs })
processes_quiet s qs lives h = record {
  differ = h.differ;
  followed = record {
    names = h.followed.names;
    objects = λ x l none. ap (λ b. held_in s.references x.id || (b && (x.told_weak || x.told_strong))) (lives x l) ∙ h.followed.objects x l none;
    deaths = h.followed.deaths;
    notices = λ w o l e none. found_still s.objects o _ _ (λ x i is wants. wishes x i ∙ wants) (h.followed.notices w o l e none);
    tellings = h.followed.tellings;
    made = λ x l none wants. h.followed.made x l none (sym (wishes x l) ∙ wants);
  };
  unripe = h.unripe;
  settled = h.settled;
}
  where
    wishes : (x : Object) → In x s.objects → wants_notice qs s.references x ≡ wants_notice s.processes s.references x
    wishes x l = search arith

pub attached_quiet : (s : Space) (seat p : ℕ) → IsQuiet s → IsQuiet (with_thread s seat p)
unfolding with_thread
attached_quiet s seat p h = record { differ = h.differ; followed = elsewhere_aside _ _ s _ _ _ _ h.followed; unripe = h.unripe; settled = h.settled }

pub opened_quiet : (s : Space) (seat pid euid window : ℕ) → Before s → IsQuiet s → IsQuiet (with_thread (with_process s pid euid window) seat s.steps)
unfolding with_process
opened_quiet s seat pid euid window before h =
    attached_quiet _ seat s.steps (processes_quiet s _ (λ x l. any_none (λ (r : Process). r.made == x.owner) s.processes _ (λ r i. elim i [
      | inl is ↦ subst (λ (r : Process). (r.made == x.owner) ≡ false) is (not_eq s.steps x.owner (λ e. let lt = before.received.owners x l in omega arith))
      | inr none ↦ absurd none
    ])) h)

pub marked_quiet : (s : Space) (p : ℕ) (on : Bool) → IsQuiet s → IsQuiet (with_spam_detection s p on)
unfolding with_spam_detection
marked_quiet s p on = processes_quiet s _ (λ x l. marked_lives p on s.processes x.owner)

-- ---- a new context manager

module _ (s : Space) (p : ℕ) (kept : KeptBefore s) (h : IsQuiet s) where
  abbrev pub manager_id : Identity
  manager_id = record { place = s.steps; index = 0 }

  abbrev pub manager_object : Object
  manager_object = record { id = manager_id; owner = p; ptr = 0; cookie = 0; told_weak = true; told_strong = true }

  abbrev pub manager_reference : Reference
  manager_reference = reference_of s.steps 0 manager_id true Manager

  -- what has an object in the space is of another object
  is_older : (x : Object) → In x s.objects → same manager_id x.id ≡ false
  is_older x l = to_false (same manager_id x.id) (λ e.
      let lt = kept.kept.below x l in
      let place : s.steps ≡ x.id.place = ap (λ (j : Identity). j.place) (same_eq manager_id x.id e) in absurd (omega arith))

  pub managed_quiet : IsQuiet (with_manager s p)
  unfolding with_manager
  managed_quiet = record {
    differ = pairs_push Differ manager_object s.objects h.differ (λ x l e. let no = is_older x l in let yes = eq_same manager_id x.id (sym e) in absurd (cc));
    followed = come_elsewhere (λ o. false) s h.followed kept (manager_object ∷ []) (manager_reference ∷ []) (λ x l. search arith)
        (λ x l none. search (arith, list_any-append, is_older)) (λ x l none. search (arith, list_any-append, eq_same)) _;
    unripe = h.unripe;
    settled = h.settled;
  }

-- a one-way call's turn is on its object
pub on_of : (c : Buffer) (t : Turn) → turn_of c ≡ Some t → On t.target c
on_of c t e = let k = turn_parts c t e in (k.3, k.4)

-- ---- reading

-- what is taken hands that one over
module _ (s : Space) where
  pub taken_handed : (xs : List Work) (left : ℕ) (w : Work) (n : ℕ) → In w (taken s left xs) → hands_out w.kind ≡ Some n
      → first_of (map (λ (w : Work). hands_out w.kind) (taken s left xs)) ≡ Some n
  taken_handed [] left w n l e = absurd l
  taken_handed (x ∷ xs) left w n l e = search (arith, taken_handed xs (left - length (bytes_read s x)) w n)

-- Serving frames leaves none abandoned where none was.
pub served_settled : (p : Frame → Bool) (seat : ℕ) (fs : List Frame) → IsSettled fs → IsSettled (changed p (serve seat) fs)
served_settled p seat fs h = search (arith, find_none, in_changed, none_found, any_changed)

module _ (todo more : List Work) where
  -- The two lists of one-way calls are on the same objects.
  abbrev pub SameTargets : List Turn → List Turn → Type 0
  SameTargets older less = (i : Identity) → list_any (λ (u : Turn). same u.target i) less ≡ list_any (λ (u : Turn). same u.target i) older

  abbrev pub handed_turn : Turn → Turn
  handed_turn t = record t { handed = true }

  same_targets_push : (older less : List Turn) (t u : Turn) → u.target ≡ t.target → SameTargets older less → SameTargets (older ++ t ∷ []) (less ++ u ∷ [])
  same_targets_push older less t u e h i = search (arith, list_any-append)

  module _ (p : Buffer → Bool) where
    pub unripe_handed : (bs : List Buffer) (older less : List Turn) → SameTargets older less → NoneRipe todo older (turns_of bs)
        → ((c : Buffer) → In c bs → (t : Turn) → turn_of c ≡ Some t → p c ≡ false → CallsStay todo more t) → NoneRipe more less (turns_of (changed p hand_out bs))
    unripe_handed [] older less e h k = tt
    unripe_handed (c ∷ cs) older less e h k =
        subst (λ g. NoneRipe more less (cons_option g (turns_of (changed p hand_out cs)))) (sym (search arith))
        (at (p c) refl (turn_of c) refl h (λ o l f i. unripe_handed cs o l f i (λ d j. k d (inr j))))
      where
        at : (b : Bool) → p c ≡ b → (f : Option Turn) → turn_of c ≡ f → NoneRipe todo older (cons_option f (turns_of cs))
            → ((o l : List Turn) → SameTargets o l → NoneRipe todo o (turns_of cs) → NoneRipe more l (turns_of (changed p hand_out cs)))
            → NoneRipe more less (cons_option (option_map (λ (t : Turn). cond b (handed_turn t) t) f) (turns_of (changed p hand_out cs)))
        at b i None f h rest = rest older less e h
        at true i (Some t) f h rest = search (arith, same_targets_push)
        at false i (Some t) f h rest =
            (unripe_one todo more older less t (e t.target) (k c (inl refl) t f i) h.0, rest (older ++ t ∷ []) (less ++ t ∷ []) (same_targets_push older less t t refl e) h.1)
