-- For the engine, by FollowingIsLocal: after BC_CLEAR_DEATH_NOTIFICATION and BC_DEAD_BINDER_DONE nothing follows.
use Rattle.bd_laws.proofs.words.Logic.{arith, ◌≡◌, ℕ, ◌==◌, Bool, true, false, not, ◌||◌, Some, refl, ap, ◌∙◌, eqb-true}
use Rattle.bd_laws.proofs.words.Types.{Work, DeathNotification, Queued, OfThread}
use Rattle.bd_laws.proofs.words.Space.{changed, Space, is_name_of, owe, is_notification, without_death, with_phase, mark_cleared, death_ended, cleared, death_done, told_death, completed, no_name}
use Rattle.bd_space.specs.declared.space.WorkKind.TheVariants as work
use Rattle.bd_laws.proofs.words.Laws.{In, IsQuiet, IsFollowed, IsTidy}
use Rattle.bd_laws.proofs.Lists.{in_filter, filter_in, in_changed, any_changed, any_found, any_in}
use Rattle.bd_laws.proofs.Tests.{not_false}
use Rattle.bd_laws.proofs.Freeing.{owe_elsewhere, owed_unripe}
use Rattle.bd_laws.proofs.Others.{nothing_local, no_object, deaths_followed}
use Rattle.bd_laws.proofs.IsQueued.Queueing.{is_silent}
use Rattle.bd_laws.proofs.IsQueued.QueuedDeaths.{found_told}

-- a notification of which no item tells goes
without_followed : (s : Space) (x : DeathNotification) → IsTidy s → In x s.deaths → (x.phase ≡ Queued → ⊥) → IsFollowed (without_death s x.made)
unfolding without_death
without_followed s x tidy l never =
    let h = tidy.quiet.followed in
    let keep = λ (y : DeathNotification). not (is_notification x.made y) in
    deaths_followed s _ tidy.quiet (λ d i. h.deaths d (in_filter keep d s.deaths i).0 refl)
    (λ w n i e. let y = any_found (λ (y : DeathNotification). y.made == n) s.deaths (h.tellings w n i e) in
    any_in (λ (y : DeathNotification). y.made == n) y.0 _ (filter_in keep y.0 s.deaths y.1 (not_false _ (other w n i e y.0 y.2 (is_notification x.made y.0) refl))) y.2)
  where
    other : (w : Work) (n : ℕ) → In w s.todo → w.kind ≡ work.Death n → (y : DeathNotification) → (y.made == n) ≡ true → (b : Bool) → is_notification x.made y ≡ b → is_notification x.made y ≡ false
    other w n i e y m b f = search (arith, eqb-true, is_silent)

ended_local : (s : Space) (t : ℕ) (x : DeathNotification) → IsTidy s → In x s.deaths → (x.phase ≡ Queued → ⊥) → completed (death_ended s t x) ≡ death_ended s t x
unfolding death_ended owe without_death
ended_local s t x tidy l never =
    let e = owe_elsewhere no_name no_object (without_death s x.made) (OfThread t) (work.Cleared x.cookie) ((λ o e. cc), (λ n e. cc)) (without_followed s x tidy l never) in
    nothing_local (death_ended s t x) e (owed_unripe (without_death s x.made) (OfThread t) (work.Cleared x.cookie) tidy.quiet.unripe) tidy.quiet.settled

-- a change of one notification that keeps its place and lets it stand
changed_followed : (s : Space) (made : ℕ) (f : DeathNotification → DeathNotification) → ((x : DeathNotification) → (f x).made ≡ x.made)
    → ((x : DeathNotification) → (x.cleared || is_name_of s.names x.process x.object) ≡ true → ((f x).cleared || is_name_of s.names (f x).process (f x).object) ≡ true)
    → IsQuiet s → IsFollowed (record s { deaths = changed (is_notification made) f s.deaths })
changed_followed s made f same stands quiet =
    let h = quiet.followed in
    deaths_followed s _ quiet (λ d i. search (arith, in_changed))
    (λ w n i e. any_changed (is_notification made) f (λ (x : DeathNotification). x.made == n) (λ x. ap (λ m. m == n) (same x)) s.deaths ∙ h.tellings w n i e)

pub cleared_local : (s : Space) (t : ℕ) (x : DeathNotification) → IsTidy s → In x s.deaths → completed (cleared s t x) ≡ cleared s t x
unfolding cleared mark_cleared
cleared_local s t x tidy l = search (arith, nothing_local, changed_followed, ended_local)

pub done_local : (s : Space) (t p cookie : ℕ) (x : DeathNotification) → IsTidy s → told_death s p cookie ≡ Some x → completed (death_done s t x) ≡ death_done s t x
unfolding death_done with_phase
done_local s t p cookie x tidy e = search (arith, found_told, ended_local, nothing_local, changed_followed)
