-- For SpacesAreTidy: a notification has one Death item at most, which stands only while the phase is Queued: what keeps it
-- so, and that the commands on death notifications do.
use Rattle.bd_laws.proofs.words.Logic.{arith, ◌≡◌, ℕ, suc, ◌==◌, true, ◌&&◌, Some, inl, inr, refl, sym, ap, ◌∙◌, eqb-true, ◌<◌, Bool, cond, List, ◌++◌, [], ◌∷◌}
use Rattle.bd_laws.proofs.words.Types.{Identity, DeathNotification, Phase, Queued, Armed, Done, OfThread, OfProcess, Work, TodoList}
use Rattle.bd_laws.proofs.words.Space.{is_some_and, object_in, lives_in, Space, owe, is_notification, requested, with_death, without_death, with_phase, mark_cleared, death_ended, cleared, death_done, is_out, is_told, told_death, is_told_with, changed, with_work}
use Rattle.bd_space.specs.declared.space.WorkKind.TheVariants as work
use Rattle.bd_laws.proofs.words.Laws.{In, Queues}
use Rattle.bd_laws.proofs.Lists.{in_push, find_in, in_filter, in_changed, pairs_push, pairs_filter, pairs_changed}
use Rattle.bd_laws.proofs.Tests.{both}
use Rattle.bd_laws.proofs.Machine.Deaths.{DeathCommands, either}
use Rattle.bd_laws.proofs.NothingIsPending.PlainItems.{owe_says, Loose}

-- items and notifications go, and items that tell of no death come
pub loose_queues : (n : ℕ) → Loose (Queues n)
loose_queues n = search (arith, in_filter, pairs_filter, in_push, pairs_push)

-- no item tells of this notification
abbrev pub Silent : ℕ → List Work → Type 0
Silent made todo = (w : Work) → In w todo → w.kind ≡ work.Death made → ⊥

pub death_item : (n place made : ℕ) (todo : List Work) (deaths : List DeathNotification) (list : TodoList) → Silent made todo
    → ((x : DeathNotification) → In x deaths → x.made ≡ made → (x.phase ≡ Queued) × (list ≡ OfProcess x.process)) → Queues n todo deaths
    → Queues n (with_work place todo list (work.Death made)) deaths
death_item n place made todo deaths list silent queued h = search (arith, in_push, pairs_push)

-- A new notification, of which no item tells yet, leaves items and notifications together.
pub death_more : (n : ℕ) (todo : List Work) (deaths : List DeathNotification) (y : DeathNotification) → y.made < n → ((x : DeathNotification) → In x deaths → x.made ≡ y.made → ⊥)
    → Silent y.made todo → Queues n todo deaths → Queues n todo (deaths ++ y ∷ [])
death_more n todo deaths y below other silent h = search (arith, in_push, pairs_push)

-- notifications change, but not where they were made nor by whom, and what an item tells of stays queued
module _ (p : DeathNotification → Bool) (f : DeathNotification → DeathNotification) (made : (x : DeathNotification) → (f x).made ≡ x.made)
    (process : (x : DeathNotification) → (f x).process ≡ x.process) where
  pub was_before : (deaths : List DeathNotification) (x : DeathNotification) → In x (changed p f deaths)
      → (y : DeathNotification) × In y deaths × (x ≡ cond (p y) (f y) y) × (x.made ≡ y.made) × (x.process ≡ y.process)
  was_before deaths x l = search (arith, in_changed)

  pub deaths_change : (n : ℕ) (todo : List Work) (deaths : List DeathNotification)
      → ((w : Work) (x : DeathNotification) → In w todo → w.kind ≡ work.Death x.made → In x deaths → p x ≡ true → (f x).phase ≡ Queued) → Queues n todo deaths → Queues n todo (changed p f deaths)
  deaths_change n todo deaths queued h = search (arith, was_before, pairs_changed)

-- ---- the commands on death notifications

abbrev pub Q : ℕ → Space → Type 0
Q n z = Queues n z.todo z.deaths

-- of what is armed, told or done no item tells
pub silent : (n : ℕ) (z : Space) (x : DeathNotification) → Q n z → In x z.deaths → (x.phase ≡ Queued → ⊥) → Silent x.made z.todo
silent n z x h l never w i e = never (h.queued w x.made x i e l refl)

-- before the step at n the new one's place is free
pub record Before (s : Space) : Type 0 where
  pub queues : Q s.steps s
  pub silent : Silent s.steps s.todo

unborn : (s : Space) → Before s → (x : DeathNotification) → In x s.deaths → x.made ≡ s.steps → ⊥
unborn s h x l e = search arith

pub now : (s : Space) → Before s → Q (suc s.steps) s
now s h = record { fresh = λ x l. let lt = h.queues.fresh x l in omega arith; one = h.queues.one; queued = h.queues.queued; once = h.queues.once; sits = h.queues.sits }

with_death_q : (s : Space) (p : ℕ) (o : Identity) (cookie : ℕ) (phase : Phase) → Before s → Q (suc s.steps) (with_death s p o cookie phase)
unfolding with_death
with_death_q s p o cookie phase h = death_more (suc s.steps) s.todo s.deaths _ (omega arith) (unborn s h) h.silent (now s h)

requested_q : (s : Space) (p : ℕ) (o : Identity) (cookie : ℕ) → Before s → Q (suc s.steps) (requested s p o cookie)
unfolding requested with_death owe
requested_q s p o cookie h =
    either (Q (suc s.steps)) (is_some_and (object_in s.objects o) (λ x. lives_in s.processes x.owner)) _ _ (with_death_q s p o cookie Armed h)
    (death_item (suc s.steps) s.steps s.steps s.todo _ (OfProcess p) h.silent (λ x l e. elim (in_push x _ s.deaths l) [
      | inl i ↦ absurd (unborn s h x i e)
      | inr is ↦ (sym (ap (λ (y : DeathNotification). y.phase) is), ap (λ (y : DeathNotification). OfProcess y.process) is)
    ]) (with_death_q s p o cookie Queued h))

ended_q : (n : ℕ) (s : Space) (t : ℕ) (x : DeathNotification) → Q n s → Q n (death_ended s t x)
unfolding death_ended without_death
ended_q n s t x h = owe_says (Queues n) (loose_queues n) _ (OfThread t) (work.Cleared x.cookie) (refl, refl) ((loose_queues n).without _ s.todo s.deaths h)

cleared_q : (n : ℕ) (s : Space) (t : ℕ) (x : DeathNotification) → Q n s → Q n (cleared s t x)
unfolding cleared mark_cleared
cleared_q n s t x h =
    either (Q n) (is_out x.phase) _ _
    (deaths_change (is_notification x.made) (λ y. record y { cleared = true }) (λ y. refl) (λ y. refl) n s.todo s.deaths (λ w y l e i g. h.queued w y.made y l e i refl) h) (ended_q n s t x h)

told_phase : (phase : Phase) → is_told phase ≡ true → phase ≡ Queued → ⊥
told_phase phase e f = search arith

pub found_told : (s : Space) (p cookie : ℕ) (x : DeathNotification) → told_death s p cookie ≡ Some x → In x s.deaths × (x.phase ≡ Queued → ⊥)
unfolding told_death
found_told s p cookie x e =
    let l = find_in (is_told_with p cookie) x s.deaths e in
    (l.0, told_phase x.phase (both (is_told x.phase) _ (both (is_told x.phase && (x.process == p)) (x.cookie == cookie) l.1).0).0)

-- one without an item may change its phase
phase_q : (n : ℕ) (s : Space) (made : ℕ) (phase : Phase) → Silent made s.todo → Q n s → Q n (with_phase s made phase)
unfolding with_phase
phase_q n s made phase none h =
    deaths_change (is_notification made) (λ y. record y { phase = phase }) (λ y. refl) (λ y. refl) n s.todo s.deaths
    (λ w y l e i g. absurd (none w l (e ∙ ap work.Death (eqb-true y.made made g)))) h

done_q : (n : ℕ) (s : Space) (t p cookie : ℕ) (x : DeathNotification) → told_death s p cookie ≡ Some x → Q n s → Q n (death_done s t x)
unfolding death_done
done_q n s t p cookie x e h =
    let k = found_told s p cookie x e in
    either (Q n) x.cleared _ _ (ended_q n s t x h) (phase_q n s x.made Done (silent n s x h k.0 k.1) h)

pub commands_q : (s : Space) → Before s → DeathCommands s (Q (suc s.steps))
commands_q s h = search (arith, now, requested_q, cleared_q, done_q)
