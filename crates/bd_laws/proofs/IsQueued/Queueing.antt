-- For SpacesAreTidy: each step keeps it that a Death item's notification is queued.
use Rattle.bd_laws.proofs.words.Logic.{◌≡◌, ℕ, suc, ◌==◌, Bool, true, false, cond, ◌&&◌, List, [], ◌∷◌, inl, inr, refl, ap, sym, subst, ◌∙◌, arith, fold, eqb-true, eq-eqb}
use Rattle.bd_laws.proofs.words.Types.{Step, Entry, Thread, Work, DeathNotification, Queued, Told, OfProcess}
use Rattle.bd_laws.proofs.words.Space.{changed, Space, opening, owned_in, owe, list_to_read, is_notification, with_phase, read_by, taken, is_told_of_death, without_taken, tell_death, tell_deaths, is_armed, change, counted, next}
use Rattle.bd_space.specs.declared.space.WorkKind.TheVariants as work
use Rattle.bd_laws.proofs.words.Laws.{In, Pairs, IsQuiet, OtherDeath, OtherNotification, Queues, IsQueued}
use Rattle.bd_laws.proofs.Lists.{in_push, in_filter, any_found, any_in, pairs_either}
use Rattle.bd_laws.proofs.Tests.{both}
use Rattle.bd_laws.proofs.IsInTurn.Ripening.{read_in}
use Rattle.bd_laws.proofs.Machine.EveryStep.{Keeps, every_step}
use Rattle.bd_laws.proofs.Machine.Steps.{next_steps}
use Rattle.bd_laws.proofs.NothingIsPending.PlainItems.{keeps_says}
use Rattle.bd_laws.proofs.OnPaths.PathWords.{same_item}
use Rattle.bd_laws.proofs.IsQueued.QueuedDeaths.{loose_queues, Silent, death_item, was_before, deaths_change, Q, silent, Before, now, commands_q}

-- ---- reading

one_death : (todo : List Work) → Pairs OtherDeath todo → (v w : Work) (n : ℕ) → In v todo → In w todo → v.kind ≡ work.Death n → w.kind ≡ work.Death n → v ≡ w
one_death todo h v w n l m e f = search (arith, pairs_either)

read_q : (n : ℕ) (s : Space) (t : Thread) (seat left : ℕ) → Q n s → Q n (read_by s seat (taken s left (list_to_read s t)))
unfolding read_by
read_q n s t seat left h =
    let ws = taken s left (list_to_read s t) in
    deaths_change (is_told_of_death ws) (λ (x : DeathNotification). record x { phase = Told }) (λ x. refl) (λ x. refl) n (without_taken ws s.todo) s.deaths
    (λ w x l e i told. absurd (search (arith, any_found, eqb-true, read_in, in_filter, one_death, any_in, same_item, left))) ((loose_queues n).fewer _ s.todo s.deaths h)

-- ---- exits

-- the armed ones still ahead have no item, and none of another process was made where they were
abbrev Ahead : List DeathNotification → Space → Type 0
Ahead xs z = (x : DeathNotification) → In x xs → is_armed x.phase ≡ true → Silent x.made z.todo × ((y : DeathNotification) → In y z.deaths → y.made ≡ x.made → y.process ≡ x.process)

was_one : (z : Space) (made : ℕ) (x : DeathNotification) → In x (changed (is_notification made) (λ (y : DeathNotification). record y { phase = Queued }) z.deaths)
    → (y : DeathNotification) × In y z.deaths × (x ≡ cond (is_notification made y) (record y { phase = Queued }) y) × (x.made ≡ y.made) × (x.process ≡ y.process)
was_one z made = search (arith, was_before)

-- p's Death item comes, and its notification is queued
queued_item : (n : ℕ) (z : Space) (p made : ℕ) → Silent made z.todo → ((y : DeathNotification) → In y z.deaths → y.made ≡ made → y.process ≡ p) → Q n z
    → Q n (owe (with_phase z made Queued) (OfProcess p) (work.Death made))
unfolding owe with_phase
queued_item n z p made quiet by h =
    death_item n z.steps made z.todo _ (OfProcess p) quiet (λ x l e.
    let y = was_one z made x l in
    let it_is : y.0.made ≡ made = sym y.3 ∙ e in (
      ap (λ (u : DeathNotification). u.phase) (y.2 ∙ ap (λ c. let u : DeathNotification = cond c (record y.0 { phase = Queued }) y.0 in u) (eq-eqb y.0.made made it_is)),
      sym (ap (λ q. OfProcess q) (y.4 ∙ by y.0 y.1 it_is)),
    ))
    (deaths_change (is_notification made) (λ y. record y { phase = Queued }) (λ y. refl) (λ y. refl) n z.todo z.deaths (λ w y l e i g. refl) h)

tells_q : (n p : ℕ) (xs : List DeathNotification) → Pairs OtherNotification xs → (z : Space) → Ahead xs z → Q n z → Q n (fold (tell_death p) z xs)
unfolding owe with_phase
tells_q n p [] one z ahead h = h
tells_q n p (x ∷ xs) one z ahead h = let k = at (is_armed x.phase && owned_in z.objects p x.object) refl in tells_q n p xs one.1 (tell_death p z x) k.0 k.1
  where
    at : (b : Bool) → (is_armed x.phase && owned_in z.objects p x.object) ≡ b
        → (let y : Space = cond b (owe (with_phase z x.made Queued) (OfProcess x.process) (work.Death x.made)) z in Ahead xs y × Q n y)
    at false e = ((λ y l a. ahead y (inr l) a), h)
    at true e = (
      λ y l a. let k = ahead y (inr l) a in (
        λ w m f. elim (in_push w _ z.todo m) [
          | inl i ↦ k.0 w i f
          | inr is ↦ (let kinds : work.Death x.made ≡ work.Death y.made = ap (λ (v : Work). v.kind) is ∙ f in let same_made : x.made ≡ y.made = cc in one.0 y l same_made)
        ],
        λ u m f. let v = was_one z x.made u m in v.4 ∙ k.1 v.0 v.1 (sym v.3 ∙ f),
      ),
      let k = ahead x (inl refl) (both (is_armed x.phase) _ e).0 in queued_item n z x.process x.made k.0 k.1 h,
    )

ends_q : (n : ℕ) (z : Space) (p : ℕ) → Q n z → Q n (tell_deaths z p)
unfolding tell_deaths
ends_q n z p h =
    tells_q n p z.deaths h.one z (λ x l a. (silent n z x h l (λ e. search arith), λ y m e. search (arith, pairs_either OtherNotification z.deaths h.one x y l m))) h

-- ---- every step

step_q : (s : Space) (seat : ℕ) (x : Step) → Before s → Keeps s seat x (Q (suc s.steps)) (Q (suc s.steps))
step_q s seat x h =
    let n = suc s.steps in
    keeps_says (Queues n) (loose_queues n) s seat x (now s h) (commands_q s h) (λ a left. read_q n s a.thread a.thread.seat left (now s h)) (ends_q n)

pub next_queued : (s : Space) (e : Entry) → IsQueued s → IsQuiet s → IsQueued (next s e)
unfolding counted IsQueued
next_queued s e h quiet =
    let before : Before s = record {
      queues = h;
      silent = λ w l k. (
          let x = any_found (λ (x : DeathNotification). x.made == s.steps) s.deaths (quiet.followed.tellings w s.steps l k) in
          let is = eqb-true x.0.made s.steps x.2 in
          let lt = h.fresh x.0 x.1 in omega arith);
    } in
    subst (λ n. Queues n (change s e.seat e.step).space.todo (change s e.seat e.step).space.deaths) (sym (next_steps s e))
    (every_step s e.seat e.step (Q (suc s.steps)) (Q (suc s.steps)) (step_q s e.seat e.step before))

pub opening_queued : IsQueued opening
unfolding IsQueued
opening_queued = record { fresh = λ x l. absurd l; one = tt; queued = λ w m x l e i f. absurd l; once = tt; sits = λ w m x l e i f. absurd l }

-- an item that tells of a notification finds it queued
pub is_silent : (s : Space) (x : DeathNotification) → IsQueued s → In x s.deaths → (x.phase ≡ Queued → ⊥) → (w : Work) → In w s.todo → w.kind ≡ work.Death x.made → ⊥
unfolding IsQueued
is_silent s x h l never w i e = silent s.steps s x h l never w i e

-- A Death item's list is that of the process whose notification it tells of.
pub sits_on : (s : Space) → IsQueued s → (w : Work) (x : DeathNotification) → In w s.todo → In x s.deaths → w.kind ≡ work.Death x.made → w.list ≡ OfProcess x.process
unfolding IsQueued
sits_on s h w x l i e = h.sits w x.made x l e i refl
