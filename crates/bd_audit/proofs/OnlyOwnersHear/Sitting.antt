-- For OnlyOwnersHear: a Notice stands where threads of the process that owns its object read it.
use Rattle.bd_laws.proofs.words.Logic.{◌++◌, ◌≡◌, ℕ, ◌==◌, Bool, true, false, cond, not, List, Some, inl, inr, refl, ap, sym, ◌∙◌, filter, find, arith, option_map, eqb-true, eq-eqb}
use Rattle.bd_laws.proofs.words.Types.{Identity, Step, Entry, Thread, Object, Work, TodoList, OfThread, OfProcess}
use Rattle.bd_laws.proofs.words.Space.{closed, Space, opening, thread_in, objects_go, stays_in, names_go, assign_numbers, is_on, same_list, ripen, work_goes, deaths_go, notify, follow, without_buffer, ask, drop_asked, acknowledge, with_looping, read_by, thread_goes, threads_go, without_process, counted, with_thread, with_process, with_manager, after, next, with_spam_detection}
use Rattle.bd_space.specs.declared.space.WorkKind.TheVariants as work
use Rattle.bd_laws.proofs.words.Laws.{Pairs, Differ, KeptBefore, IsTidy}
use Rattle.bd_laws.proofs.Earlier.{in_order_differ}
use Rattle.bd_laws.proofs.Lists.{in_push, in_filter, in_changed, pairs_filter, find_changed}
use Rattle.bd_laws.proofs.Machine.EveryStep.{Keeps, every_step, every_list}
use Rattle.bd_laws.proofs.Always.{step_tidy, opening_tidy}
use Rattle.bd_laws.proofs.Objects.{kept_step, told_id}
use Rattle.bd_laws.proofs.KeptBefore.ObjectsKept.{IsKept, IsKeptWhole}
use Rattle.bd_laws.proofs.NothingIsPending.Noticing.{Live, quiet_live}
use Rattle.bd_laws.proofs.Machine.Deaths.{on_kept, on_told, on_commands, commands_both}
use Rattle.bd_laws.proofs.Machine.Adding.{notify_keeps, ripen_keeps}
use Rattle.bd_laws.proofs.Follow.{find_kept}
use Rattle.std.proofs.lemmas.List.Folds.{find-append}
use Rattle.bd_laws.proofs.Machine.Following.{threads_keep}
use Rattle.bd_audit.proofs.OnlyOwnersHear.SittingSent.{Reaches, Sits, SitsIn, sits_other, owe_sits, sits_filter, sits_made, one_owner, transacted_sits, replied_sits, sits_on_deaths}

-- ---- threads

-- A list that reaches q's threads still does where each thread that was found is found as before, and perhaps more are.
reaches_more : (threads more : List Thread) (list : TodoList) (q : ℕ) → ((t : ℕ) (x : Thread) → thread_in threads t ≡ Some x → (y : Thread) × (thread_in more t ≡ Some y) × (y.process ≡ x.process))
    → Reaches threads list q → Reaches more list q
reaches_more threads more list q k h = search arith

found_front : {A : Type 0} (p : A → Bool) (x : A) (xs ys : List A) → find p xs ≡ Some x → find p (xs ++ ys) ≡ Some x
found_front p x xs ys h = rw (find-append p xs ys, h) refl

with_thread_sits : (z : Space) (seat p : ℕ) → SitsIn z → SitsIn (with_thread z seat p)
unfolding with_thread
with_thread_sits z seat p h = λ w o x l e i is.
    reaches_more z.threads _ w.list x.owner (λ t y f. (y, found_front (λ (u : Thread). u.seat == t) y z.threads _ f, refl)) (h w o x l e i is)

looping_process : (looping b : Bool) (x : Thread) → (cond b (record x { looping = looping }) x).process ≡ x.process
looping_process looping b x = search arith

with_looping_sits : (z : Space) (seat : ℕ) (looping : Bool) → SitsIn z → SitsIn (with_looping z seat looping)
unfolding with_looping
with_looping_sits z seat looping h = λ w o x l e i is.
    reaches_more z.threads _ w.list x.owner (λ t y f. (
      _,
      find_changed (λ (u : Thread). u.seat == seat) (λ (u : Thread). record u { looping = looping }) (λ (u : Thread). u.seat == t) (λ u. refl) z.threads ∙ ap (option_map _) f,
      looping_process looping (y.seat == seat) y,
    )) (h w o x l e i is)

-- a thread of another seat is still found
find_others : (t seat : ℕ) (x : Thread) (xs : List Thread) → (t == seat) ≡ false → thread_in xs t ≡ Some x → thread_in (filter (λ u. not (u.seat == seat)) xs) t ≡ Some x
find_others t seat x xs other h =
    find_kept (λ (u : Thread). u.seat == t) (λ (u : Thread). not (u.seat == seat)) xs (λ y l e. rw (eqb-true y.seat t e, other) refl) ∙ h

thread_goes_sits : (z : Space) (seat : ℕ) → SitsIn z → SitsIn (thread_goes z seat)
unfolding thread_goes
thread_goes_sits z seat h = λ w o x l e i is.
    let k = in_filter (λ (v : Work). not (is_on (OfThread seat) v)) w z.todo l in
    elsewhere w.list x.owner k.1 (h w o x k.0 e i is)
  where
    elsewhere : (list : TodoList) (q : ℕ) → not (same_list (OfThread seat) list) ≡ true → Reaches z.threads list q → Reaches (filter (λ t. not (t.seat == seat)) z.threads) list q
    elsewhere list q f r = search (arith, find_others, eq-eqb, eqb-true)

-- ---- reading and ripening

read_sits : (s : Space) (seat : ℕ) (ws : List Work) → SitsIn s → SitsIn (read_by s seat ws)
unfolding read_by
read_sits s seat ws h = search (arith, in_changed, told_id, in_filter)

ripen_sits : (z : Space) → SitsIn z → SitsIn (ripen z)
unfolding ripen
ripen_sits z h = ripen_keeps (Sits z.threads z.objects) z (λ todo t. sits_other z.steps z.threads z.objects todo (OfProcess t.receiver) (work.Call t.made) refl) h

-- ---- what follows

notify_sits : (z : Space) → Pairs Differ z.objects → SitsIn z → SitsIn (notify z)
unfolding notify
notify_sits z differ h =
    notify_keeps (Sits z.threads z.objects) z
    (λ todo y l due. sits_made z.steps z.threads z.objects (OfProcess y.owner) todo y (λ x i is. one_owner z.objects differ y x l i (sym is))) h

follow_sits : (z : Space) → Pairs Differ z.objects → SitsIn z → SitsIn (follow z)
unfolding follow names_go objects_go deaths_go work_goes
follow_sits z differ h =
    let y = work_goes (deaths_go (objects_go (names_go z))) in
    notify_sits y (pairs_filter Differ (stays_in z.processes z.references) z.objects differ)
    (sits_filter y.threads y.objects _ z.todo (λ w o x l e i is. h w o x l e (in_filter (stays_in z.processes z.references) x z.objects i).0 is))

-- ---- every step

managed_sits : (s : Space) (p : ℕ) → KeptBefore s → Live s → SitsIn s → SitsIn (with_manager s p)
unfolding with_manager
managed_sits s p kept live h = λ w o x l e i is. elim (in_push x _ s.objects i) [
  | inl k ↦ h w o x l e k is
  | inr new ↦ (
      let old = live w o l e in
      let lt = kept.kept.below old.0 old.1 in
      let place : s.steps ≡ old.0.id.place = ap (λ (y : Object). y.id.place) new ∙ ap (λ (j : Identity). j.place) (is ∙ sym old.2) in absurd (omega arith))
]

abbrev Within : Space → Type 0
Within z = IsKept z × SitsIn z

abbrev After : Space → Type 0
After z = IsKeptWhole z × SitsIn z

sitting_step : (s : Space) (seat : ℕ) (x : Step) → KeptBefore s → Live s → SitsIn s → Keeps s seat x Within After
unfolding without_buffer ask assign_numbers drop_asked acknowledge with_spam_detection with_process without_process closed
sitting_step s seat x kept live h =
    let k = kept_step s seat x kept in
    record {
      set_up = record {
        same = (k.set_up.same, h);
        opened = λ pid euid window free. (k.set_up.opened pid euid window free, with_thread_sits (with_process s pid euid window) seat s.steps h);
        attached = λ p free. (k.set_up.attached p free, with_thread_sits s seat p h);
        managed = λ a e b. (k.set_up.managed a e b, managed_sits s a.process.made kept live h);
        marked = λ p on. (k.set_up.marked p on, h);
      };
      changes = record {
        transacts = λ a d parcel v e i t. (k.changes.transacts a d parcel v e i t, transacted_sits s seat a d parcel v kept live i t h);
        replies = λ a d parcel f v e i g t. (k.changes.replies a d parcel f v e i g t, replied_sits s seat a d parcel f v kept live i t h);
        frees = λ p ptr b e t. (k.changes.frees p ptr b e t, h);
        asks = λ a n strong o e i t. (k.changes.asks a n strong o e i t, h);
        drops = λ p o strong. (k.changes.drops p o strong, h);
        acknowledges = λ o strong i. (k.changes.acknowledges o strong i, h);
        loops = λ a looping e. (k.changes.loops a looping e, with_looping_sits s a.thread.seat looping h);
        on_deaths = commands_both s _ _ k.changes.on_deaths (on_commands s _ (on_kept SitsIn sits_on_deaths s h));
        reads = λ a limit e i n. (k.changes.reads a limit e i n, read_sits s a.thread.seat _ h);
        leaves = λ a e. (k.changes.leaves a e, thread_goes_sits s a.thread.seat h);
        ends = λ a e. (
          k.changes.ends a e,
          on_told SitsIn sits_on_deaths (without_process (threads_go s a.process.made) a.process.made) a.process.made
              (sits_filter _ _ (λ (w : Work). not (is_on (OfProcess a.process.made) w)) _ (threads_keep SitsIn thread_goes_sits s a.process.made h)),
        );
        ripens = λ z l. (k.changes.ripens z l.0, ripen_sits z l.1);
      };
      follows = λ z l. (k.follows z l.0, follow_sits z (in_order_differ z.objects l.0.in_order) l.1);
      closes = λ z made l. (k.closes z made l.0, l.1);
      refuses = λ z t r l. (k.refuses z t r l.0, owe_sits z (OfThread t) (work.Refusal r) refl l.1);
      tells = λ z t r l. (k.tells z t r l.0, owe_sits z (OfThread t) (work.Verdict r) refl l.1);
    }

step_sits : (s : Space) (e : Entry) → IsTidy s → SitsIn s → SitsIn (next s e)
unfolding counted
step_sits s e tidy h = (every_step s e.seat e.step Within After (sitting_step s e.seat e.step tidy.before.objects (quiet_live s tidy.quiet) h)).1

pub always_sits : (es : List Entry) → SitsIn (after opening es)
always_sits es = (every_list (λ s. IsTidy s × SitsIn s) (λ s e k. (step_tidy s e k.0, step_sits s e k.0 k.1)) es opening (opening_tidy, λ w o x l e i is. absurd l)).1
