-- For SpacesAreTidy and the audit's laws: what a step leaves of processes, objects and buffers, and what it makes.
use Rattle.bd_laws.proofs.words.Logic.{◌&&◌, suc, ◌≡◌, ℕ, ◌==◌, Bool, true, false, cond, not, List, [], ◌∷◌, ◌++◌, Some, ◌⊎◌, inl, inr, refl, ap, sym, ◌∙◌, filter, arith, eqb-true, eq-eqb}
use Rattle.bd_laws.proofs.words.Types.{Identity, Step, Entry, Process, Buffer, Turn, Work, TodoList, OfThread, OfProcess}
use Rattle.bd_laws.proofs.words.Space.{pointer, Space, with_work, hands_out, is_on, closed, turn_of, turns_of, is_ripe, ripened, ripen, follow, buffer_at_pointer, thread_goes, is_lost_with, threads_go, without_process, tell_deaths, change}
use Rattle.bd_space.specs.declared.space.WorkKind.TheVariants as work
use Rattle.bd_laws.proofs.words.Laws.{In, InTurn, On, OnLists}
use Rattle.bd_laws.proofs.Lists.{in_filter, filter_in, any_found, find_in, in_filter_map, all_push}
use Rattle.bd_laws.proofs.Tests.{not_true}
use Rattle.bd_laws.proofs.Machine.EveryStep.{Keeps, every_step}
use Rattle.bd_laws.proofs.Machine.Following.{threads_keep}
use Rattle.bd_laws.proofs.IsInTurn.OneWay
use Rattle.bd_laws.proofs.IsInTurn.OneWay.{less_table, less_closes, Less}
use Rattle.bd_laws.proofs.IsInTurn.Ripening.{turn_parts, one_made}
use Rattle.bd_laws.proofs.IsInTurn.InTurn.{Turning, kept}
use Rattle.bd_laws.proofs.Machine.Untouched
use Rattle.bd_laws.proofs.Machine.Untouched.{Untouched}
use Rattle.bd_laws.proofs.Machine.Deaths.{on_mapped, on_both, on_commands}
use Rattle.bd_laws.proofs.IsInTurn.PassedCalls.{same_going, transacted_passed, replied_passed, freed_passed, read_passed}
use Rattle.bd_laws.proofs.IsInTurn.Passed.{Ended, Passed, Going, going_passed, passed_none, After, untouched_after, passed_after, ask_after, drop_asked_after, acknowledge_after, follow_after, opened_passed, attached_passed, managed_passed, marked_passed}

-- ---- ripening

pub on_turn : (o : Identity) (b : Buffer) → On o b → turn_of b ≡ Some (record { made = b.made; receiver = b.receiver; target = o; handed = b.handed })
on_turn o b on = rw (on.0, on.1) refl

-- a one-way call that ripens stands on its receiver's list
abbrev Listed : List Work → Buffer → Type 0
Listed todo c = (w : Work) → In w todo → hands_out w.kind ≡ Some c.made → w.list ≡ OfProcess c.receiver

ripened_lists : (place : ℕ) (older ts : List Turn) (todo : List Work) (c : Buffer) → ((t : Turn) → In t ts → t.made ≡ c.made → t.receiver ≡ c.receiver) → Listed todo c
    → Listed (ripened place older todo ts) c
ripened_lists place older [] todo c own l = l
ripened_lists place older (t ∷ ts) todo c own l = ripened_lists place (older ++ t ∷ []) ts _ c (λ u k. own u (inr k)) (one (is_ripe todo older t))
  where
    one : (b : Bool) → Listed (cond b (with_work place todo (OfProcess t.receiver) (work.Call t.made)) todo) c
    one false = l
    one true = all_push todo _ (λ w. hands_out w.kind ≡ Some c.made → w.list ≡ OfProcess c.receiver) l
        (λ e. ap OfProcess (own t (inl refl) (let f : Some t.made ≡ Some c.made = e in cc)))

pub ripen_passed : (s z : Space) → Turning z → Passed s z → Passed s (ripen z)
unfolding ripen
ripen_passed s z turns h =
    going_passed s _ z (same_going _ z refl refl refl refl) (λ w c o i e j on. ripened_lists z.steps [] (turns_of z.buffers) z.todo c (own c j) (λ w i e. h.lists w c o i e j on) w i e) h
  where
    own : (c : Buffer) → In c z.buffers → (t : Turn) → In t (turns_of z.buffers) → t.made ≡ c.made → t.receiver ≡ c.receiver
    own c j t i e =
        let b = in_filter_map turn_of t z.buffers i in
        let parts = turn_parts b.0 t b.2 in
        parts.1 ∙ ap (λ (x : Buffer). x.receiver) (one_made (suc z.steps) z.buffers z.todo turns b.0 c b.1 j (sym parts.0 ∙ e))

-- ---- ends of threads and processes

pub lost_on : (todo : List Work) (list : TodoList) (m : ℕ) → is_lost_with todo list m ≡ true → (w : Work) × In w todo × (is_on list w ≡ true) × (hands_out w.kind ≡ Some m)
lost_on todo list m h = search (arith, any_found)

pub not_on : (seat : ℕ) (w : Work) (p : ℕ) → w.list ≡ OfProcess p → is_on (OfThread seat) w ≡ true → ⊥
not_on seat w p e h = let f : is_on (OfThread seat) w ≡ false = rw e refl in absurd (cc)

pub thread_goes_passed : (s z : Space) (seat : ℕ) → Passed s z → Passed s (thread_goes z seat)
unfolding thread_goes
thread_goes_passed s z seat h = going_passed s _ z (search (arith, in_filter, filter_in, lost_on, not_on)) (search (arith, in_filter, h.lists)) h

rest_going : (z : Space) (p : ℕ) → Going (without_process z p) z
unfolding without_process
rest_going z p = record {
  steps = refl;
  processes = λ q i. (in_filter (λ (q : Process). not (q.made == p)) q z.processes i).0;
  objects = λ x i. i;
  buffers = λ c i. (in_filter (λ (b : Buffer). not (b.receiver == p)) c z.buffers i).0;
  stays = λ o c i on. at (c.receiver == p) c i refl;
}
  where
    other : (n m : ℕ) → (m == p) ≡ true → n ≡ m → not (n == p) ≡ true → ⊥
    other n m e f k = search (arith, eqb-true, eq-eqb, not_true)

    at : (t : Bool) (c : Buffer) → In c z.buffers → (c.receiver == p) ≡ t → In c (filter (λ (b : Buffer). not (b.receiver == p)) z.buffers) ⊎ Ended (without_process z p) c.receiver
    at false c i e = inl (search (arith, filter_in))
    at true c i e = inr (record {
      process = λ q. other q.0.made c.receiver e q.2 (in_filter _ q.0 z.processes q.1).1;
      buffers = λ d j r. other d.receiver c.receiver e r (in_filter _ d z.buffers j).1;
    })

without_process_passed : (s z : Space) (p : ℕ) → Passed s z → Passed s (without_process z p)
unfolding without_process
without_process_passed s z p h = going_passed s _ z (rest_going z p) (search (arith, in_filter, h.lists)) h

pub ends_passed : (s : Space) (p : ℕ) → OnLists s → Passed s (tell_deaths (without_process (threads_go s p) p) p)
ends_passed s p l =
    let b = without_process (threads_go s p) p in
    passed_after s (tell_deaths b p) b (untouched_after (tell_deaths b p) b (Untouched.tell_deaths_untouched b p) (OneWay.tell_deaths_less b p))
    (without_process_passed s (threads_go s p) p (threads_keep (Passed s) (thread_goes_passed s) s p (passed_none s l)))

-- ---- every step

pub at_pointer_in : (s : Space) (p ptr : ℕ) (b : Buffer) → buffer_at_pointer s p ptr ≡ Some b → In b s.buffers
unfolding buffer_at_pointer
at_pointer_in s p ptr b h = (find_in (λ (x : Buffer). (x.receiver == p) && (pointer x == ptr)) b s.buffers h).0

pub record Passing (s z : Space) : Type 0 where
  pub turns : Turning z
  pub passed : Passed s z

passing_after : (s z y : Space) → After z y → Passing s y → Passing s z
passing_after s z y a h = record { turns = OneWay.in_turn_less z y (OneWay.less_same z y a.steps a.buffers a.due) h.turns; passed = passed_after s z y a h.passed }

passing_untouched : (s z y : Space) → Untouched z y → Less z y → Passing s y → Passing s z
passing_untouched s z y u l h = passing_after s z y (untouched_after z y u l) h

passing_step : (s : Space) (seat : ℕ) (x : Step) → InTurn s.steps s.buffers s.todo → OnLists s → Keeps s seat x (Passing s) (Passing s)
passing_step s seat x turns l =
    let k = kept s seat x turns in
    let none : Passing s s = record { turns = k.set_up.same; passed = passed_none s l } in
    record {
      set_up = search (arith, opened_passed, attached_passed, managed_passed, marked_passed);
      changes = record {
        transacts = λ a d parcel v e i t. record { turns = k.changes.transacts a d parcel v e i t; passed = transacted_passed s seat a d parcel v turns l i t };
        replies = λ a d parcel f v e i g t. record { turns = k.changes.replies a d parcel f v e i g t; passed = replied_passed s seat a d parcel f v turns l i t };
        frees = λ p ptr b e t. record { turns = k.changes.frees p ptr b e t; passed = freed_passed s b turns l (at_pointer_in s p ptr b e) t };
        asks = λ a n strong o e i t. passing_after s _ s (ask_after s a.process.made o strong) none;
        drops = λ p o strong. passing_after s _ s (drop_asked_after s p o strong) none;
        acknowledges = λ o strong i. passing_after s _ s (acknowledge_after s o strong) none;
        loops = λ a looping e. passing_untouched s _ s (Untouched.with_looping_untouched s a.thread.seat looping) (less_table.loops s a.thread.seat looping) none;
        on_deaths = on_commands s _ (on_mapped s _ _ (λ y k. passing_untouched s y s k.0 k.1 none) (on_both s _ _ (Untouched.on_deaths_untouched s) (OneWay.on_deaths_less s)));
        reads = λ a limit e i n. record { turns = k.changes.reads a limit e i n; passed = read_passed s a.thread a.thread.seat _ l };
        leaves = λ a e. record { turns = k.changes.leaves a e; passed = thread_goes_passed s s a.thread.seat (passed_none s l) };
        ends = λ a e. record { turns = k.changes.ends a e; passed = ends_passed s a.process.made l };
        ripens = λ z h. record { turns = k.changes.ripens z h.turns; passed = ripen_passed s z h.turns h.passed };
      };
      follows = λ z. passing_after s (follow z) z (follow_after z);
      closes = λ z made. passing_untouched s (closed z made) z (Untouched.closed_untouched z made) (less_closes z made);
      refuses = λ z t r. passing_untouched s _ z (Untouched.owe_untouched z (OfThread t) (work.Refusal r)) (OneWay.owe_less z (OfThread t) (work.Refusal r) refl);
      tells = λ z t r. passing_untouched s _ z (Untouched.owe_untouched z (OfThread t) (work.Verdict r)) (OneWay.owe_less z (OfThread t) (work.Verdict r) refl);
    }

pub step_passes : (s : Space) (e : Entry) → InTurn s.steps s.buffers s.todo → OnLists s → Passing s (change s e.seat e.step).space
step_passes s e turns l = every_step s e.seat e.step (Passing s) (Passing s) (passing_step s e.seat e.step turns l)
