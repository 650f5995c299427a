-- For RepliesAnswerTheLatestOpenCall and CallsEndLatestFirst: each live thread was made by a step of its seat.
use Rattle.bd_laws.proofs.words.Logic.{arith, ◌≡◌, ℕ, zero, suc, ◌-◌, ◌==◌, Bool, false, not, List, [], ◌∷◌, ◌++◌, length, Option, Some, None, ◌⊎◌, inl, inr, refl, ap, sym, subst, ◌∙◌, filter, slice_get, option_map, eqb-true}
use Rattle.bd_laws.proofs.words.Types.{TransactionData, Entry, Thread, Frame, Actor, OfThread}
use Rattle.bd_laws.proofs.words.Space.{Space, opening, closed, owe, list_to_read, ripen, follow, notify, work_goes, deaths_go, names_go, assign_numbers, objects_go, Delivery, transacted, called, call_out, replied, without_buffer, read_by, taken, thread_goes, threads_go, without_process, tell_deaths, counted, with_thread, with_process, with_manager, ask, drop_asked, acknowledge, with_looping, after, with_spam_detection, is_spam, delivered}
use Rattle.bd_space.specs.declared.space.WorkKind.TheVariants as work
use Rattle.bd_laws.proofs.Machine.EveryStep.{Keeps, every_step}
use Rattle.bd_laws.proofs.Machine.Deaths.{tell_deaths_aside, on_mapped, on_deaths_aside, on_commands}
use Rattle.bd_laws.proofs.Lists.{by_last}
use Rattle.bd_audit.specs.Replies.{made_in, thread_made}
use Rattle.bd_audit.proofs.Beginnings.{after_append}
use Rattle.bd_laws.proofs.Machine.Steps.{always_steps}
use Rattle.bd_audit.proofs.RepliesReachTheirCallers.Quiet.{made_kept, made_changed}
use Rattle.bd_audit.proofs.RepliesReachTheirCallers.ReplyLaw.{placed}
use Rattle.bd_laws.proofs.Machine.Fields.{owe_threads, sent_threads, closed_threads}
use Rattle.bd_laws.proofs.Machine.Adding.{told_keeps}
use Rattle.bd_laws.proofs.Machine.Following.{threads_keep}
use Rattle.std.proofs.lemmas.List.Folds.{find-append}

abbrev pub seat_at : List Entry → ℕ → Option ℕ
seat_at es m = option_map (λ e. e.seat) (slice_get es m)

abbrev pub Seated : List Entry → Space → Type 0
Seated es z = (t m : ℕ) → thread_made z t ≡ Some m → seat_at es m ≡ Some t

seat_more : (es fs : List Entry) (m t : ℕ) → seat_at es m ≡ Some t → seat_at (es ++ fs) m ≡ Some t
seat_more [] fs m t h = absurd (cc)
seat_more (e ∷ es) fs zero t h = h
seat_more (e ∷ es) fs (suc m) t h = seat_more es fs m t h

same_threads : (es : List Entry) (z y : Space) → z.threads ≡ y.threads → Seated es y → Seated es z
same_threads es z y e h t m k = h t m (ap (λ ts. made_in ts t) (sym e) ∙ k)

-- ---- threads that come and go

pub made_pushed : (ts : List Thread) (u : Thread) (t m : ℕ) → made_in (ts ++ u ∷ []) t ≡ Some m → (made_in ts t ≡ Some m) ⊎ ((t ≡ u.seat) × (m ≡ u.made))
made_pushed ts u t m h = search (arith, find-append, eqb-true)

pub none_left : (ts : List Thread) (gone : ℕ) → made_in (filter (λ (v : Thread). not (v.seat == gone)) ts) gone ≡ None
none_left [] gone = refl
none_left (x ∷ ts) gone = search (arith, none_left ts gone)

-- who is left sits elsewhere
pub other_left : (ts : List Thread) (gone t m : ℕ) → made_in (filter (λ (v : Thread). not (v.seat == gone)) ts) t ≡ Some m → (t == gone) ≡ false
other_left ts gone t m i = search (arith, none_left, eqb-true)

pub made_before : (ts : List Thread) (gone t m : ℕ) → made_in (filter (λ (v : Thread). not (v.seat == gone)) ts) t ≡ Some m → made_in ts t ≡ Some m
made_before ts gone t m h = search (arith, none_left, eqb-true, made_kept)

goes : (es : List Entry) (z : Space) (seat : ℕ) → Seated es z → Seated es (thread_goes z seat)
unfolding thread_goes
goes es z seat h t m k = h t m (made_before z.threads seat t m k)

ends : (es : List Entry) (z : Space) (p : ℕ) → Seated es z → Seated es (tell_deaths (without_process (threads_go z p) p) p)
unfolding without_process
ends es z p h =
    let y = without_process (threads_go z p) p in
    same_threads es (tell_deaths y p) (threads_go z p) (tell_deaths_aside y p).threads (threads_keep (Seated es) (goes es) z p h)

-- ---- what is sent

called_threads : (z : Space) (seat p : ℕ) (one_way : Bool) → (called z seat p one_way).threads ≡ z.threads
unfolding call_out owe
called_threads z seat p one_way = search arith

transacted_threads : (s : Space) (a : Actor) (d : TransactionData) (v : Delivery) → (transacted s a d v).threads ≡ s.threads
unfolding transacted
transacted_threads s a d v =
    let spam = is_spam (delivered s a d v) a v in
    called_threads (owe (delivered s a d v) (OfThread a.thread.seat) (work.Complete spam)) a.thread.seat v.receiver.made v.one_way ∙ sent_threads s a d v spam

module _ (es : List Entry) (e : Entry) (h : Seated es (after opening es)) where
  abbrev s : Space
  s = after opening es

  abbrev more : List Entry
  more = es ++ e ∷ []

  now : Seated more s
  now t m k = seat_more es (e ∷ []) m t (h t m k)

  same : (z : Space) → z.threads ≡ s.threads → Seated more z
  same z k = same_threads more z s k now

  attached : (p : ℕ) (z : Space) → z.threads ≡ s.threads → z.steps ≡ s.steps → Seated more (with_thread z e.seat p)
  unfolding with_thread
  attached p z k n t m i = elim (made_pushed z.threads _ t m i) [
    | inl j ↦ now t m (ap (λ ts. made_in ts t) (sym k) ∙ j)
    | inr is ↦ (
        let place : m ≡ length es = is.1 ∙ n ∙ always_steps es in
        ap (λ o. option_map (λ (x : Entry). x.seat) o) (ap (slice_get more) place ∙ (placed es e [] (length es) refl).0) ∙ ap (λ i. Some i) (sym is.0))
  ]

  replied_seated : (a : Actor) (d : TransactionData) (f : Frame) (v : Delivery) → Seated more (replied s a d f v)
  unfolding replied
  replied_seated a d f v =
      let y = owe (delivered (closed s f.made) a d v) (OfThread a.thread.seat) (work.Complete false) in
      told_keeps (Seated more) (work.Reply s.steps) (λ z t. same_threads more (owe z (OfThread t) (work.Reply s.steps)) z (owe_threads z (OfThread t) (work.Reply s.steps))) y f.caller
      (same y (sent_threads (closed s f.made) a d v false ∙ closed_threads s f.made))

  kept : Keeps s e.seat e.step (Seated more) (Seated more)
  unfolding with_process with_manager with_spam_detection without_buffer ask assign_numbers drop_asked acknowledge with_looping read_by ripen follow notify work_goes deaths_go objects_go names_go closed
  kept = record {
    set_up = record {
      same = now;
      opened = λ pid euid window free. attached s.steps (with_process s pid euid window) refl refl;
      attached = λ p free. attached p s refl refl;
      managed = λ a i b. same (with_manager s a.process.made) refl;
      marked = λ p on. same (with_spam_detection s p on) refl;
    };
    changes = record {
      transacts = λ a d parcel v x i t. same (transacted s a d v) (transacted_threads s a d v);
      replies = λ a d parcel f v x i g t. replied_seated a d f v;
      frees = λ p ptr b i t. same (without_buffer s b.made) refl;
      asks = λ a n strong o x i t. same (ask s a.process.made o strong) refl;
      drops = λ p o strong. same (drop_asked s p o strong) refl;
      acknowledges = λ o strong i. same (acknowledge s o strong) refl;
      loops = λ a looping x u m k. now u m (sym (made_changed (λ (v : Thread). v.seat == a.thread.seat) looping s.threads u) ∙ k);
      on_deaths = on_commands s _ (on_mapped s _ _ (λ y k. same y k.threads) (on_deaths_aside s));
      reads = λ a limit i x n. same (read_by s a.thread.seat (taken s (limit - 4) (list_to_read s a.thread))) refl;
      leaves = λ a i. goes more s a.thread.seat now;
      ends = λ a i. ends more s a.process.made now;
      ripens = λ z. same_threads more (ripen z) z refl;
    };
    follows = λ z. same_threads more (follow z) z refl;
    closes = λ z made. same_threads more (closed z made) z refl;
    refuses = λ z t r. same_threads more (owe z (OfThread t) (work.Refusal r)) z (owe_threads z (OfThread t) (work.Refusal r));
    tells = λ z t r. same_threads more (owe z (OfThread t) (work.Verdict r)) z (owe_threads z (OfThread t) (work.Verdict r));
  }

  step_seated : Seated more (after opening more)
  unfolding counted
  step_seated = subst (Seated more) (sym (after_append opening es (e ∷ []))) (every_step s e.seat e.step (Seated more) (Seated more) kept)

pub always_seated : (es : List Entry) → Seated es (after opening es)
always_seated es = by_last (λ es. Seated es (after opening es)) step_seated (λ t m k. absurd (cc)) es
