-- PlacesAreEarlier: threads, and the processes that they are of. A step leaves threads with their processes, ends some, and
-- adds one at most: that of its own seat, which had none.
use Rattle.bd_laws.proofs.words.Logic.{◌≡◌, ℕ, suc, ◌<◌, ◌==◌, Bool, cond, List, Option, Some, None, ◌⊎◌, inl, inr, refl, ap, subst, sym, true, false, ◌∙◌, arith, filter, is_some}
use Rattle.bd_laws.proofs.words.Types.{TransactionData, Work, Step, Open, Attach, SetManager, SetSpam, Command, Read, ExitThread, ExitProcess, Process, Thread, Actor, Frame, OfThread, WorkKind}
use Rattle.bd_laws.proofs.words.Space.{Space, changed, thread_in, process_with_pid, actor, owe, closed, follow, notify, work_goes, names_go, objects_go, deaths_go, ripen, ask, drop_asked, acknowledge, assign_numbers, with_looping, without_buffer, with_thread, with_process, with_manager, with_spam_detection, Delivery, delivered, transacted, called, call_out, replied, read_by, thread_goes, threads_go, without_process, tell_deaths, is_spam, open_step, open_outcome, open_fault, attach_step, attach_outcome, change}
use Rattle.bd_uapi.specs.declared.fault.Fault.{Fault}
use Rattle.bd_space.specs.declared.space.WorkKind.TheVariants as work
use Rattle.bd_laws.proofs.words.Laws.{In}
use Rattle.bd_laws.proofs.Lists.{in_push, in_filter, in_changed, find_in}
use Rattle.bd_laws.proofs.Machine.Adding.{notify_keeps}
use Rattle.bd_laws.proofs.Machine.Deaths.{on_mapped, on_commands, on_deaths_aside, tell_deaths_aside}
use Rattle.bd_laws.proofs.Machine.EveryStep.{Keeps, every_step}
use Rattle.bd_laws.proofs.Machine.Fields.{sent_threads, owe_threads, closed_threads}
use Rattle.bd_laws.proofs.Machine.Following.{follow_by, threads_by}

-- the first was the second before the step
abbrev pub IsOf : Thread → Thread → Type 0
IsOf t u = (t.made ≡ u.made) × (t.process ≡ u.process)

-- each of these threads was one of those, with its process
abbrev pub From : List Thread → List Thread → Type 0
From new old = (t : Thread) → In t new → (u : Thread) × In u old × IsOf t u

from_same : (ts : List Thread) → From ts ts
from_same ts t l = (t, l, (refl, refl))

from_trans : (zs ys xs : List Thread) → From zs ys → From ys xs → From zs xs
from_trans zs ys xs h k t l =
    let u = h t l in
    let v = k u.0 u.1 in
    (v.0, v.1, (u.2.0 ∙ v.2.0, u.2.1 ∙ v.2.1))

from_is : (zs ys : List Thread) → zs ≡ ys → From zs ys
from_is zs ys e = subst (From zs) e (from_same zs)

from_filter : (p : Thread → Bool) (ts : List Thread) → From (filter p ts) ts
from_filter p ts t l = (t, (in_filter p t ts l).0, (refl, refl))

-- ---- what parts of a step leave

calls : (z : Space) (seat p : ℕ) (one_way : Bool) → (called z seat p one_way).threads ≡ z.threads
unfolding call_out owe
calls z seat p one_way = search arith

transacts : (s : Space) (a : Actor) (d : TransactionData) (v : Delivery) → (transacted s a d v).threads ≡ s.threads
unfolding transacted
transacts s a d v =
    let spam = is_spam (delivered s a d v) a v in
    calls (owe (delivered s a d v) (OfThread a.thread.seat) (work.Complete spam)) a.thread.seat v.receiver.made v.one_way ∙ sent_threads s a d v spam

tells : (z : Space) (caller : Option ℕ) (kind : WorkKind) → (elim caller as (λ (o : Option ℕ). Space) [ None ↦ z | Some t ↦ owe z (OfThread t) kind ]).threads ≡ z.threads
tells z None kind = refl
tells z (Some t) kind = owe_threads z (OfThread t) kind

replies : (s : Space) (a : Actor) (d : TransactionData) (f : Frame) (v : Delivery) → (replied s a d f v).threads ≡ s.threads
unfolding replied
replies s a d f v = tells _ f.caller (work.Reply s.steps) ∙ sent_threads (closed s f.made) a d v false ∙ closed_threads s f.made

changed_from : (p : Thread → Bool) (f : Thread → Thread) → ((t : Thread) → ((f t).made ≡ t.made) × ((f t).process ≡ t.process)) → (ts : List Thread) → From (changed p f ts) ts
changed_from p f same ts t l =
    let u = in_changed p f t ts l in
    (u.0, u.1, either u.0 (p u.0) u.2)
  where
    either : (u : Thread) (b : Bool) → t ≡ cond b (f u) u → (t.made ≡ u.made) × (t.process ≡ u.process)
    either u true e = let k = same u in (ap (λ (x : Thread). x.made) e ∙ k.0, ap (λ (x : Thread). x.process) e ∙ k.1)
    either u false e = (ap (λ (x : Thread). x.made) e, ap (λ (x : Thread). x.process) e)

loops : (z : Space) (seat : ℕ) (looping : Bool) → From (with_looping z seat looping).threads z.threads
unfolding with_looping
loops z seat looping = changed_from _ _ (λ t. (refl, refl)) z.threads

goes : (z : Space) (seat : ℕ) → From (thread_goes z seat).threads z.threads
unfolding thread_goes
goes z seat = from_filter _ z.threads

all_go : (z : Space) (p : ℕ) → From (threads_go z p).threads z.threads
all_go = threads_by (λ z y. From z.threads y.threads) (λ z. from_same z.threads) (λ z y x. from_trans z.threads y.threads x.threads) goes

ends : (z : Space) (p : ℕ) → From (tell_deaths (without_process (threads_go z p) p) p).threads z.threads
unfolding without_process
ends z p = subst (λ ts. From ts z.threads) (sym (tell_deaths_aside (without_process (threads_go z p) p) p).threads) (all_go z p)

reads : (s : Space) (seat : ℕ) (ws : List Work) → (read_by s seat ws).threads ≡ s.threads
unfolding read_by
reads s seat ws = refl

ripens : (z : Space) → (ripen z).threads ≡ z.threads
unfolding ripen
ripens z = refl

notifies : (z : Space) → (notify z).threads ≡ z.threads
unfolding notify owe
notifies z = notify_keeps (λ todo. let y = record z { todo = todo } in y.threads ≡ z.threads) z (λ todo x l due e. refl) refl

follows : (z : Space) → (follow z).threads ≡ z.threads
unfolding names_go objects_go deaths_go work_goes
follows = follow_by (λ z y. z.threads ≡ y.threads) (λ z y x h k. h ∙ k) (record { names = λ z. refl; objects = λ z. refl; deaths = λ z. refl; work = λ z. refl; notices = notifies })

-- ---- every step

module _ (s : Space) (seat : ℕ) where
  -- the seat had no thread, or no thread has come
  abbrev Left : Space → Type 0
  Left z = (thread_in s.threads seat ≡ None) ⊎ From z.threads s.threads

  left_is : (zs ys : List Thread) → zs ≡ ys → (thread_in s.threads seat ≡ None) ⊎ From ys s.threads → (thread_in s.threads seat ≡ None) ⊎ From zs s.threads
  left_is zs ys e h = subst (λ ts. (thread_in s.threads seat ≡ None) ⊎ From ts s.threads) (sym e) h

  first : Left s
  first = inr (from_same s.threads)

  kept : (x : Step) → Keeps s seat x Left Left
  unfolding with_manager with_spam_detection without_buffer ask assign_numbers drop_asked acknowledge
  kept x = record {
    set_up = record {
      same = first;
      opened = λ pid euid window none. inl none;
      attached = λ p none. inl none;
      managed = λ a e b. left_is _ s.threads refl first;
      marked = λ p on. left_is _ s.threads refl first;
    };
    changes = record {
      transacts = λ a d parcel v e i t. left_is _ s.threads (transacts s a d v) first;
      replies = λ a d parcel f v e i g t. left_is _ s.threads (replies s a d f v) first;
      frees = λ p ptr b e t. left_is _ s.threads refl first;
      asks = λ a n strong o e i t. left_is _ s.threads refl first;
      drops = λ p o strong. left_is _ s.threads refl first;
      acknowledges = λ o strong i. left_is _ s.threads refl first;
      loops = λ a looping e. inr (loops s a.thread.seat looping);
      on_deaths = on_commands s _ (on_mapped s _ _ (λ y k. left_is y.threads s.threads k.threads first) (on_deaths_aside s));
      reads = λ a limit e i n. left_is _ s.threads (reads s a.thread.seat _) first;
      leaves = λ a e. inr (goes s a.thread.seat);
      ends = λ a e. inr (ends s a.process.made);
      ripens = λ z h. left_is (ripen z).threads z.threads (ripens z) h;
    };
    follows = λ z h. left_is (follow z).threads z.threads (follows z) h;
    closes = λ z made h. left_is (closed z made).threads z.threads (closed_threads z made) h;
    refuses = λ z t r h. left_is _ z.threads (owe_threads z (OfThread t) (work.Refusal r)) h;
    tells = λ z t r h. left_is _ z.threads (owe_threads z (OfThread t) (work.Verdict r)) h;
  }

  left : (x : Step) → Left (change s seat x).space
  left x = every_step s seat x Left Left (kept x)

-- ---- the places of threads

-- each thread is of a step below n, and so is its process
abbrev pub Seated : ℕ → List Thread → Type 0
Seated n ts = (t : Thread) → In t ts → (t.made < n) × (t.process < n)

-- each process is
abbrev pub Born : ℕ → List Process → Type 0
Born n qs = (q : Process) → In q qs → q.made < n

module _ (s : Space) (h : Seated s.steps s.threads) where
  stays : Seated (suc s.steps) s.threads
  stays t l = let lt = h t l in (omega (arith, lt.0), omega (arith, lt.1))

  from_seated : (ts : List Thread) → From ts s.threads → Seated (suc s.steps) ts
  from_seated ts from t l =
      let u = from t l in
      let lt = stays u.0 u.1 in
      (subst (λ n. n < suc s.steps) (sym u.2.0) lt.0, subst (λ n. n < suc s.steps) (sym u.2.1) lt.1)

  with_thread_seated : (z : Space) (seat p : ℕ) → z.steps ≡ s.steps → z.threads ≡ s.threads → p < suc s.steps → Seated (suc s.steps) (with_thread z seat p).threads
  unfolding with_thread
  with_thread_seated z seat p steps threads lt t l = elim (in_push t _ z.threads l) [
    | inl i ↦ stays t (subst (In t) threads i)
    | inr is ↦ (
        let made : z.steps ≡ t.made = ap (λ (u : Thread). u.made) is in
        let process : p ≡ t.process = ap (λ (u : Thread). u.process) is in
        (omega arith, omega arith))
  ]

  module _ (seat : ℕ) (born : Born s.steps s.processes) where
    opens : (pid euid window : ℕ) (o : Option Fault) → Seated (suc s.steps) (open_outcome s seat pid euid window o).space.threads
    unfolding with_process
    opens pid euid window (Some f) = stays
    opens pid euid window None = with_thread_seated (with_process s pid euid window) seat s.steps refl refl (omega arith)

    attaches : (q : Option Process) (b : Bool) → (pid : ℕ) → process_with_pid s.processes pid ≡ q → Seated (suc s.steps) (attach_outcome s seat q b).space.threads
    attaches q true pid e = stays
    attaches None false pid e = stays
    attaches (Some q) false pid e =
        let l = find_in (λ (q : Process). q.pid == pid) q s.processes e in
        let lt = born q l.0 in
        with_thread_seated s seat q.made refl refl (omega arith)

    -- where the seat has no thread, only an Open or an Attach makes one
    unseated : (x : Step) → thread_in s.threads seat ≡ None → Seated (suc s.steps) (change s seat x).space.threads
    unfolding change open_step attach_step actor
    unseated (Open pid euid window) none = opens pid euid window (open_fault s seat pid window)
    unseated (Attach pid) none = attaches (process_with_pid s.processes pid) (is_some (thread_in s.threads seat)) pid refl
    unseated SetManager none = rw none stays
    unseated (SetSpam on) none = rw none stays
    unseated (Command c parcel) none = rw none stays
    unseated (Read limit) none = rw none stays
    unseated ExitThread none = rw none stays
    unseated ExitProcess none = rw none stays

    pub next_seated : (x : Step) → Seated (suc s.steps) (change s seat x).space.threads
    next_seated x = elim (left s seat x) [ inl none ↦ unseated x none | inr from ↦ from_seated _ from ]
