-- Whoever makes a step stays with its process, or ends.
use Rattle.bd_laws.proofs.words.Logic.{arith, ◌≡◌, ℕ, ◌==◌, Bool, true, false, cond, not, List, [], ◌∷◌, Some, None, refl, ap, sym, subst, ◌∙◌, filter, option_map, eqb-true}
use Rattle.bd_laws.proofs.words.Types.{Work, WorkKind, TransactionData, Step, Frame, Actor, Thread, OfThread, DeadReply, FailedReply, TransactionComplete}
use Rattle.bd_laws.proofs.words.Space.{Space, changed, thread_in, closed, owe, tell_caller, follow, ripen, call_out, called, delivered, transacted, replied, reply_refused, Delivery, read_by, is_spam, refusal, with_thread, with_process, with_looping, with_manager, with_spam_detection, without_buffer, ask, drop_asked, acknowledge, assign_numbers, thread_goes, threads_go, without_process, tell_deaths, change}
use Rattle.bd_space.specs.declared.space.WorkKind.TheVariants as work
use Rattle.bd_laws.proofs.Lists.{find_changed}
use Rattle.bd_laws.proofs.Tests.{either_way}
use Rattle.bd_laws.proofs.Machine.Adding.{told_keeps}
use Rattle.bd_laws.proofs.Machine.Deaths.{KeptOnDeaths, on_kept, on_commands, tell_deaths_aside}
use Rattle.bd_laws.proofs.Machine.Fields.{sent_threads, owe_threads, closed_threads}
use Rattle.bd_laws.proofs.Machine.Following.{threads_keep}
use Rattle.bd_laws.proofs.Machine.EveryEnding.{SetUp, Changes}
use Rattle.bd_laws.proofs.Machine.EveryStep.{KeepsWhole, every_whole_step}
use Rattle.bd_attached.proofs.Staying.{follows_threads}

module _ (seat : ℕ) (first : List Thread) where
  -- a thread that the seat has now is of the process of the one that it had
  abbrev pub Own : List Thread → Type 0
  Own ts = (a b : Thread) → thread_in first seat ≡ Some a → thread_in ts seat ≡ Some b → b.process ≡ a.process

  now_off : (ts : List Thread) → thread_in (filter (λ (q : Thread). not (q.seat == seat)) ts) seat ≡ None
  now_off [] = refl
  now_off (q ∷ qs) = search (arith, now_off qs)

  still_on : (u : ℕ) → (u == seat) ≡ false → (ts : List Thread) → thread_in (filter (λ (q : Thread). not (q.seat == u)) ts) seat ≡ thread_in ts seat
  still_on u e [] = refl
  still_on u e (q ∷ qs) = search (arith, still_on u e qs, eqb-true)

  own_first : Own first
  own_first a b had has = let same : a ≡ b = cc in ap (λ (t : Thread). t.process) (sym same)

  own_as : (ts us : List Thread) → ts ≡ us → Own us → Own ts
  own_as ts us e own = subst Own (sym e) own

  own_none : (ts : List Thread) → thread_in first seat ≡ None → Own ts
  own_none ts none a b had has = absurd cc

  own_without : (u : ℕ) (ts : List Thread) → Own ts → Own (filter (λ (q : Thread). not (q.seat == u)) ts)
  own_without u ts own a b had has =
      either_way (u == seat)
      (λ e.
      let off : thread_in (filter (λ (q : Thread). not (q.seat == u)) ts) seat ≡ None =
      subst (λ n. thread_in (filter (λ (q : Thread). not (q.seat == n)) ts) seat ≡ None) (sym (eqb-true u seat e)) (now_off ts) in
      absurd cc)
      (λ e. own a b had (sym (still_on u e ts) ∙ has))

  loops_as : (c : Bool) (looping : Bool) (a b : Thread) → Some (cond c (record a { looping = looping }) a) ≡ Some b → b.process ≡ a.process
  loops_as true looping a b e = let same : (record a { looping = looping }) ≡ b = cc in ap (λ (t : Thread). t.process) (sym same)
  loops_as false looping a b e = let same : a ≡ b = cc in ap (λ (t : Thread). t.process) (sym same)

  own_looping : (u : ℕ) (looping : Bool) → Own (changed (λ (q : Thread). q.seat == u) (λ (q : Thread). record q { looping = looping }) first)
  own_looping u looping a b had has =
      let found = find_changed (λ (q : Thread). q.seat == u) (λ (q : Thread). record q { looping = looping }) (λ (q : Thread). q.seat == seat) (λ q. refl) first in
      let there : Some (cond (a.seat == u) (record a { looping = looping }) a) ≡ Some b =
      ap (option_map (λ (q : Thread). cond (q.seat == u) (record q { looping = looping }) q)) (sym had) ∙ sym found ∙ has in
      loops_as (a.seat == u) looping a b there

module _ (s : Space) (seat : ℕ) where
  abbrev F : Space → Type 0
  F z = Own seat s.threads z.threads

  on : (z y : Space) → z.threads ≡ y.threads → F y → F z
  on z y e own = own_as seat s.threads z.threads y.threads e own

  same : F s
  same = own_first seat s.threads

  deaths_keep : KeptOnDeaths F
  unfolding owe
  deaths_keep = record { others = λ z ds h. h; dies = λ z p made h. h; clears = λ z t cookie h. h }

  called_threads : (y : Space) (t p : ℕ) (one_way : Bool) → (called y t p one_way).threads ≡ y.threads
  unfolding call_out owe
  called_threads y t p one_way = search arith

  transacts : (a : Actor) (d : TransactionData) (v : Delivery) → F (transacted s a d v)
  unfolding transacted
  transacts a d v =
      let spam = is_spam (delivered s a d v) a v in
      let y = owe (delivered s a d v) (OfThread a.thread.seat) (work.Complete spam) in
      on (called y a.thread.seat v.receiver.made v.one_way) s (called_threads y a.thread.seat v.receiver.made v.one_way ∙ sent_threads s a d v spam) same

  owes : (z : Space) (t : ℕ) (kind : WorkKind) → F z → F (owe z (OfThread t) kind)
  owes z t kind h = on (owe z (OfThread t) kind) z (owe_threads z (OfThread t) kind) h

  replies : (a : Actor) (d : TransactionData) (f : Frame) (v : Delivery) → F (replied s a d f v)
  unfolding replied
  replies a d f v =
      let y = owe (delivered (closed s f.made) a d v) (OfThread a.thread.seat) (work.Complete false) in
      told_keeps F (work.Reply s.steps) (λ z t h. owes z t (work.Reply s.steps) h) y f.caller (on y s (sent_threads (closed s f.made) a d v false ∙ closed_threads s f.made) same)

  fails : (t : ℕ) (f : Frame) → F (reply_refused s t f)
  unfolding reply_refused
  fails t f =
      let y = owe s (OfThread t) (work.Refusal TransactionComplete) in
      told_keeps F (work.Verdict FailedReply) (λ z u h. owes z u (work.Verdict FailedReply) h) (closed y f.made) f.caller
      (on (closed y f.made) y (closed_threads y f.made) (owes s t (work.Refusal TransactionComplete) same))

  abandons : (z : Space) (f : Frame) → F z → F (tell_caller (closed z f.made) f (work.Verdict DeadReply))
  abandons z f h = told_keeps F (work.Verdict DeadReply) (λ y u k. owes y u (work.Verdict DeadReply) k) (closed z f.made) f.caller (on (closed z f.made) z (closed_threads z f.made) h)

  goes : (z : Space) (u : ℕ) → F z → F (thread_goes z u)
  unfolding thread_goes
  goes z u h = own_without seat s.threads u z.threads h

  left_threads : (z : Space) (p : ℕ) → (without_process z p).threads ≡ z.threads
  unfolding without_process
  left_threads z p = refl

  ends : (p : ℕ) → F (tell_deaths (without_process (threads_go s p) p) p)
  ends p =
      let y = without_process (threads_go s p) p in
      on (tell_deaths y p) (threads_go s p) ((tell_deaths_aside y p).threads ∙ left_threads (threads_go s p) p) (threads_keep F goes s p same)

  ripe_threads : (z : Space) → (ripen z).threads ≡ z.threads
  unfolding ripen
  ripe_threads z = refl

  sets_up : SetUp s seat F
  unfolding with_thread with_process with_manager with_spam_detection
  sets_up = record {
    same = same;
    opened = λ pid euid window free. own_none seat s.threads _ free;
    attached = λ p free. own_none seat s.threads _ free;
    managed = λ a e b. same;
    marked = λ p o. same;
  }

  loops : (a : Actor) (looping : Bool) → F (with_looping s a.thread.seat looping)
  unfolding with_looping
  loops a looping = own_looping seat s.threads a.thread.seat looping

  reads : (u : ℕ) (ws : List Work) → F (read_by s u ws)
  unfolding read_by
  reads u ws = same

  all_changes : (x : Step) → Changes s seat x F
  unfolding ask assign_numbers drop_asked acknowledge without_buffer
  all_changes x = record {
    transacts = λ a d parcel v e i c. transacts a d v;
    replies = λ a d parcel f v e i g c. replies a d f v;
    frees = λ p ptr b e h. same;
    asks = λ a n strong o i g c. same;
    drops = λ p o strong. same;
    acknowledges = λ o strong i. same;
    loops = λ a looping i. loops a looping;
    on_deaths = on_commands s F (on_kept F deaths_keep s same);
    reads = λ a limit i e n. reads a.thread.seat _;
    leaves = λ a i. goes s a.thread.seat same;
    ends = λ a i. ends a.process.made;
    ripens = λ z h. on (ripen z) z (ripe_threads z) h;
  }

  whole : (x : Step) → KeepsWhole s seat x F F
  whole x = record {
    set_up = sets_up;
    changes = all_changes x;
    follows = λ z h. on (follow z) z (follows_threads z) h;
    refuses = λ t c. owes s t (work.Refusal (refusal c)) same;
    fails = λ a d parcel f e i g. fails a.thread.seat f;
    abandons = λ z f e h. abandons z f h;
  }

  pub own_of : (x : Step) → F (change s seat x).space
  own_of x = every_whole_step s seat x F F (whole x)
