-- For every law: what holds after every step, from what its parts leave: the walk over them.
use Rattle.bd_laws.proofs.words.Logic.{arith, ◌≡◌, ℕ, ◌-◌, Bool, true, false, cond, List, Option, Some, None, Result, Ok, refl}
use Rattle.bd_laws.proofs.words.Types.{TransactionData, Note, Cause, NoCall, Identity, Parcel, Step, Open, Attach, SetManager, Command, Read, ExitThread, ExitProcess, Process, Thread, Object, Reference, Frame, Buffer, DeathNotification, Actor, OfThread, Accepted, Noted, NotHandedOut, NoneTold, SetSpam}
use Rattle.bd_laws.proofs.words.Space.{death_done, ok_or, Space, actor, thread_in, served_innermost, owe, list_to_read, settle, Delivery, transaction_step, transaction_outcome, transaction_check, transacted, refusal, reply_step, reply_to, reply_outcome, reply_check, replied, reply_refused, free_step, free_outcome, buffer_at_pointer, without_buffer, ask_check, ask, drop_asked, acknowledge, request_check, requested, told_death, cleared, command_step, with_looping, follow, read_step, read_taking, read_fault, read_by, taken, thread_goes, exit_thread_step, threads_go, without_process, tell_deaths, exit_process_step, Outcome, completed, by_check, ripen, change, open_step, attach_step, manager_step, is_manager_busy, by_actor, with_thread, with_process, with_manager, spam_step, with_spam_detection}
use Rattle.bd_uapi.specs.declared.command.Command.TheVariants as bc
use Rattle.bd_space.specs.declared.space.WorkKind.TheVariants as work
use Rattle.bd_laws.proofs.Machine.Deaths.{DeathCommands}

-- a step that asks for a reference through this handle
abbrev pub IsAsking : Step → ℕ → Bool → Type 0
IsAsking x n strong = (parcel : Option Parcel) × (x ≡ Command (cond strong (bc.Acquire n) (bc.Increfs n)) parcel)

-- a step that acknowledges in this strength, and one that reads
abbrev pub IsAcknowledging : Step → Bool → Type 0
IsAcknowledging x strong = (ptr : ℕ) × (cookie : ℕ) × (parcel : Option Parcel) × (x ≡ Command (cond strong (bc.AcquireDone ptr cookie) (bc.IncrefsDone ptr cookie)) parcel)

abbrev pub IsReading : Step → Type 0
IsReading x = (limit : ℕ) × (x ≡ Read limit)

-- what a step leaves that changes nothing, or seats a thread, or names the manager, or marks a process
pub record SetUp (s : Space) (seat : ℕ) (F : Space → Type 0) : Type 0 where
  pub same : F s
  pub opened : (pid euid window : ℕ) → thread_in s.threads seat ≡ None → F (with_thread (with_process s pid euid window) seat s.steps)
  pub attached : (p : ℕ) → thread_in s.threads seat ≡ None → F (with_thread s seat p)
  pub managed : (a : Actor) → actor s seat ≡ Some a → is_manager_busy s a.process.made ≡ false → F (with_manager s a.process.made)
  pub marked : (p : ℕ) (on : Bool) → F (with_spam_detection s p on)

-- What speaks of neither frames nor work items holds after each step of that kind.
pub set_up_beside : (s : Space) (seat : ℕ) (F : Space → Type 0)
    → ((qs : List Process) (ts : List Thread) (os : List Object) (rs : List Reference) (m : Option Identity) → F (record s { processes = qs; threads = ts; objects = os; references = rs; manager = m }))
    → SetUp s seat F
unfolding with_thread with_process with_manager with_spam_detection
set_up_beside s seat F h =
    record { same = h s.processes s.threads s.objects s.references s.manager; opened = λ pid euid window free. h _ _ _ _ _; attached = λ p free. h _ _ _ _ _; managed = λ a e b. h _ _ _ _ _; marked = λ p on. h _ _ _ _ _ }

-- What the parts of a step by this seat make of its space, up to what follows on: M holds after each, and while buffers'
-- turns ripen. Each part is said with what its step has tested.
pub record Changes (s : Space) (seat : ℕ) (x : Step) (M : Space → Type 0) : Type 0 where
  pub transacts : (a : Actor) (d : TransactionData) (parcel : Option Parcel) (v : Delivery) → x ≡ Command (bc.Transaction d) parcel → actor s seat ≡ Some a
      → transaction_check s a d parcel ≡ Ok v → M (transacted s a d v)
  pub replies : (a : Actor) (d : TransactionData) (parcel : Option Parcel) (f : Frame) (v : Delivery) → x ≡ Command (bc.Reply d) parcel → actor s seat ≡ Some a
      → served_innermost s a.thread.seat ≡ Some f → reply_check s a d parcel f ≡ Ok v → M (replied s a d f v)
  pub frees : (p ptr : ℕ) (b : Buffer) → buffer_at_pointer s p ptr ≡ Some b → b.handed ≡ true → M (without_buffer s b.made)
  pub asks : (a : Actor) (n : ℕ) (strong : Bool) (o : Identity) → actor s seat ≡ Some a → IsAsking x n strong → ask_check s a.process.made n strong ≡ Ok o → M (ask s a.process.made o strong)
  pub drops : (p : ℕ) (o : Identity) (strong : Bool) → M (drop_asked s p o strong)
  pub acknowledges : (o : Identity) (strong : Bool) → IsAcknowledging x strong → M (acknowledge s o strong)
  pub loops : (a : Actor) (looping : Bool) → actor s seat ≡ Some a → M (with_looping s a.thread.seat looping)
  pub on_deaths : DeathCommands s M
  pub reads : (a : Actor) (limit : ℕ) → actor s seat ≡ Some a → x ≡ Read limit → read_fault limit (list_to_read s a.thread) ≡ None
      → M (read_by s a.thread.seat (taken s (limit - 4) (list_to_read s a.thread)))
  pub leaves : (a : Actor) → actor s seat ≡ Some a → M (thread_goes s a.thread.seat)
  pub ends : (a : Actor) → actor s seat ≡ Some a → M (tell_deaths (without_process (threads_go s a.process.made) a.process.made) a.process.made)
  pub ripens : (z : Space) → M z → M (ripen z)

-- What each part of a step by this seat comes to: M is what its change leaves, F what the step leaves at its end.
pub record Endings (s : Space) (seat : ℕ) (x : Step) (M F : Space → Type 0) : Type 0 where
  pub set_up : SetUp s seat F
  pub changes : Changes s seat x M
  pub completes : (z : Space) → M z → F (completed z)
  pub refuses : (t : ℕ) (c : Cause) → F (settle (owe s (OfThread t) (work.Refusal (refusal c))))
  pub fails : (a : Actor) (d : TransactionData) (parcel : Option Parcel) (f : Frame) → x ≡ Command (bc.Reply d) parcel → actor s seat ≡ Some a
      → served_innermost s a.thread.seat ≡ Some f → F (settle (reply_refused s a.thread.seat f))
  pub reads : (a : Actor) (limit : ℕ) → actor s seat ≡ Some a → x ≡ Read limit → read_fault limit (list_to_read s a.thread) ≡ None
      → F (follow (read_by s a.thread.seat (taken s (limit - 4) (list_to_read s a.thread))))
  pub leaves : (a : Actor) → actor s seat ≡ Some a → F (settle (follow (thread_goes s a.thread.seat)))
  pub ends : (a : Actor) → actor s seat ≡ Some a → F (settle (follow (tell_deaths (without_process (threads_go s a.process.made) a.process.made) a.process.made)))

module _ (s : Space) (seat : ℕ) (x : Step) (M F : Space → Type 0) (k : Endings s seat x M F) where
  acts : (o : Option Actor) (f : Actor → Outcome) → actor s seat ≡ o → ((a : Actor) → actor s seat ≡ Some a → F (f a).space) → F (by_actor s o f).space
  acts o f e h = search arith

  transacts_to : (a : Actor) (d : TransactionData) (parcel : Option Parcel) (r : Result Delivery Cause) → x ≡ Command (bc.Transaction d) parcel → actor s seat ≡ Some a
      → transaction_check s a d parcel ≡ r → F (transaction_outcome s a d r).space
  transacts_to a d parcel r e h t = search arith

  replies_with : (a : Actor) (d : TransactionData) (parcel : Option Parcel) (f : Frame) (r : Result Delivery Cause) → x ≡ Command (bc.Reply d) parcel → actor s seat ≡ Some a
      → served_innermost s a.thread.seat ≡ Some f → reply_check s a d parcel f ≡ r → F (reply_outcome s a d f r).space
  replies_with a d parcel f r e h i t = search arith

  replies_to : (a : Actor) (d : TransactionData) (parcel : Option Parcel) (o : Option Frame) → x ≡ Command (bc.Reply d) parcel → actor s seat ≡ Some a
      → served_innermost s a.thread.seat ≡ o → F (reply_to s a d parcel o).space
  replies_to a d parcel None e h i = k.refuses a.thread.seat NoCall
  replies_to a d parcel (Some f) e h i = replies_with a d parcel f (reply_check s a d parcel f) e h i refl

  frees_if : (p ptr : ℕ) (b : Buffer) → buffer_at_pointer s p ptr ≡ Some b → (handed : Bool) → b.handed ≡ handed
      → F (cond {A = Outcome} handed (record { answer = Accepted; space = completed (without_buffer s b.made) }) (record { answer = Noted NotHandedOut; space = s })).space
  frees_if p ptr b e handed h = search arith

  frees_at : (p ptr : ℕ) (o : Option Buffer) → buffer_at_pointer s p ptr ≡ o → F (free_outcome s o).space
  frees_at p ptr o e = search (arith, frees_if)

  asks_for : (a : Actor) (n : ℕ) (strong : Bool) (r : Result Identity Note) → actor s seat ≡ Some a → IsAsking x n strong → ask_check s a.process.made n strong ≡ r
      → F (by_check s (λ o. ask s a.process.made o strong) r).space
  asks_for a n strong r e i t = search arith

  drops_of : (p : ℕ) (strong : Bool) (r : Result Identity Note) → F (by_check s (λ o. drop_asked s p o strong) r).space
  drops_of p strong r = search arith

  acknowledges_of : (strong : Bool) (r : Result Object Note) → IsAcknowledging x strong → F (by_check s (λ x. acknowledge s x.id strong) r).space
  acknowledges_of strong r i = search arith

  requests_of : (p n cookie : ℕ) (r : Result Identity Note) → request_check s p n ≡ r → F (by_check s (λ o. requested s p o cookie) r).space
  requests_of p n cookie r e = search arith

  clears_of : (t : ℕ) (r : Result DeathNotification Note) → F (by_check s (cleared s t) r).space
  clears_of t r = search arith

  is_done_of : (t p cookie : ℕ) (o : Option DeathNotification) → told_death s p cookie ≡ o → F (by_check s (death_done s t) (ok_or o NoneTold)).space
  is_done_of t p cookie o e = search arith

  changes : (y : Step) → x ≡ y → F (change s seat y).space
  unfolding change open_step attach_step manager_step spam_step read_step exit_thread_step exit_process_step read_taking command_step free_step reply_step transaction_step
  changes (Open pid euid window) e = search arith
  changes (Attach pid) e = search arith
  changes SetManager e = acts (actor s seat) _ refl (λ a h. search arith)
  changes (SetSpam on) e = acts (actor s seat) _ refl (λ a h. k.set_up.marked a.process.made on)
  changes (Command c parcel) e = acts (actor s seat) _ refl (λ a h. search (arith, transacts_to, replies_to, frees_at, asks_for, drops_of, acknowledges_of, requests_of, clears_of, is_done_of))
  changes (Read limit) e = acts (actor s seat) _ refl (λ a h. search arith)
  changes ExitThread e = acts (actor s seat) _ refl (λ a h. k.leaves a h)
  changes ExitProcess e = acts (actor s seat) _ refl (λ a h. k.ends a h)

  -- what the parts keep, the step keeps
  pub every_ending_step : F (change s seat x).space
  every_ending_step = changes x refl
