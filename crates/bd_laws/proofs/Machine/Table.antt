-- For every law: one table of the parts of a step. What lies between the space after a part and that before it is told for
-- the changes that parts are made of; then it is told of every part but of those that carry calls: transactions, replies,
-- readings, turns.
use Rattle.bd_laws.proofs.words.Logic.{arith, ◌≡◌, ℕ, ◌-◌, Bool, not, List, [], ◌∷◌, ◌++◌, Option, Some, None, Ok, filter}
use Rattle.bd_laws.proofs.words.Types.{Identity, Process, Object, Reference, Name, DeathNotification, Frame, Actor, Parcel, Item, Buffer, Work, Step, Command, Read, Return, DeadReply, TransactionData, TodoList, OfThread, OfProcess, WorkKind}
use Rattle.bd_laws.proofs.words.Space.{Space, call_out, is_notice, settle, completed, delivered, own_notices, add_buffer, with_carried, refer, make_objects, buffer_of, owe, closed, follow, notify, work_goes, deaths_go, objects_go, names_go, assign_numbers, ripen, ask, drop_asked, acknowledge, with_looping, without_buffer, with_thread, with_process, with_manager, thread_goes, threads_go, without_process, tell_deaths, Delivery, transacted, transaction_check, replied, reply_check, served_innermost, read_by, taken, list_to_read, read_fault, actor, with_spam_detection}
use Rattle.bd_space.specs.declared.space.WorkKind.TheVariants as work
use Rattle.bd_uapi.specs.declared.command.Command.TheVariants as bc
use Rattle.bd_laws.proofs.Machine.Adding.{told_keeps, notify_keeps, own_notices_keeps, ripen_keeps}
use Rattle.bd_laws.proofs.Machine.Settled.{settle_keeps}
use Rattle.bd_laws.proofs.Machine.Deaths.{OnDeaths, KeptOnDeaths, on_kept, on_told, on_commands}
use Rattle.bd_laws.proofs.Machine.Following.{follow_by, ends_by, threads_by}
use Rattle.bd_laws.proofs.Machine.EveryEnding.{SetUp, Changes}
use Rattle.bd_laws.proofs.Machine.EveryStep.{Keeps}

-- R relates a space to an earlier one of the step; T tells which items a part may add
pub record Table (R : Space → Space → Type 0) (T : WorkKind → Type 0) : Type 0 where
  pub same : (z : Space) → R z z
  pub trans : (z y x : Space) → R z y → R y x → R z x
  -- R speaks of none of these fields.
  pub beside : (z : Space) (qs : List Process) (m : Option Identity) (os : List Object) (rs : List Reference) (ns : List Name) (ds : List DeathNotification)
      → R (record z { processes = qs; manager = m; objects = os; references = rs; names = ns; deaths = ds }) z
  pub seats : (z : Space) (seat p : ℕ) → R (with_thread z seat p) z
  pub loops : (z : Space) (t : ℕ) (looping : Bool) → R (with_looping z t looping) z
  pub frees : (z : Space) (made : ℕ) → R (without_buffer z made) z
  pub owes : (z : Space) (list : TodoList) (kind : WorkKind) → T kind → R (owe z list kind) z
  pub sheds : (z : Space) → R (work_goes z) z
  pub notice : (o : Identity) → T (work.Notice o)
  pub death : (made : ℕ) → T (work.Death made)
  pub clear : (cookie : ℕ) → T (work.Cleared cookie)

-- the parts that end threads and processes
pub record Exits (R : Space → Space → Type 0) : Type 0 where
  pub goes : (z : Space) (seat : ℕ) → R (thread_goes z seat) z
  pub rest : (z : Space) (p : ℕ) → R (without_process z p) z

-- R relates a space in which a frame has closed to the one before.
abbrev pub Closing : (Space → Space → Type 0) → Type 0
Closing R = (z : Space) (made : ℕ) → R (closed z made) z

-- the parts that carry calls
pub record Carried (s : Space) (seat : ℕ) (x : Step) (M : Space → Type 0) : Type 0 where
  pub transacts : (a : Actor) (d : TransactionData) (parcel : Option Parcel) (v : Delivery) → x ≡ Command (bc.Transaction d) parcel → actor s seat ≡ Some a
      → transaction_check s a d parcel ≡ Ok v → M (transacted s a d v)
  pub replies : (a : Actor) (d : TransactionData) (parcel : Option Parcel) (f : Frame) (v : Delivery) → x ≡ Command (bc.Reply d) parcel → actor s seat ≡ Some a
      → served_innermost s a.thread.seat ≡ Some f → reply_check s a d parcel f ≡ Ok v → M (replied s a d f v)
  pub reads : (a : Actor) (limit : ℕ) → actor s seat ≡ Some a → x ≡ Read limit → read_fault limit (list_to_read s a.thread) ≡ None
      → M (read_by s a.thread.seat (taken s (limit - 4) (list_to_read s a.thread)))
  pub ripens : (z : Space) → M z → M (ripen z)

module _ (R : Space → Space → Type 0) (T : WorkKind → Type 0) (t : Table R T) where
  -- ---- what follows, and the ends of processes

  pub notify_by : (z : Space) → R (notify z) z
  unfolding notify owe
  notify_by z =
      notify_keeps (λ todo. R (record z { todo = todo }) z) z
      (λ todo x l due. let y = record z { todo = todo } in t.trans _ y z (t.owes y (OfProcess x.owner) (work.Notice x.id) (t.notice x.id))) (t.same z)

  pub followed_by : (z : Space) → R (follow z) z
  unfolding names_go objects_go deaths_go
  followed_by = follow_by R t.trans (record {
    names = λ z. t.beside z _ _ _ _ _ _;
    objects = λ z. t.beside z _ _ _ _ _ _;
    deaths = λ z. t.beside z _ _ _ _ _ _;
    work = t.sheds;
    notices = notify_by;
  })

  deaths_kept : (z : Space) → KeptOnDeaths (λ y. R y z)
  deaths_kept z = search (arith, t.trans, t.beside, t.owes, t.death, t.clear)

  pub deaths_by : (z : Space) → OnDeaths z (λ y. R y z)
  deaths_by z = on_kept _ (deaths_kept z) z (t.same z)

  pub tell_deaths_by : (z : Space) (p : ℕ) → R (tell_deaths z p) z
  tell_deaths_by z p = on_told _ (deaths_kept z) z p (t.same z)

  pub ended_by : Exits R → (z : Space) (p : ℕ) → R (tell_deaths (without_process (threads_go z p) p) p) z
  ended_by e = ends_by R t.trans (threads_by R t.same t.trans e.goes) e.rest tell_deaths_by

  pub ripen_by : ((made : ℕ) → T (work.Call made)) → (z : Space) → R (ripen z) z
  unfolding ripen owe
  ripen_by call z =
      ripen_keeps (λ todo. R (record z { todo = todo }) z) z
      (λ todo u. let y = record z { todo = todo } in t.trans _ y z (t.owes y (OfProcess u.receiver) (work.Call u.made) (call u.made))) (t.same z)

  -- what closing frames adds, settling adds
  settled_by : Closing R → T (work.Verdict DeadReply) → (z : Space) → R (settle z) z
  settled_by closes verdict z =
      settle_keeps (λ y. R y z) (λ y f abandoned h. told_keeps (λ y. R y z) (work.Verdict DeadReply) (λ y u. t.trans _ y z (t.owes y (OfThread u) (work.Verdict DeadReply) verdict))
      (closed y f.made) f.caller (t.trans _ y z (closes y f.made) h)) z (t.same z)

  pub completed_by : Closing R → T (work.Verdict DeadReply) → ((z : Space) → R (ripen z) z) → (z : Space) → R (completed z) z
  unfolding completed
  completed_by closes verdict ripens z = t.trans _ (follow (ripen z)) z (settled_by closes verdict (follow (ripen z))) (t.trans _ (ripen z) z (followed_by (ripen z)) (ripens z))

  -- ---- what is sent

  module _ (withdraws : (z : Space) (o : Identity) → R (record z { todo = filter (λ (w : Work). not (is_notice o w.kind)) z.todo }) z) (arrives : (z : Space) (b : Buffer) → R (add_buffer z b) z)
      (complete : (spam : Bool) → T (work.Complete spam)) where
    pub own_notices_by : (z : Space) (seat : ℕ) (items : List Item) → R (own_notices z seat items) z
    unfolding own_notices owe
    own_notices_by z seat items =
        own_notices_keeps (λ todo. R (record z { todo = todo }) z) z seat items (λ todo o. let y = record z { todo = todo } in t.trans _ y z (withdraws y o))
        (λ todo x due. let y = record z { todo = todo } in t.trans _ y z (t.owes y (OfThread seat) (work.Notice x.id) (t.notice x.id))) (t.same z)

    pub delivered_by : (s : Space) (a : Actor) (d : TransactionData) (v : Delivery) → R (delivered s a d v) s
    unfolding delivered with_carried assign_numbers refer make_objects
    delivered_by s a d v =
        let y = with_carried s v in
        let b = buffer_of y a d v in
        t.trans _ (add_buffer y b) s (own_notices_by (add_buffer y b) a.thread.seat v.sending.items) (t.trans _ y s (arrives y b) (t.beside s _ _ _ _ _ _))

    pub sent_by : (s : Space) (a : Actor) (d : TransactionData) (v : Delivery) (spam : Bool) → R (owe (delivered s a d v) (OfThread a.thread.seat) (work.Complete spam)) s
    sent_by s a d v spam = t.trans _ (delivered s a d v) s (t.owes (delivered s a d v) (OfThread a.thread.seat) (work.Complete spam) (complete spam)) (delivered_by s a d v)

    pub transacted_by : ((z : Space) (seat p : ℕ) → R (call_out z seat p) z) → (s : Space) (a : Actor) (d : TransactionData) (v : Delivery) → R (transacted s a d v) s
    unfolding transacted
    transacted_by calls s a d v = search (arith, sent_by)

  -- ---- every step, for what rests on a space as R tells

  module _ (s : Space) (seat : ℕ) (x : Step) (F : Space → Type 0) (from : (z : Space) → R z s → F z) where
    pub set_up_by : SetUp s seat F
    unfolding with_process with_manager with_spam_detection
    set_up_by = search arith

    -- where exits are told by themselves
    pub changes_but : Carried s seat x F → ((a : Actor) → actor s seat ≡ Some a → F (thread_goes s a.thread.seat))
        → ((a : Actor) → actor s seat ≡ Some a → F (tell_deaths (without_process (threads_go s a.process.made) a.process.made) a.process.made)) → Changes s seat x F
    unfolding ask assign_numbers drop_asked acknowledge
    changes_but k leaves ends = search (arith, on_commands, deaths_by)

    module _ (e : Exits R) where
      pub changes_by : Carried s seat x F → Changes s seat x F
      changes_by k = changes_but k (λ a i. from _ (e.goes s a.thread.seat)) (λ a i. from _ (ended_by e s a.process.made))

      pub keeps_by : Closing R → ((z y : Space) → R z y → F y → F z) → ((r : Return) → T (work.Refusal r)) → ((r : Return) → T (work.Verdict r)) → Carried s seat x F → Keeps s seat x F F
      keeps_by closing later refusal verdict k = search (arith, set_up_by, changes_by, followed_by, t.owes)

-- ---- two tables together

pub table_both : (R S : Space → Space → Type 0) (T U : WorkKind → Type 0) → Table R T → Table S U → Table (λ z y. R z y × S z y) (λ k. T k × U k)
table_both R S T U t u = search arith

-- ---- what touches no frames

abbrev pub SameFrames : Space → Space → Type 0
SameFrames z y = z.frames ≡ y.frames

-- any item may come
abbrev pub Any : WorkKind → Type 0
Any kind = Unit {0}

pub frames_table : Table SameFrames Any
unfolding with_thread with_looping without_buffer owe work_goes
frames_table = search arith

-- ---- what lies between work items alone

-- L relates a list of work items to an earlier one of the step
pub record Listing (L : List Work → List Work → Type 0) (T : WorkKind → Type 0) : Type 0 where
  pub same : (todo : List Work) → L todo todo
  pub trans : (xs ys zs : List Work) → L xs ys → L ys zs → L xs zs
  pub push : (todo : List Work) (w : Work) → T w.kind → L (todo ++ w ∷ []) todo
  pub fewer : (p : Work → Bool) (todo : List Work) → L (filter p todo) todo
  pub notice : (o : Identity) → T (work.Notice o)
  pub death : (made : ℕ) → T (work.Death made)
  pub clear : (cookie : ℕ) → T (work.Cleared cookie)

module _ (L : List Work → List Work → Type 0) (T : WorkKind → Type 0) (k : Listing L T) where
  abbrev pub Between : Space → Space → Type 0
  Between z y = L z.todo y.todo

  pub listing_table : Table Between T
  unfolding with_thread with_looping without_buffer owe work_goes
  listing_table = search arith

  pub listing_exits : Exits Between
  unfolding thread_goes without_process
  listing_exits = record { goes = λ z seat. k.fewer _ z.todo; rest = λ z p. k.fewer _ z.todo }
