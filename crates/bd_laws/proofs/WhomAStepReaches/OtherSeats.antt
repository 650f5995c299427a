-- WhomAStepReaches: of another seat a step leaves the thread, and whether it is in a call, unless it tells it so on its own list.
use Rattle.bd_laws.proofs.words.Logic.{arith, ◌≡◌, ℕ, ◌==◌, ◌-◌, ◌+◌, suc, Bool, true, false, cond, not, ◌&&◌, ◌||◌, List, [], ◌∷◌, ◌++◌, Option, Some, None, Ok, ◌⊎◌, inl, inr, refl, ap, sym, subst, ◌∙◌, filter, map, find, list_any, eqb-true, eq-eqb, count_by, option_or}
use Rattle.std.proofs.lemmas.List.Folds.{find-append}
use Rattle.bd_laws.proofs.words.Types.{Identity, Process, Thread, Object, Reference, Name, DeathNotification, Frame, Actor, Parcel, Buffer, Work, Step, Command, Read, Return, DeadReply, FailedReply, TransactionComplete, TransactionData, TodoList, OfThread, OfProcess, WorkKind, Server, Pending, Serving, Gone, Cause, Turn}
use Rattle.bd_laws.proofs.words.Space.{Space, changed, takes_part, calls, serves, is_gone, is_frame, thread_in, actor, closed, owe, tell_caller, is_some_and, with_work, keeps_from_calling, is_on, is_call, still_due, follow, work_goes, notify, names_go, objects_go, deaths_go, ripen, settle, tell_deaths, thread_goes, threads_go, without_process, frame_without, unread_frame, seat_of, call_out, called, delivered, transacted, replied, reply_refused, served_innermost, is_abandoned, Delivery, read_by, taken, list_to_read, serve, is_spam, refusal, with_thread, with_process, with_looping, with_manager, with_spam_detection, without_buffer, ask, drop_asked, acknowledge, assign_numbers, cleared, requested, death_done, change}
use Rattle.bd_space.specs.declared.space.WorkKind.TheVariants as work
use Rattle.bd_laws.proofs.words.Laws.{In, Framed, OnPaths, OtherFrame, Pairs}
use Rattle.bd_laws.proofs.Lists.{in_left, in_last, filter_in, in_filter, find_in, fold_keeps, any_found}
use Rattle.bd_laws.proofs.Tests.{either_way, not_eq, call_kind, not_false_true, to_false, not_true}
use Rattle.bd_laws.proofs.Abandoned.{OneEach}
use Rattle.bd_laws.proofs.Checks.{actor_acts}
use Rattle.bd_laws.proofs.Machine.Adding.{told_keeps, notify_keeps, ripen_keeps}
use Rattle.bd_laws.proofs.Machine.Deaths.{KeptOnDeaths, OnDeaths, DeathCommands, on_kept, on_told, on_commands}
use Rattle.bd_laws.proofs.Machine.Following.{follow_by}
use Rattle.bd_laws.proofs.Machine.Fields.{sent_steps, sent_frames, sent_threads, owe_frames, owe_threads}
use Rattle.bd_laws.proofs.OnPaths.PathWords.{served_is}
use Rattle.bd_laws.proofs.OnPaths.Innermost.{innermost_is}
use Rattle.bd_laws.proofs.IsInTurn.Ripening.{read_in}
use Rattle.bd_laws.proofs.Machine.EveryEnding.{SetUp, Changes}
use Rattle.bd_laws.proofs.Machine.EveryStep.{KeepsWhole, every_whole_step}
use Rattle.bd_laws.proofs.Framing.{mapped, fewer, served, transacted_g, one_each_framed}

-- whether the thread is in one of these calls
abbrev pub is_busy : ℕ → List Frame → Bool
is_busy t fs = list_any (takes_part t) fs

module _ (t : ℕ) where
  busy_push : (f : Frame) (fs : List Frame) → takes_part t f ≡ false → is_busy t (fs ++ f ∷ []) ≡ is_busy t fs
  busy_push f [] e = search arith
  busy_push f (g ∷ gs) e = search (arith, busy_push f gs)

  busy_map : (k : Frame → Frame) → ((f : Frame) → takes_part t (k f) ≡ takes_part t f) → (fs : List Frame) → is_busy t (map k fs) ≡ is_busy t fs
  busy_map k e [] = refl
  busy_map k e (f ∷ fs) = search (arith, busy_map k e fs)

  busy_but : (p : Frame → Bool) (fs : List Frame) → ((f : Frame) → In f fs → p f ≡ false → takes_part t f ≡ false) → is_busy t (filter p fs) ≡ is_busy t fs
  busy_but p [] k = refl
  busy_but p (f ∷ fs) k = search (arith, busy_but p fs (λ g l. k g (inr l)))

  busy_changed : (p : Frame → Bool) (k : Frame → Frame) (fs : List Frame) → ((f : Frame) → In f fs → p f ≡ true → takes_part t (k f) ≡ takes_part t f)
      → is_busy t (changed p k fs) ≡ is_busy t fs
  busy_changed p k [] h = refl
  busy_changed p k (f ∷ fs) h = search (arith, busy_changed p k fs (λ g l. h g (inr l)))

  -- a call ends that isn't its own
  busy_closed : (f : Frame) (fs : List Frame) → OneEach fs → In f fs → takes_part t f ≡ false → is_busy t (filter (λ g. not (is_frame f.made g)) fs) ≡ is_busy t fs
  busy_closed f fs one l e =
      busy_but (λ g. not (is_frame f.made g)) fs (λ g m n.
      let same : g ≡ f = one g f m l (eqb-true g.made f.made (not_false_true (g.made == f.made) n)) in
      ap (takes_part t) same ∙ e)

  -- When another thread ends, the thread at t takes part in the frames that it took part in before.
  left_busy : (u : ℕ) (todo : List Work) → (u == t) ≡ false → (f : Frame) → takes_part t (frame_without todo u f) ≡ takes_part t f
  left_busy u todo e f = search (arith, eqb-true, eq-eqb)

  unread_busy : (p : ℕ) (todo : List Work) (f : Frame) → takes_part t (unread_frame todo (OfProcess p) f) ≡ takes_part t f
  unread_busy p todo f = search arith

  stays_due : (processes : List Process) (objects : List Object) (references : List Reference) (deaths : List DeathNotification) (kind : WorkKind)
      → keeps_from_calling kind ≡ true → still_due processes objects references deaths kind ≡ true
  stays_due processes objects references deaths kind e = search arith

module _ (s : Space) (seat t : ℕ) (other : t ≡ seat → ⊥) where
  abbrev Kept : Space → Type 0
  Kept z = thread_in z.threads t ≡ thread_in s.threads t

  abbrev Ended : Space → Type 0
  Ended z = thread_in z.threads t ≡ None

  abbrev Same : Space → Type 0
  Same z = is_busy t z.frames ≡ is_busy t s.frames

  -- a call, a reply or a verdict of this step stands on its own list
  abbrev pub Told : Space → Type 0
  Told z = (w : Work) × In w z.todo × (w.list ≡ OfThread t) × (w.id.place ≡ s.steps) × (keeps_from_calling w.kind ≡ true)

  pub record Left (z : Space) : Type 0 where
    pub steps : z.steps ≡ s.steps
    pub framed : Framed (suc s.steps) z.frames
    pub thread : Kept z ⊎ Ended z
    pub calls : Same z ⊎ (Told z ⊎ Ended z)

  -- z has the threads and frames of y, and what it was told there is still to be read
  record Beside (z y : Space) : Type 0 where
    pub steps : z.steps ≡ y.steps
    pub frames : z.frames ≡ y.frames
    pub threads : z.threads ≡ y.threads
    pub items : (w : Work) → In w y.todo → w.list ≡ OfThread t → keeps_from_calling w.kind ≡ true → In w z.todo

  beside_same : (z : Space) → Beside z z
  beside_same z = record { steps = refl; frames = refl; threads = refl; items = λ w l e k. l }

  beside_trans : (z y x : Space) → Beside z y → Beside y x → Beside z x
  beside_trans z y x h k = record { steps = h.steps ∙ k.steps; frames = h.frames ∙ k.frames; threads = h.threads ∙ k.threads; items = λ w l e c. h.items w (k.items w l e c) e c }

  beside_fields : (z : Space) (qs : List Process) (m : Option Identity) (os : List Object) (rs : List Reference) (ns : List Name) (bs : List Buffer) (ds : List DeathNotification)
      → Beside (record z { processes = qs; manager = m; objects = os; references = rs; names = ns; buffers = bs; deaths = ds }) z
  beside_fields z qs m os rs ns bs ds = record { steps = refl; frames = refl; threads = refl; items = λ w l e k. l }

  beside_owe : (z : Space) (list : TodoList) (kind : WorkKind) → Beside (owe z list kind) z
  unfolding owe
  beside_owe z list kind = record { steps = refl; frames = refl; threads = refl; items = λ w l e k. in_left w z.todo _ l }

  beside_sheds : (z : Space) → Beside (work_goes z) z
  unfolding work_goes
  beside_sheds z = record {
    steps = refl;
    frames = refl;
    threads = refl;
    items = λ w l e k. filter_in (λ (v : Work). still_due z.processes z.objects z.references z.deaths v.kind) w z.todo l (stays_due t z.processes z.objects z.references z.deaths w.kind k);
  }

  beside_notify : (z : Space) → Beside (notify z) z
  unfolding notify owe
  beside_notify z =
      notify_keeps (λ todo. Beside (record z { todo = todo }) z) z
      (λ todo x l due. let y = record z { todo = todo } in beside_trans _ y z (beside_owe y (OfProcess x.owner) (work.Notice x.id))) (beside_same z)

  beside_follow : (z : Space) → Beside (follow z) z
  unfolding names_go objects_go deaths_go
  beside_follow = follow_by Beside beside_trans (record {
    names = λ z. beside_fields z _ _ _ _ _ _ _;
    objects = λ z. beside_fields z _ _ _ _ _ _ _;
    deaths = λ z. beside_fields z _ _ _ _ _ _ _;
    work = beside_sheds;
    notices = beside_notify;
  })

  beside_ripen : (z : Space) → Beside (ripen z) z
  unfolding ripen owe
  beside_ripen z =
      ripen_keeps (λ todo. Beside (record z { todo = todo }) z) z
      (λ todo u. let y = record z { todo = todo } in beside_trans _ y z (beside_owe y (OfProcess u.receiver) (work.Call u.made))) (beside_same z)

  beside_deaths : (z : Space) → KeptOnDeaths (λ y. Beside y z)
  beside_deaths z = record {
    others = λ y ds h. beside_trans _ y z (beside_fields y _ _ _ _ _ _ ds) h;
    dies = λ y p made h. beside_trans _ y z (beside_owe y (OfProcess p) (work.Death made)) h;
    clears = λ y u cookie h. beside_trans _ y z (beside_owe y (OfThread u) (work.Cleared cookie)) h;
  }

  on : (z y : Space) → Beside z y → Left y → Left z
  on z y n h = record {
    steps = n.steps ∙ h.steps;
    framed = subst (Framed (suc s.steps)) (sym n.frames) h.framed;
    thread = elim h.thread [ inl e ↦ inl (ap (λ ts. thread_in ts t) n.threads ∙ e) | inr e ↦ inr (ap (λ ts. thread_in ts t) n.threads ∙ e) ];
    calls = elim h.calls [
      | inl e ↦ inl (ap (is_busy t) n.frames ∙ e)
      | inr (inl w) ↦ inr (inl (w.0, n.items w.0 w.1 w.2 w.4, w.2, w.3, w.4))
      | inr (inr e) ↦ inr (inr (ap (λ ts. thread_in ts t) n.threads ∙ e))
    ];
  }

  -- ---- a call ends, and whoever made it is told

  told : (kind : WorkKind) → keeps_from_calling kind ≡ true → (y : Space) → y.steps ≡ s.steps → Framed (suc s.steps) y.frames → Kept y ⊎ Ended y
      → (caller : Option ℕ) → ((caller ≡ Some t → ⊥) → Same y ⊎ (Told y ⊎ Ended y))
      → Left (elim caller as (λ (o : Option ℕ). Space) [ None ↦ y | Some u ↦ owe y (OfThread u) kind ])
  unfolding owe
  told kind k y n f th None c = record { steps = n; framed = f; thread = th; calls = c (λ e. absurd (cc)) }
  told kind k y n f th (Some u) c =
      either_way (u == t)
      (λ e. record {
        steps = n;
        framed = f;
        thread = th;
        calls = inr (inl (
          record { id = record { place = y.steps; index = count_by (λ (w : Work). w.id.place == y.steps) y.todo }; list = OfThread u; kind = kind },
          in_last _ y.todo,
          ap (λ n. OfThread n) (eqb-true u t e),
          n,
          k,
        ));
      })
      (λ e. on (owe y (OfThread u) kind) y (beside_owe y (OfThread u) kind) (record { steps = n; framed = f; thread = th; calls = c (λ q. search (arith, eq-eqb)) }))

  -- at most its caller was in the call, of those whose seats are another's
  closes : (kind : WorkKind) → keeps_from_calling kind ≡ true → (y z : Space) → z.steps ≡ y.steps → z.threads ≡ y.threads → (f : Frame)
      → z.frames ≡ filter (λ g. not (is_frame f.made g)) y.frames
      → ((w : Work) → In w y.todo → w.list ≡ OfThread t → keeps_from_calling w.kind ≡ true → In w z.todo)
      → In f y.frames → serves t f.server ≡ false → Left y → Left (tell_caller z f kind)
  closes kind k y z n th f fs items l free h =
      told kind k z (n ∙ h.steps) (subst (Framed (suc s.steps)) (sym fs) (fewer (suc s.steps) (λ g. not (is_frame f.made g)) y.frames h.framed))
      (elim h.thread [ inl e ↦ inl (ap (λ ts. thread_in ts t) th ∙ e) | inr e ↦ inr (ap (λ ts. thread_in ts t) th ∙ e) ]) f.caller
      (λ none. elim h.calls [
        | inl e ↦ inl (ap (is_busy t) fs ∙ busy_closed t f y.frames (one_each_framed (suc s.steps) y.frames h.framed) l (aside f.caller none) ∙ e)
        | inr (inl w) ↦ inr (inl (w.0, items w.0 w.1 w.2 w.4, w.2, w.3, w.4))
        | inr (inr e) ↦ inr (inr (ap (λ ts. thread_in ts t) th ∙ e))
      ])
    where
      aside : (o : Option ℕ) → (o ≡ Some t → ⊥) → (is_some_and o (λ u. u == t) || serves t f.server) ≡ false
      aside None c = free
      aside (Some u) c = search (arith, free, not_eq)

  gone_serves : (v : Server) → is_gone v ≡ true → serves t v ≡ false
  gone_serves v e = search arith

  abandons : (z : Space) (f : Frame) → find (is_abandoned z.frames) z.frames ≡ Some f → Left z → Left (tell_caller (closed z f.made) f (work.Verdict DeadReply))
  unfolding closed
  abandons z f e h =
      let k = find_in (is_abandoned z.frames) f z.frames e in
      closes (work.Verdict DeadReply) refl z (closed z f.made) refl refl f refl (λ w l i q. l) k.0 (gone_serves f.server (search arith)) h

  -- ---- from the space as it was

  module _ (fr : Framed s.steps s.frames) where
    begins : Left s
    begins = record { steps = refl; framed = record { below = λ f l. let lt = fr.below f l in omega arith; differ = fr.differ }; thread = inl refl; calls = inl refl }

    serves_other : (f : Frame) → served_innermost s seat ≡ Some f → In f s.frames × (serves t f.server ≡ false)
    serves_other f e =
        let k = served_is s seat f e in
        ((innermost_is s.frames seat f k.0).0, search (arith, not_eq))

    refuses : (u : ℕ) (r : Return) → Left (owe s (OfThread u) (work.Refusal r))
    refuses u r = on _ s (beside_owe s (OfThread u) (work.Refusal r)) begins

    fails : (f : Frame) → served_innermost s seat ≡ Some f → Left (reply_refused s seat f)
    unfolding reply_refused closed
    fails f e =
        let y = owe s (OfThread seat) (work.Refusal TransactionComplete) in
        let k = serves_other f e in
        closes (work.Verdict FailedReply) refl y (closed y f.made) refl refl f refl (λ w l i q. l) (subst (In f) (sym (owe_frames s (OfThread seat) (work.Refusal TransactionComplete))) k.0) k.1 (refuses seat TransactionComplete)

    module _ (a : Actor) (act : actor s seat ≡ Some a) where
      is_seat : a.thread.seat ≡ seat
      is_seat = (actor_acts s seat a act).seat

      not_t : (a.thread.seat == t) ≡ false
      not_t = not_eq a.thread.seat t (λ e. other (sym e ∙ is_seat))

      called_busy : (y : Space) (p : ℕ) (one_way : Bool) → is_busy t (called y a.thread.seat p one_way).frames ≡ is_busy t y.frames
      unfolding call_out
      called_busy y p true = refl
      called_busy y p false = busy_push t _ y.frames (search (arith, not_t))

      called_threads : (y : Space) (p : ℕ) (one_way : Bool) → (called y a.thread.seat p one_way).threads ≡ y.threads
      unfolding call_out owe
      called_threads y p one_way = search arith

      called_steps : (y : Space) (p : ℕ) (one_way : Bool) → (called y a.thread.seat p one_way).steps ≡ y.steps
      unfolding call_out owe
      called_steps y p one_way = search arith

      transacts : (d : TransactionData) (v : Delivery) → Left (transacted s a d v)
      unfolding transacted
      transacts d v =
          let spam = is_spam (delivered s a d v) a v in
          let y = owe (delivered s a d v) (OfThread a.thread.seat) (work.Complete spam) in record {
            steps = called_steps y v.receiver.made v.one_way ∙ sent_steps s a d v spam;
            framed = transacted_g s a d v fr;
            thread = inl (ap (λ ts. thread_in ts t) (called_threads y v.receiver.made v.one_way ∙ sent_threads s a d v spam));
            calls = inl (called_busy y v.receiver.made v.one_way ∙ ap (is_busy t) (sent_frames s a d v spam));
          }

      replies : (d : TransactionData) (f : Frame) (v : Delivery) → served_innermost s a.thread.seat ≡ Some f → Left (replied s a d f v)
      unfolding replied closed
      replies d f v e =
          let k = serves_other f (subst (λ n. served_innermost s n ≡ Some f) is_seat e) in
          let y = owe (delivered (closed s f.made) a d v) (OfThread a.thread.seat) (work.Complete false) in
          let fs : y.frames ≡ filter (λ g. not (is_frame f.made g)) s.frames = sent_frames (closed s f.made) a d v false in
          told (work.Reply s.steps) refl y (sent_steps (closed s f.made) a d v false) (subst (Framed (suc s.steps)) (sym fs) (fewer (suc s.steps) (λ g. not (is_frame f.made g)) s.frames begins.framed))
          (inl (ap (λ ts. thread_in ts t) (sent_threads (closed s f.made) a d v false))) f.caller
          (λ none. inl (ap (is_busy t) fs ∙ busy_closed t f s.frames (one_each_framed (suc s.steps) s.frames begins.framed) k.0 (replied_aside f.server k.1 f.caller none)))
        where
          replied_aside : (v : Server) → serves t v ≡ false → (o : Option ℕ) → (o ≡ Some t → ⊥) → (is_some_and o (λ u. u == t) || serves t v) ≡ false
          replied_aside v free None c = free
          replied_aside v free (Some u) c = search (arith, free, not_eq)

      loops : (looping : Bool) → Left (with_looping s a.thread.seat looping)
      unfolding with_looping
      loops looping = record { steps = refl; framed = begins.framed; thread = inl (looping_kept s.threads); calls = inl refl }
        where
          looping_kept : (ts : List Thread) → thread_in (changed (λ (u : Thread). u.seat == a.thread.seat) (λ (u : Thread). record u { looping = looping }) ts) t ≡ thread_in ts t
          looping_kept [] = refl
          looping_kept (u ∷ us) = search (arith, looping_kept us, eqb-true, not_t)

      -- who reads a call serves it, and nobody did before
      reads : OnPaths s.steps s → (left : ℕ) → Left (read_by s a.thread.seat (taken s left (list_to_read s a.thread)))
      unfolding read_by
      reads paths left =
          let ws = taken s left (list_to_read s a.thread) in
          let p = λ (f : Frame). list_any (λ (w : Work). is_call f.made w.kind) ws in record {
            steps = refl;
            framed = served (suc s.steps) p a.thread.seat s.frames begins.framed;
            thread = inl refl;
            calls = inl (busy_changed t p (serve a.thread.seat) s.frames (λ f l e.
                let w = any_found (λ (w : Work). is_call f.made w.kind) ws e in
                serves_anew f (unserved f l w.0 (read_in s a.thread left w.0 w.1) (call_kind f.made w.0.kind w.2))));
          }
        where
          unserved : (f : Frame) → In f s.frames → (w : Work) → In w s.todo → w.kind ≡ work.Call f.made → serves t f.server ≡ false
          unserved f l w m e = to_false (serves t f.server) (λ q. paths.1.unserved w f t m e l (is_serving f.server q))
            where
              is_serving : (v : Server) → serves t v ≡ true → v ≡ Serving t
              is_serving v q = search (arith, eqb-true)

          serves_anew : (f : Frame) → serves t f.server ≡ false → takes_part t (serve a.thread.seat f) ≡ takes_part t f
          serves_anew f e = search (arith, not_t)

  -- ---- threads and processes end

  still_off : (u : ℕ) (ts : List Thread) → thread_in ts t ≡ None → thread_in (filter (λ (q : Thread). not (q.seat == u)) ts) t ≡ None
  still_off u [] e = refl
  still_off u (q ∷ qs) e = search (arith, still_off u qs)

  now_off : (ts : List Thread) → thread_in (filter (λ (q : Thread). not (q.seat == t)) ts) t ≡ None
  now_off [] = refl
  now_off (q ∷ qs) = search (arith, now_off qs)

  still_on : (u : ℕ) → (u == t) ≡ false → (ts : List Thread) → thread_in (filter (λ (q : Thread). not (q.seat == u)) ts) t ≡ thread_in ts t
  still_on u e [] = refl
  still_on u e (q ∷ qs) = search (arith, still_on u e qs, eqb-true)

  own_stays : (u : ℕ) → (u == t) ≡ false → (todo : List Work) (w : Work) → In w todo → w.list ≡ OfThread t → In w (filter (λ (v : Work). not (is_on (OfThread u) v)) todo)
  own_stays u e todo w l q = filter_in (λ (v : Work). not (is_on (OfThread u) v)) w todo l (search arith)

  goes : (z : Space) (u : ℕ) → Left z → Left (thread_goes z u)
  unfolding thread_goes
  goes z u h =
      either_way (u == t)
      (λ e.
      let off : thread_in (filter (λ (q : Thread). not (q.seat == u)) z.threads) t ≡ None = subst (λ n. thread_in (filter (λ (q : Thread). not (q.seat == n)) z.threads) t ≡ None) (sym (eqb-true u t e)) (now_off z.threads) in
      record { steps = h.steps; framed = mapped (suc s.steps) (frame_without z.todo u) (λ f. refl) z.frames h.framed; thread = inr off; calls = inr (inr off) })
      (λ e. record {
        steps = h.steps;
        framed = mapped (suc s.steps) (frame_without z.todo u) (λ f. refl) z.frames h.framed;
        thread = elim h.thread [ inl k ↦ inl (still_on u e z.threads ∙ k) | inr k ↦ inr (still_off u z.threads k) ];
        calls = elim h.calls [
          | inl k ↦ inl (busy_map t (frame_without z.todo u) (left_busy t u z.todo e) z.frames ∙ k)
          | inr (inl w) ↦ inr (inl (w.0, own_stays u e z.todo w.0 w.1 w.2, w.2, w.3, w.4))
          | inr (inr k) ↦ inr (inr (still_off u z.threads k))
        ];
      })

  process_goes : (z : Space) (p : ℕ) → Left z → Left (without_process z p)
  unfolding without_process
  process_goes z p h = record {
    steps = h.steps;
    framed = mapped (suc s.steps) (unread_frame z.todo (OfProcess p)) (λ f. refl) z.frames h.framed;
    thread = h.thread;
    calls = elim h.calls [
      | inl k ↦ inl (busy_map t (unread_frame z.todo (OfProcess p)) (unread_busy t p z.todo) z.frames ∙ k)
      | inr (inl w) ↦ inr (inl (w.0, filter_in (λ (v : Work). not (is_on (OfProcess p) v)) w.0 z.todo w.1 (own_list w.0 w.2), w.2, w.3, w.4))
      | inr (inr k) ↦ inr (inr k)
    ];
  }
    where
      own_list : (w : Work) → w.list ≡ OfThread t → not (is_on (OfProcess p) w) ≡ true
      own_list w e = search arith

  ends : (z : Space) (p : ℕ) → Left z → Left (tell_deaths (without_process (threads_go z p) p) p)
  unfolding threads_go
  ends z p h =
      let y = without_process (threads_go z p) p in
      on (tell_deaths y p) y (on_told (λ x. Beside x y) (beside_deaths y) y p (beside_same y))
      (process_goes (threads_go z p) p (fold_keeps Left thread_goes (map seat_of (filter (λ (q : Thread). q.process == p) z.threads)) (λ x u l. goes x u) z h))

  -- ---- of every step

  left_deaths : KeptOnDeaths Left
  left_deaths = record {
    others = λ y ds h. on _ y (beside_fields y _ _ _ _ _ _ ds) h;
    dies = λ y p made h. on _ y (beside_owe y (OfProcess p) (work.Death made)) h;
    clears = λ y u cookie h. on _ y (beside_owe y (OfThread u) (work.Cleared cookie)) h;
  }

  module _ (fr : Framed s.steps s.frames) (paths : OnPaths s.steps s) where
    first : Left s
    first = begins fr

    seated : (p : ℕ) → thread_in (s.threads ++ record { made = s.steps; seat = seat; process = p; looping = false } ∷ []) t ≡ thread_in s.threads t
    seated p = find-append (λ (q : Thread). q.seat == t) s.threads _ ∙ none (seat == t) (not_eq seat t (λ e. other (sym e))) (thread_in s.threads t)
      where
        none : (b : Bool) → b ≡ false → (o : Option Thread) → option_or o (cond b (Some (record { made = s.steps; seat = seat; process = p; looping = false })) None) ≡ o
        none b e o = search arith

    sets_up : SetUp s seat Left
    unfolding with_thread with_process with_manager with_spam_detection
    sets_up = record {
      same = first;
      opened = λ pid euid window free. record { steps = refl; framed = first.framed; thread = inl (seated s.steps); calls = inl refl };
      attached = λ p free. record { steps = refl; framed = first.framed; thread = inl (seated p); calls = inl refl };
      managed = λ a e b. on _ s (beside_fields s _ _ _ _ _ _ _) first;
      marked = λ p o. on _ s (beside_fields s _ _ _ _ _ _ _) first;
    }

    all_changes : (x : Step) → Changes s seat x Left
    unfolding ask assign_numbers drop_asked acknowledge without_buffer
    all_changes x = record {
      transacts = λ a d parcel v e i c. transacts fr a i d v;
      replies = λ a d parcel f v e i g c. replies fr a i d f v g;
      frees = λ p ptr b e h. on _ s (beside_fields s _ _ _ _ _ _ _) first;
      asks = λ a n strong o i g c. on _ s (beside_fields s _ _ _ _ _ _ _) first;
      drops = λ p o strong. on _ s (beside_fields s _ _ _ _ _ _ _) first;
      acknowledges = λ o strong i. on _ s (beside_fields s _ _ _ _ _ _ _) first;
      loops = λ a looping i. loops fr a i looping;
      on_deaths = on_commands s Left (on_kept Left left_deaths s first);
      reads = λ a limit i e n. reads fr a i paths (limit - 4);
      leaves = λ a i. goes s a.thread.seat first;
      ends = λ a i. ends s a.process.made first;
      ripens = λ z h. on (ripen z) z (beside_ripen z) h;
    }

    whole : (x : Step) → KeepsWhole s seat x Left Left
    whole x = record {
      set_up = sets_up;
      changes = all_changes x;
      follows = λ z h. on (follow z) z (beside_follow z) h;
      refuses = λ u c. refuses fr u (refusal c);
      fails = λ a d parcel f e i g. subst (λ n. Left (reply_refused s n f)) (sym (is_seat fr a i)) (fails fr f (subst (λ n. served_innermost s n ≡ Some f) (is_seat fr a i) g));
      abandons = abandons;
    }

    -- Whatever the step of the other seat is, the thread is left as ready as it was, or reached.
    pub left_of : (x : Step) → Left (change s seat x).space
    left_of x = every_whole_step s seat x Left Left (whole x)
