-- For RepliesAreHandedOut and RepliesReachTheirCallers: each reply that is due has its buffer: not handed out yet, and in
-- the window of the process on whose thread's list it stands.
use Rattle.bd_laws.proofs.words.Logic.{arith, inl, inr, ◌≡◌, ℕ, suc, ◌-◌, ◌==◌, Bool, true, false, cond, not, List, [], ◌∷◌, Option, Some, refl, ap, sym, ◌∙◌, fold, list_any, eqb-true, eq-eqb}
use Rattle.bd_laws.proofs.words.Types.{Step, Entry, Thread, Buffer, Work, TodoList, OfThread, OfProcess}
use Rattle.bd_laws.proofs.words.Space.{Space, opening, is_on, same_list, is_item, list_to_read, ripen, follow, notify, work_goes, deaths_go, names_go, assign_numbers, objects_go, without_buffer, is_made_at, taken, read_by, buffer_taken, handed_buffers, thread_goes, is_lost_with, threads_go, without_process, tell_deaths, counted, with_thread, with_process, with_manager, ask, drop_asked, acknowledge, with_looping, after, next, with_spam_detection}
use Rattle.bd_space.specs.declared.space.WorkKind.TheVariants as work
use Rattle.bd_todo.specs.TodoList.{reply_of}
use Rattle.bd_laws.proofs.words.Laws.{In, IsInTurn}
use Rattle.bd_laws.proofs.Machine.EveryEnding.{SetUp}
use Rattle.bd_laws.proofs.Machine.EveryStep.{Keeps, every_step, every_list}
use Rattle.bd_laws.proofs.IsInTurn.Received.{one_made, one_buffer}
use Rattle.bd_laws.proofs.Lists.{in_left, in_filter, filter_in, changed_in, map_in, any_in}
use Rattle.bd_laws.proofs.Tests.{not_true}
use Rattle.bd_laws.proofs.IsInTurn.InTurn.{Turning, opening_in_turn}
use Rattle.bd_laws.proofs.IsInTurn.Ripening.{taken_due, read_in, turn_parts}
use Rattle.bd_laws.proofs.OnPaths.PathWords.{same_item}
use Rattle.bd_laws.proofs.Machine.Deaths.{tell_deaths_aside, on_mapped, on_both, on_commands, commands_both, on_deaths_aside}
use Rattle.bd_laws.proofs.IsInTurn.OneWay as one_way
use Rattle.bd_laws.proofs.IsInTurn.InTurn as turn
use Rattle.bd_laws.proofs.IsInTurn.Passing.{at_pointer_in, lost_on}
use Rattle.bd_laws.proofs.Machine.Following.{threads_keep}
use Rattle.bd_audit.proofs.RepliesAreHandedOut.BuffersSent.{Held, HasBuffer, RepliesHeld, has_moved, grown, calm, call_held, ripen_keeps_in, owed, transacts, closes, replies}

-- ---- one-way calls that become due

ripens : (z : Space) → Turning z → RepliesHeld z → RepliesHeld (ripen z)
unfolding ripen
ripens z turns =
    ripen_keeps_in (Held z.threads z.buffers) z (λ todo b t l turn h.
    let k = turn_parts b t turn in
    call_held z.threads z.buffers z.steps todo (OfProcess t.receiver) t.made (λ w i e.
    let x = h.buffer w t.made i e in
    let is : x.buffer ≡ b = one_made (suc z.steps) z.buffers z.todo turns x.buffer b x.here l (x.made ∙ k.0) in
    let yes : x.buffer.one_way ≡ true = ap (λ (y : Buffer). y.one_way) is ∙ k.3 in
    let no = x.two_way in absurd (cc)) h)

-- ---- what goes takes no buffer or thread of a reply with it that stays

remains : (z y : Space) → ((w : Work) → In w z.todo → In w y.todo)
    → ((w : Work) (b : ℕ) → In w z.todo → reply_of w.kind ≡ Some b → (x : HasBuffer y.threads y.buffers w.list b) → In x.buffer z.buffers × In x.thread z.threads) → RepliesHeld y → RepliesHeld z
remains z y was stay h = record {
  buffer = λ w b l e.
      let x = h.buffer w b (was w l) e in
      let k = stay w b l e x in
      has_moved y.threads z.threads y.buffers z.buffers w.list b x k.0 k.1;
  one = λ v w b i j. h.one v w b (was v i) (was w j);
}

-- a buffer that is freed was handed out
frees : (s : Space) (b : Buffer) → IsInTurn s → In b s.buffers → b.handed ≡ true → RepliesHeld s → RepliesHeld (without_buffer s b.made)
unfolding without_buffer
frees s b turns here out h =
    remains (without_buffer s b.made) s (λ w l. l) (λ w m l e x. (
      filter_in (λ (c : Buffer). not (is_made_at b.made c)) x.buffer s.buffers x.here (other x.buffer x.here x.handed (is_made_at b.made x.buffer) refl),
      x.lives,
    )) h
  where
    other : (c : Buffer) → In c s.buffers → c.handed ≡ false → (q : Bool) → is_made_at b.made c ≡ q → not q ≡ true
    other c i kept q k = search (arith, one_buffer, here, eqb-true)

-- a reading takes the item whose buffer it hands out
module _ (s : Space) (h : RepliesHeld s) (t : Thread) (left : ℕ) where
  abbrev ws : List Work
  ws = taken s left (list_to_read s t)

  abbrev stays : Work → Bool
  stays w = not (list_any (λ (d : Work). is_item w d) ws)

  unhanded : (o : Option Buffer) → buffer_taken s ws ≡ o → (w : Work) (b : ℕ) → In w s.todo → stays w ≡ true → reply_of w.kind ≡ Some b → (c : Buffer) → In c s.buffers → c.made ≡ b
      → In c (handed_buffers s.buffers o)
  unhanded o e w b l on f c i made = search (arith, changed_in, taken_due, eqb-true, read_in, any_in, same_item, not_true)

  reads : RepliesHeld (read_by s t.seat ws)
  unfolding read_by
  reads =
      remains (read_by s t.seat ws) s (λ w l. (in_filter stays w s.todo l).0) (λ w b l e x.
      let i = in_filter stays w s.todo l in (unhanded (buffer_taken s ws) refl w b i.0 i.1 e x.buffer x.here x.made, x.lives)) h

-- with a thread go the buffers that its own list would have handed over
module _ (z : Space) (seat : ℕ) (h : RepliesHeld z) where
  unlost : (w : Work) (b : ℕ) → In w z.todo → is_on (OfThread seat) w ≡ false → reply_of w.kind ≡ Some b → (q : Bool) → is_lost_with z.todo (OfThread seat) b ≡ q → not q ≡ true
  unlost w b l off e q k = search (arith, lost_on)

  other_seat : (l : TodoList) (u : ℕ) → l ≡ OfThread u → same_list (OfThread seat) l ≡ false → (q : Bool) → (u == seat) ≡ q → not q ≡ true
  other_seat l u on off q k = search (arith, eq-eqb, eqb-true)

  goes : RepliesHeld (thread_goes z seat)
  unfolding thread_goes
  goes =
      remains (thread_goes z seat) z (λ w l. (in_filter (λ (w : Work). not (is_on (OfThread seat) w)) w z.todo l).0) (λ w b l e x.
      let i = in_filter (λ (w : Work). not (is_on (OfThread seat) w)) w z.todo l in
      let off = not_true (is_on (OfThread seat) w) i.1 in (
        filter_in (λ (c : Buffer). not (is_lost_with z.todo (OfThread seat) c.made)) x.buffer z.buffers x.here
            (unlost w x.buffer.made i.0 off (e ∙ ap (λ n. Some n) (sym x.made)) (is_lost_with z.todo (OfThread seat) x.buffer.made) refl),
        filter_in (λ (t : Thread). not (t.seat == seat)) x.thread z.threads x.lives (other_seat w.list x.thread.seat x.on off (x.thread.seat == seat) refl),
      )) h

-- ---- with a process go the buffers that it received, and none of its threads is left

abbrev NoThread : ℕ → Space → Type 0
NoThread p z = (t : Thread) → In t z.threads → t.process ≡ p → ⊥

gone_in : (z : Space) (seat : ℕ) (t : Thread) → In t (thread_goes z seat).threads → In t z.threads × (t.seat ≡ seat → ⊥)
unfolding thread_goes
gone_in z seat t l = search (arith, in_filter, not_true, eq-eqb)

left_in : (seats : List ℕ) (z : Space) (t : Thread) → In t (fold thread_goes z seats).threads → In t z.threads × (In t.seat seats → ⊥)
left_in [] z t l = (l, λ i. absurd i)
left_in (n ∷ ns) z t l =
    let k = left_in ns (thread_goes z n) t l in
    let j = gone_in z n t k.0 in
    (j.0, λ i. elim i [ inl is ↦ j.1 (sym is) | inr r ↦ k.1 r ])

none_left : (s : Space) (p : ℕ) → NoThread p (threads_go s p)
unfolding threads_go
none_left s p t l e = search (arith, left_in, map_in, filter_in, eq-eqb)

process_goes : (z : Space) (p : ℕ) → NoThread p z → RepliesHeld z → RepliesHeld (without_process z p)
unfolding without_process
process_goes z p none h =
    remains (without_process z p) z (λ w l. (in_filter (λ (w : Work). not (is_on (OfProcess p) w)) w z.todo l).0) (λ w b l e x. (
      filter_in (λ (c : Buffer). not (c.receiver == p)) x.buffer z.buffers x.here (other x.buffer x.thread x.lives x.receiver (x.buffer.receiver == p) refl),
      x.lives,
    )) h
  where
    other : (c : Buffer) (t : Thread) → In t z.threads → t.process ≡ c.receiver → (q : Bool) → (c.receiver == p) ≡ q → not q ≡ true
    other c t l e true k = absurd (none t l (e ∙ eqb-true c.receiver p k))
    other c t l e false k = refl

ends : (z : Space) (p : ℕ) → RepliesHeld z → RepliesHeld (tell_deaths (without_process (threads_go z p) p) p)
ends z p h =
    let a = threads_go z p in
    let b = without_process a p in
    calm (tell_deaths b p) b (one_way.tell_deaths_less b p) (tell_deaths_aside b p).buffers (tell_deaths_aside b p).threads
    (process_goes a p (none_left z p) (threads_keep RepliesHeld (λ y seat k. goes y seat k) z p h))

-- ---- every step

-- A thread that attaches takes nothing from the buffers and threads that replies need.
attached : (z : Space) (seat p : ℕ) → RepliesHeld z → RepliesHeld (with_thread z seat p)
unfolding with_thread
attached z seat p h = grown (with_thread z seat p) z (record { due = λ w m l e. l; buffers = λ c l. l; threads = λ t l. (t, in_left t z.threads _ l, refl, refl) }) h

loops : (z : Space) (seat : ℕ) (looping : Bool) → RepliesHeld z → RepliesHeld (with_looping z seat looping)
unfolding with_looping
loops z seat looping h =
    grown (with_looping z seat looping) z (record {
      due = λ w m l e. l;
      buffers = λ c l. l;
      threads = λ t l.
          let k = at (t.seat == seat) t in
          (_, changed_in (λ (t : Thread). t.seat == seat) (λ (t : Thread). record t { looping = looping }) t z.threads l, k.0, k.1);
    }) h
  where
    at : (q : Bool) (t : Thread) → ((cond q (record t { looping = looping }) t).seat ≡ t.seat) × ((cond q (record t { looping = looping }) t).process ≡ t.process)
    at q t = search arith

abbrev Both : Space → Type 0
Both z = Turning z × RepliesHeld z

module _ (s : Space) (seat : ℕ) (x : Step) (turns : IsInTurn s) (h : RepliesHeld s) (k : Keeps s seat x Turning Turning) where
  set_up : SetUp s seat Turning → SetUp s seat Both
  unfolding with_process with_manager with_spam_detection
  set_up k = search (arith, attached)

  kept : Keeps s seat x Both Both
  unfolding ask assign_numbers drop_asked acknowledge follow notify work_goes deaths_go objects_go names_go
  kept = record {
    set_up = set_up k.set_up;
    changes = record {
      transacts = λ a d parcel v e i t. (k.changes.transacts a d parcel v e i t, transacts s a d v turns h);
      replies = λ a d parcel f v e i g t. (k.changes.replies a d parcel f v e i g t, replies s a d parcel f v turns t h);
      frees = λ p ptr b e t. (k.changes.frees p ptr b e t, frees s b turns (at_pointer_in s p ptr b e) t h);
      asks = λ a n strong o e i t. (k.changes.asks a n strong o e i t, h);
      drops = λ p o strong. (k.changes.drops p o strong, h);
      acknowledges = λ o strong i. (k.changes.acknowledges o strong i, h);
      loops = λ a looping e. (k.changes.loops a looping e, loops s a.thread.seat looping h);
      on_deaths = commands_both s _ _ k.changes.on_deaths (on_commands s _ (on_mapped s _ _ (λ y l. calm y s l.0 l.1.buffers l.1.threads h) (on_both s _ _ (one_way.on_deaths_less s) (on_deaths_aside s))));
      reads = λ a limit e i n. (k.changes.reads a limit e i n, reads s h a.thread (limit - 4));
      leaves = λ a e. (k.changes.leaves a e, goes s a.thread.seat h);
      ends = λ a e. (k.changes.ends a e, ends s a.process.made h);
      ripens = λ z b. (k.changes.ripens z b.0, ripens z b.0 b.1);
    };
    follows = λ z b. (k.follows z b.0, calm (follow z) z (one_way.follow_less z) refl refl b.1);
    closes = λ z made b. (k.closes z made b.0, closes z made b.1);
    refuses = λ z t r b. (k.refuses z t r b.0, owed z (OfThread t) (work.Refusal r) refl b.1);
    tells = λ z t r b. (k.tells z t r b.0, owed z (OfThread t) (work.Verdict r) refl b.1);
  }

abbrev IsHeld : Space → Type 0
IsHeld s = IsInTurn s × RepliesHeld s

step_held : (s : Space) (e : Entry) → IsHeld s → IsHeld (next s e)
unfolding counted
step_held s e h = every_step s e.seat e.step Both Both (kept s e.seat e.step h.0 h.1 (turn.kept s e.seat e.step h.0))

pub always_held : (es : List Entry) → RepliesHeld (after opening es)
always_held es = (every_list IsHeld step_held es opening (opening_in_turn, record { buffer = λ w b l e. absurd l; one = λ v w b i j e f. absurd i })).1
