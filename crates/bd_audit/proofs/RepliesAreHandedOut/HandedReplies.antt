-- For RepliesAreHandedOut and StreamsSpellTheirItems: what a reading hands out has a BR_REPLY exactly where the reading
-- takes a reply.
use Rattle.bd_laws.proofs.words.Logic.{arith, ◌≡◌, ℕ, ◌-◌, Bool, true, false, cond, not, List, [], ◌∷◌, ◌++◌, Option, Some, Result, inl, inr, refl, ap, subst, ◌∙◌, map, list_any, concat, flat_map, find, option_map, is_some, eq-eqb, list_any-append, map-append}
use Rattle.std.proofs.lemmas.List.Folds.{concat-append}
use Rattle.std.specs.Option.{option_to_list}
use Rattle.bd_laws.proofs.words.Types.{TransactionData, Return, Cause, Fault, Note, Parcel, Step, Open, Attach, SetManager, Command, Read, ExitThread, ExitProcess, StepAnswer, Got, Entry, Process, Object, Reference, Frame, Buffer, Work, Actor, DeathNotification, WorkKind, SetSpam}
use Rattle.bd_laws.proofs.words.Space.{Space, opening, actor, thread_in, process_with_pid, object_in, list_to_read, Delivery, transaction_step, transaction_outcome, reply_step, reply_to, reply_outcome, free_step, free_outcome, is_made_at, is_notification, command_step, read_taking, got, taken, buffer_taken, stream_of, bytes_read, buffer_in, data_of, returns_of, returns_of_object, exit_thread_step, exit_process_step, Outcome, by_check, change, open_step, open_outcome, open_fault, attach_step, attach_outcome, manager_step, manager_outcome, is_manager_busy, by_actor, History, IsHistory, Follows, after, spam_step}
use Rattle.bd_uapi.specs.declared.command.Command as command
use Rattle.bd_uapi.specs.declared.command.Return.TheVariants as br
use Rattle.bd_codec.specs.Spelling.{return_bytes}
use Rattle.bd_space.specs.declared.space.WorkKind.TheVariants as work
use Rattle.bd_todo.specs.TodoList.{reply_of, first_reply_in}
use Rattle.bd_laws.specs.Lists.{In}
use Rattle.bd_laws.proofs.Lists.{find_some}
use Rattle.bd_laws.proofs.Tests.{not_true}
use Rattle.bd_laws.proofs.IsInTurn.Ripening.{read_in}
use Rattle.bd_audit.specs.Hearing.{is_got}
use Rattle.bd_audit.specs.Replies.{items_taken, reply_taken, At}
use Rattle.bd_audit.specs.Streams.{SpellsItems}
use Rattle.bd_audit.specs.HandedReplies.{is_reply, HandsOut}
use Rattle.bd_audit.proofs.Beginnings.{follows_rest}
use Rattle.bd_audit.proofs.RepliesReachTheirCallers.Readings.{reading}
use Rattle.bd_audit.proofs.RepliesAreHandedOut.ReplyBuffers.{always_held}
use Rattle.bd_audit.proofs.RepliesAreHandedOut.BuffersSent.{RepliesHeld}
use Rattle.bd_audit.proofs.RepliesAreHandedOut.CarriedReturns.{is_plain, always_plain}

-- ---- the returns that one item gives

abbrev HasReply : List Return → Bool
HasReply rs = list_any is_reply rs

none_if : (b : Bool) (r : Return) → is_reply r ≡ false → HasReply (cond b (r ∷ []) []) ≡ false
none_if b r e = search arith

none_both : (xs ys : List Return) → HasReply xs ≡ false → HasReply ys ≡ false → HasReply (xs ++ ys) ≡ false
none_both xs ys h k = list_any-append is_reply xs ys ∙ rw (h, k) refl

notice_none : (references : List Reference) (o : Option Object) → HasReply (returns_of_object references o) ≡ false
notice_none references o = search (arith, none_both, none_if)

carried_none : (r : Return) → not (is_reply r) ≡ true → HasReply (r ∷ []) ≡ false
carried_none r h = rw (not_true (is_reply r) h) refl

one_none : {A : Type 0} (f : A → Return) (o : Option A) → ((x : A) → is_reply (f x) ≡ false) → HasReply (option_to_list (option_map f o)) ≡ false
one_none f o h = search (arith, none_if)

reply_is : (z : Space) (o : Option Buffer) → HasReply (option_to_list (option_map (λ (x : Buffer). br.Reply (data_of z x)) o)) ≡ is_some o
reply_is z o = search arith

-- a reply whose buffer lives gives a BR_REPLY, and no other item does
item_gives : (z : Space) (k : WorkKind) → is_plain k ≡ true → ((b : ℕ) → reply_of k ≡ Some b → is_some (buffer_in z.buffers b) ≡ true)
    → HasReply (returns_of z k) ≡ is_some (reply_of k)
unfolding returns_of
item_gives z (work.Notice o) p h = notice_none z.references (object_in z.objects o)
item_gives z (work.Complete false) p h = refl
item_gives z (work.Complete true) p h = refl
item_gives z (work.Refusal r) p h = carried_none r p
item_gives z (work.Call b) p h = one_none (λ (x : Buffer). br.Transaction (data_of z x)) (buffer_in z.buffers b) (λ x. refl)
item_gives z (work.Reply b) p h = reply_is z (buffer_in z.buffers b) ∙ h b refl
item_gives z (work.Verdict r) p h = carried_none r p
item_gives z (work.Death n) p h = one_none (λ (x : DeathNotification). br.DeadBinder x.cookie) (find (is_notification n) z.deaths) (λ x. refl)
item_gives z (work.Cleared cookie) p h = refl

-- ---- the returns of a reading

abbrev returns_of_all : Space → List Work → List Return
returns_of_all z ws = flat_map (λ (w : Work). returns_of z w.kind) ws

spells : (z : Space) (ws : List Work) → concat (map (bytes_read z) ws) ≡ concat (map return_bytes (returns_of_all z ws))
spells z [] = refl
spells z (w ∷ ws) = search (arith, map-append, concat-append, spells z ws)

all_give : (z : Space) (ws : List Work) → ((w : Work) → In w ws → HasReply (returns_of z w.kind) ≡ is_some (reply_of w.kind))
    → HasReply (returns_of_all z ws) ≡ is_some (first_reply_in ws)
all_give z [] h = refl
all_give z (w ∷ ws) h = search (arith, list_any-append, h w (inl refl), all_give z ws (λ v l. h v (inr l)))

-- ---- only a reading answers with bytes

abbrev IsSilent : Outcome → Type 0
IsSilent o = is_got o.answer ≡ false

acts_silent : (s : Space) (o : Option Actor) (f : Actor → Outcome) → ((a : Actor) → IsSilent (f a)) → IsSilent (by_actor s o f)
acts_silent s o f h = search arith

transaction_silent : (s : Space) (a : Actor) (d : TransactionData) (r : Result Delivery Cause) → IsSilent (transaction_outcome s a d r)
transaction_silent s a d r = search arith

reply_silent : (s : Space) (a : Actor) (d : TransactionData) (f : Frame) (r : Result Delivery Cause) → IsSilent (reply_outcome s a d f r)
reply_silent s a d f r = search arith

reply_to_silent : (s : Space) (a : Actor) (d : TransactionData) (parcel : Option Parcel) (o : Option Frame) → IsSilent (reply_to s a d parcel o)
reply_to_silent s a d parcel o = search (arith, reply_silent)

free_silent : (s : Space) (o : Option Buffer) → IsSilent (free_outcome s o)
free_silent s o = search arith

check_silent : {A : Type 0} (s : Space) (f : A → Space) (r : Result A Note) → IsSilent (by_check s f r)
check_silent s f r = search arith

command_silent : (s : Space) (a : Actor) (c : command.Command) (parcel : Option Parcel) → IsSilent (command_step s a c parcel)
unfolding command_step transaction_step reply_step free_step
command_silent s a c parcel = search (arith, transaction_silent, reply_to_silent, free_silent, check_silent)

open_silent : (s : Space) (seat pid euid window : ℕ) (o : Option Fault) → IsSilent (open_outcome s seat pid euid window o)
open_silent s seat pid euid window o = search arith

attach_silent : (s : Space) (seat : ℕ) (q : Option Process) (b : Bool) → IsSilent (attach_outcome s seat q b)
attach_silent s seat q b = search arith

manager_silent : (s : Space) (p : ℕ) (b : Bool) → IsSilent (manager_outcome s p b)
manager_silent s p b = search arith

-- ---- the bytes that a reading answers are those of the items that it takes

record GotOf (z : Space) (ws : List Work) (stream : List ℕ) : Type 0 where
  stream_is : stream ≡ stream_of z ws
  due : (w : Work) → In w ws → In w z.todo

module _ (z : Space) (seat : ℕ) (stream bytes offsets : List ℕ) where
  not_silent : {A : Type 0} (y : StepAnswer) → is_got y ≡ false → y ≡ Got stream bytes offsets → A
  not_silent y h e = let yes : is_got y ≡ true = ap is_got e in absurd (cc)

  gives : (own : List ℕ) (o : Option Buffer) → got own o ≡ Got stream bytes offsets → stream ≡ own
  gives own o e = search arith

  got_of : (x : Step) → (change z seat x).answer ≡ Got stream bytes offsets → GotOf z (items_taken z seat x) stream
  unfolding read_taking change open_step attach_step manager_step spam_step exit_thread_step exit_process_step
  got_of (Open pid euid window) e = not_silent _ (open_silent z seat pid euid window (open_fault z seat pid window)) e
  got_of (Attach pid) e = not_silent _ (attach_silent z seat (process_with_pid z.processes pid) (is_some (thread_in z.threads seat))) e
  got_of SetManager e = not_silent _ (acts_silent z (actor z seat) (manager_step z) (λ a. manager_silent z a.process.made (is_manager_busy z a.process.made))) e
  got_of (SetSpam on) e = not_silent _ (acts_silent z (actor z seat) (spam_step z on) (λ a. refl)) e
  got_of (Command c parcel) e = not_silent _ (acts_silent z (actor z seat) (λ a. command_step z a c parcel) (λ a. command_silent z a c parcel)) e
  got_of (Read limit) e =
      reading (λ ws o. o.answer ≡ Got stream bytes offsets → GotOf z ws stream) z (λ f e. absurd (cc)) seat limit
      (λ a acts e. let ws = taken z (limit - 4) (list_to_read z a.thread) in record { stream_is = gives (stream_of z ws) (buffer_taken z ws) e; due = read_in z a.thread (limit - 4) }) e
  got_of ExitThread e = not_silent _ (acts_silent z (actor z seat) (exit_thread_step z) (λ a. refl)) e
  got_of ExitProcess e = not_silent _ (acts_silent z (actor z seat) (exit_process_step z) (λ a. refl)) e

-- ---- the law

held_lives : (z : Space) → RepliesHeld z → (w : Work) (b : ℕ) → In w z.todo → reply_of w.kind ≡ Some b → is_some (buffer_in z.buffers b) ≡ true
held_lives z h w b l e = let x = h.buffer w b l e in find_some (is_made_at b) x.buffer z.buffers x.here (eq-eqb x.buffer.made b x.made)

module _ (h : History) (lawful : IsHistory h) (i : ℕ) (stream bytes offsets : List ℕ) (at : At h.entries i (λ z e. e.answer ≡ Got stream bytes offsets)) where
  abbrev z : Space
  z = after opening at.0

  abbrev e : Entry
  e = at.1

  gotten : GotOf z (items_taken z e.seat e.step) stream
  gotten =
      let stands = at.2 in
      let follows = (follows_rest opening at.0 (e ∷ stands.rest) (subst (Follows opening) stands.all lawful.follows)).0 in
      got_of z e.seat stream bytes offsets e.step (follows.answer ∙ at.3)

  spells_items : SpellsItems z e stream
  unfolding stream_of
  spells_items = gotten.stream_is ∙ ap (λ l. return_bytes br.Noop ++ l) (spells z (items_taken z e.seat e.step))

  pub spelt : At h.entries i (λ z e. SpellsItems z e stream)
  spelt = (at.0, e, at.2, spells_items)

  pub handed_out : At h.entries i (λ z e. HandsOut z e stream)
  unfolding reply_taken
  handed_out = (
    at.0,
    e,
    at.2,
    record {
      spelt = spells_items;
      replies = all_give z (items_taken z e.seat e.step)
          (λ w l. item_gives z w.kind (always_plain at.0 w (gotten.due w l)) (λ b k. held_lives z (always_held at.0) w b (gotten.due w l) k));
    },
  )
