-- For RepliesReachTheirCallers, and by it RepliesAnswerTheLatestOpenCall: what the frames of a history and the replies that
-- are due have behind them.
use Rattle.bd_laws.proofs.words.Logic.{◌≡◌, ℕ, ◌-◌, Bool, true, false, cond, not, List, [], ◌∷◌, ◌++◌, length, Option, Some, None, Ok, refl, ap, sym, subst, ◌∙◌, length-append, arith, list_any, eqb-true, eq-eqb}
use Rattle.bd_laws.proofs.words.Types.{TransactionData, Parcel, Command, Read, Entry, Work, Frame, Actor, Serving, OfThread}
use Rattle.bd_laws.proofs.words.Space.{changed, Space, opening, actor, owe, is_call, list_to_read, is_item, closed, is_frame, innermost, served_innermost, is_deepest_in, ripen, Delivery, delivered, completed, transaction_check, transacted, called, is_one_way, reply_check, replied, taken, read_by, serve, read_fault, change, counted, after, next, is_spam}
use Rattle.bd_uapi.specs.declared.command.Command.TheVariants as bc
use Rattle.bd_space.specs.declared.space.WorkKind.TheVariants as work
use Rattle.bd_laws.specs.Lists.{In}
use Rattle.bd_laws.proofs.Machine.EveryStep.{Keeps, every_step}
use Rattle.bd_laws.proofs.Lists.{in_filter, in_changed, find_in, any_found, by_last}
use Rattle.bd_laws.proofs.Tests.{not_true}
use Rattle.bd_laws.proofs.Checks.{transaction_checked}
use Rattle.bd_laws.proofs.OnPaths.PathWords.{served_is}
use Rattle.bd_audit.specs.Replies.{made_in, thread_made, items_taken, frame_of, Calls, TakesCall, AnswersCall}
use Rattle.bd_audit.proofs.Beginnings.{after_append}
use Rattle.bd_laws.proofs.Machine.Steps.{always_steps}
use Rattle.bd_laws.proofs.Machine.Table.{keeps_by}
use Rattle.bd_audit.proofs.RepliesAreHandedOut.BuffersSent.{told_when}
use Rattle.bd_audit.proofs.RepliesReachTheirCallers.Quiet.{sent_quiet, answered_quiet, ripen_quiet, completed_quiet, NotReply, quiet_table, quiet_exits, quiet_closes, Quiet}
use Rattle.bd_laws.proofs.Machine.Fields.{closed_threads, sent_threads, told_frames, serve_made}
use Rattle.bd_audit.proofs.RepliesReachTheirCallers.Traces.{at_more, at_here, at_below, Called, Handed, Answers, Traced, traced_more, traced_quiet, transaction_accepted, reply_accepted, reply_space, actor_made, framed, answering}

-- ---- one entry more

pub absent : (c : ℕ) (frames : List Frame) → ((g : Frame) → In g frames → g.made ≡ c → ⊥) → list_any (is_frame c) frames ≡ false
absent c frames h = search (arith, any_found, eqb-true)

pub closed_absent : (z : Space) (c : ℕ) (g : Frame) → In g (closed z c).frames → g.made ≡ c → ⊥
unfolding closed
closed_absent z c g l e = search (arith, not_true, in_filter, eq-eqb)

replied_absent : (s : Space) (a : Actor) (d : TransactionData) (f : Frame) (v : Delivery) (g : Frame) → In g (replied s a d f v).frames → g.made ≡ f.made → ⊥
unfolding replied
replied_absent s a d f v g l e =
    let x = closed s f.made in
    let y = owe (delivered x a d v) (OfThread a.thread.seat) (work.Complete false) in
    let k = (sent_quiet x a d v false).frames g (subst (In g) (told_frames y f.caller (work.Reply s.steps)) l) in
    closed_absent s f.made k.0 k.1 (sym k.2.made ∙ e)

module _ (es : List Entry) (e : Entry) (h : Traced es (after opening es)) where
  abbrev s : Space
  s = after opening es

  abbrev more : List Entry
  more = es ++ e ∷ []

  now : Traced more s
  now = traced_more es (e ∷ []) s h

  quietly : (z : Space) → Quiet z s → Traced more z
  quietly z q = traced_quiet more z s q now

  module _ (a : Actor) (acts : actor s e.seat ≡ Some a) where
    own_made : thread_made s a.thread.seat ≡ Some a.thread.made
    own_made = let k = actor_made s e.seat a acts in subst (λ n. thread_made s n ≡ Some a.thread.made) (sym k.0) k.1

    -- ---- a call

    calls : (d : TransactionData) (parcel : Option Parcel) (v : Delivery) → e.step ≡ Command (bc.Transaction d) parcel → transaction_check s a d parcel ≡ Ok v → is_one_way d ≡ false
        → Calls s e a.thread.made
    calls d parcel v x t two_way = search (arith, actor_made, change, transaction_accepted)

    transacted_traced : (d : TransactionData) (parcel : Option Parcel) (v : Delivery) → e.step ≡ Command (bc.Transaction d) parcel → transaction_check s a d parcel ≡ Ok v
        → Traced more (transacted s a d v)
    unfolding transacted
    transacted_traced d parcel v x t = at v.one_way refl
      where
        spam : Bool
        spam = is_spam (delivered s a d v) a v

        at : (b : Bool) → v.one_way ≡ b → Traced more (called (owe (delivered s a d v) (OfThread a.thread.seat) (work.Complete spam)) a.thread.seat v.receiver.made b)
        at true f = quietly _ (sent_quiet s a d v spam)
        at false f =
            let y = owe (delivered s a d v) (OfThread a.thread.seat) (work.Complete spam) in
            let q = sent_quiet s a d v spam in
            let steps : y.steps ≡ length es = q.steps ∙ always_steps es in
            let two_way : is_one_way d ≡ false = sym (transaction_checked s a d parcel v t).one_way ∙ f in
            framed more y a.thread.seat v.receiver.made a.thread.made (quietly y q) (ap (λ ts. made_in ts a.thread.seat) (sent_threads s a d v spam) ∙ own_made)
            (subst (λ n. Called more n a.thread.made) (sym steps) (at_here es e (λ z e. Calls z e a.thread.made) (calls d parcel v x t two_way)))
            (let l = length-append es (e ∷ []) in omega arith)

    -- ---- a reply

    module _ (d : TransactionData) (parcel : Option Parcel) (f : Frame) (v : Delivery) (x : e.step ≡ Command (bc.Reply d) parcel)
        (g : served_innermost s a.thread.seat ≡ Some f) (t : reply_check s a d parcel f ≡ Ok v) where
      in_frames : In f s.frames
      in_frames = (find_in (is_deepest_in s.frames a.thread.seat) f s.frames (served_is s a.thread.seat f g).0).0

      closes : list_any (is_frame f.made) (next s e).frames ≡ false
      unfolding counted
      closes =
          let space = ap (λ y. (change s e.seat y).space) x ∙ reply_space s e.seat a d parcel v acts f g t in
          absent f.made (change s e.seat e.step).space.frames (λ k l m.
          let i : In k (completed (replied s a d f v)).frames = subst (λ (z : Space). In k z.frames) space l in
          let j = (completed_quiet (replied s a d f v)).frames k i in
          replied_absent s a d f v j.0 j.1 (sym j.2.made ∙ m))

      frame_innermost : frame_of s e ≡ Some f.made
      unfolding frame_of innermost
      frame_innermost = search (arith, actor_made, served_is)

      server : (n : ℕ) × (thread_made s a.thread.seat ≡ Some n) × Handed es f.made n
      server = h.servers f a.thread.seat in_frames (served_is s a.thread.seat f g).1

      answers_call : AnswersCall s e f.made server.0
      answers_call = search (arith, server, actor_made, change, reply_accepted, frame_innermost, closes)

      answer : (m : ℕ) → Called es f.made m → Answers more (length es) m
      answer m called = record {
        call = f.made;
        handed = server.2.0;
        server = server.0;
        called = at_more es (e ∷ []) f.made (λ z e. Calls z e m) called;
        taken = at_more es (e ∷ []) server.2.0 (λ z e. TakesCall z e f.made server.0) server.2.1;
        replied = at_here es e (λ z e. AnswersCall z e f.made server.0) answers_call;
        handed_next = at_below es server.2.0 (λ z e. TakesCall z e f.made server.0) server.2.1;
      }

      replied_traced : Traced more (replied s a d f v)
      unfolding replied
      replied_traced =
          let y = owe (delivered (closed s f.made) a d v) (OfThread a.thread.seat) (work.Complete false) in
          let threads : y.threads ≡ s.threads = sent_threads (closed s f.made) a d v false ∙ closed_threads s f.made in
          told_when (Traced more) (work.Reply s.steps) y f.caller (λ u k traced.
          let c = h.callers f u in_frames k in
          answering more y u c.0 s.steps traced (ap (λ ts. made_in ts u) threads ∙ c.1)
          (subst (λ n. Answers more n c.0) (sym (always_steps es)) (answer c.0 c.2))) (quietly y (answered_quiet s a d f v))

    -- ---- a reading

    module _ (limit : ℕ) (x : e.step ≡ Read limit) (n : read_fault limit (list_to_read s a.thread) ≡ None) where
      abbrev items : List Work
      items = taken s (limit - 4) (list_to_read s a.thread)

      pub takes_items : items_taken s e.seat e.step ≡ items
      takes_items = search arith

      serve_caller : (b : Bool) (f : Frame) → (cond b (serve a.thread.seat f) f).caller ≡ f.caller
      serve_caller b f = search arith

      serve_server : (b : Bool) (f : Frame) (t : ℕ) → list_any (λ (w : Work). is_call f.made w.kind) items ≡ b → In f s.frames → (cond b (serve a.thread.seat f) f).server ≡ Serving t
          → (m : ℕ) × (thread_made s t ≡ Some m) × Handed more f.made m
      serve_server false f t b l k = now.servers f t l k
      serve_server true f t b l k =
          let same_seat : a.thread.seat ≡ t = (let j : Serving a.thread.seat ≡ Serving t = k in cc) in
          let takes : TakesCall s e f.made a.thread.made = record { by = (actor_made s e.seat a acts).1; taken = ap (λ ws. list_any (λ (w : Work). is_call f.made w.kind) ws) takes_items ∙ b } in (
            a.thread.made,
            subst (λ u. thread_made s u ≡ Some a.thread.made) same_seat own_made,
            (length es, at_here es e (λ z e. TakesCall z e f.made a.thread.made) takes),
          )

      read_traced : Traced more (read_by s a.thread.seat items)
      unfolding read_by
      read_traced = record {
        below = λ f l. let g = was f l in let lt = now.below g.0 g.1 in let made = g.2 in omega arith;
        callers = λ f t l k. let g = was f l in let c = now.callers g.0 t g.1 (sym g.3 ∙ k) in (c.0, c.1, subst (λ i. Called more i c.0) (sym g.2) c.2);
        servers = λ f t l k. let g = was f l in let c = serve_server (served g.0) g.0 t refl g.1 (sym g.4 ∙ k) in (c.0, c.1, subst (λ i. Handed more i c.0) (sym g.2) c.2);
        replies = λ w b t l k o. now.replies w b t (in_filter (λ (w : Work). not (list_any (λ (d : Work). is_item w d) items)) w s.todo l).0 k o;
      }
        where
          served : Frame → Bool
          served g = list_any (λ (w : Work). is_call g.made w.kind) items

          was : (f : Frame) → In f (changed (λ f. list_any (λ w. is_call f.made w.kind) items) (serve a.thread.seat) s.frames)
              → (g : Frame) × In g s.frames × (f.made ≡ g.made) × (f.caller ≡ g.caller) × (f.server ≡ (cond (list_any (λ (w : Work). is_call g.made w.kind) items) (serve a.thread.seat g) g).server)
          was f l =
              let g = in_changed (λ (g : Frame). list_any (λ (w : Work). is_call g.made w.kind) items) (serve a.thread.seat) f s.frames l in (
                g.0,
                g.1,
                ap (λ (y : Frame). y.made) g.2 ∙ serve_made a.thread.seat (served g.0) g.0,
                ap (λ (y : Frame). y.caller) g.2 ∙ serve_caller (served g.0) g.0,
                ap (λ (y : Frame). y.server) g.2,
              )

  pub kept : Keeps s e.seat e.step (Traced more) (Traced more)
  kept = keeps_by Quiet NotReply quiet_table s e.seat e.step (Traced more) quietly quiet_exits quiet_closes (traced_quiet more) (λ r. refl) (λ r. refl) (record {
    transacts = λ a d parcel v x i t. transacted_traced a i d parcel v x t;
    replies = λ a d parcel f v x i g t. replied_traced a i d parcel f v x g t;
    reads = λ a limit i x n. read_traced a i limit x n;
    ripens = λ z. traced_quiet more (ripen z) z (ripen_quiet z);
  })

  counted_traced : (z : Space) → Traced more z → Traced more (counted z)
  unfolding counted
  counted_traced z k = record { below = k.below; callers = k.callers; servers = k.servers; replies = k.replies }

  step_traced : Traced more (after opening more)
  step_traced = search (arith, after_append, counted_traced, change, every_step, kept)

opening_traced : Traced [] opening
opening_traced = record { below = λ f l. absurd l; callers = λ f t l e. absurd l; servers = λ f t l e. absurd l; replies = λ w b t l e o. absurd l }

pub always_traced : (es : List Entry) → Traced es (after opening es)
always_traced es = by_last (λ es. Traced es (after opening es)) step_traced opening_traced es
