-- For RepliesReachTheirCallers, and by it RepliesAnswerTheLatestOpenCall: the past of frames and of replies that are due:
-- what they have behind them, and one frame or reply more.
use Rattle.bd_laws.proofs.words.Logic.{◌≡◌, ℕ, ◌<◌, List, [], ◌∷◌, ◌++◌, length, Option, Some, Ok, inl, inr, refl, ap, sym, subst, ◌∙◌, append_assoc, length-append, arith, option_map}
use Rattle.bd_laws.proofs.words.Types.{TransactionData, Parcel, Command, Accepted, Entry, Thread, Work, Frame, Actor, Serving, OfThread}
use Rattle.bd_laws.proofs.words.Space.{Space, opening, actor, owe, goes_to, served_innermost, Delivery, completed, transaction_step, transaction_check, called, call_out, reply_step, reply_check, replied, command_step, change, after}
use Rattle.bd_uapi.specs.declared.command.Command.TheVariants as bc
use Rattle.bd_space.specs.declared.space.WorkKind.TheVariants as work
use Rattle.bd_todo.specs.TodoList.{reply_of}
use Rattle.bd_laws.specs.Lists.{In}
use Rattle.bd_laws.proofs.Lists.{in_push}
use Rattle.bd_laws.proofs.Checks.{actor_lives, actor_acts}
use Rattle.bd_audit.specs.Replies.{thread_made, Calls, TakesCall, AnswersCall, At}
use Rattle.bd_audit.proofs.RepliesReachTheirCallers.Quiet.{Quiet, with_work_quiet}

-- ---- places

pub at_more : (es fs : List Entry) (i : ℕ) (P : Space → Entry → Type 0) → At es i P → At (es ++ fs) i P
at_more es fs i P h =
    let k = h.2 in
    (h.0, h.1, record { rest = k.rest ++ fs; all = ap (λ xs. xs ++ fs) k.all ∙ append_assoc h.0 (h.1 ∷ k.rest) fs; at = k.at }, h.3)

pub at_here : (es : List Entry) (e : Entry) (P : Space → Entry → Type 0) → P (after opening es) e → At (es ++ e ∷ []) (length es) P
at_here es e P h = (es, e, record { rest = []; all = refl; at = refl }, h)

pub at_below : (es : List Entry) (i : ℕ) (P : Space → Entry → Type 0) → At es i P → i < length es
at_below es i P h = search (arith, length-append)

-- ---- the past of frames and replies

abbrev pub Called : List Entry → ℕ → ℕ → Type 0
Called es c m = At es c (λ z e. Calls z e m)

abbrev pub Handed : List Entry → ℕ → ℕ → Type 0
Handed es c m = (d : ℕ) × At es d (λ z e. TakesCall z e c m)

-- the reply made at b answers the call of the thread m
pub record Answers (es : List Entry) (b m : ℕ) : Type 0 where
  pub call : ℕ
  pub handed : ℕ
  pub server : ℕ
  pub called : Called es call m
  pub taken : At es handed (λ z e. TakesCall z e call server)
  pub replied : At es b (λ z e. AnswersCall z e call server)
  pub handed_next : handed < b

pub record Traced (es : List Entry) (z : Space) : Type 0 where
  pub below : (f : Frame) → In f z.frames → f.made < length es
  pub callers : (f : Frame) (t : ℕ) → In f z.frames → f.caller ≡ Some t → (m : ℕ) × (thread_made z t ≡ Some m) × Called es f.made m
  pub servers : (f : Frame) (t : ℕ) → In f z.frames → f.server ≡ Serving t → (m : ℕ) × (thread_made z t ≡ Some m) × Handed es f.made m
  pub replies : (w : Work) (b t : ℕ) → In w z.todo → reply_of w.kind ≡ Some b → w.list ≡ OfThread t → (m : ℕ) × (thread_made z t ≡ Some m) × Answers es b m

pub answers_more : (es fs : List Entry) (b m : ℕ) → Answers es b m → Answers (es ++ fs) b m
answers_more es fs b m h = record {
  call = h.call;
  handed = h.handed;
  server = h.server;
  called = at_more es fs h.call (λ z e. Calls z e m) h.called;
  taken = at_more es fs h.handed (λ z e. TakesCall z e h.call h.server) h.taken;
  replied = at_more es fs b (λ z e. AnswersCall z e h.call h.server) h.replied;
  handed_next = h.handed_next;
}

pub traced_more : (es fs : List Entry) (z : Space) → Traced es z → Traced (es ++ fs) z
traced_more es fs z h = record {
  below = λ f l. let lt = h.below f l in let a = length-append es fs in omega arith;
  callers = λ f t l e. let k = h.callers f t l e in (k.0, k.1, at_more es fs f.made (λ z e. Calls z e k.0) k.2);
  servers = λ f t l e. let k = h.servers f t l e in (k.0, k.1, (k.2.0, at_more es fs k.2.0 (λ z e. TakesCall z e f.made k.0) k.2.1));
  replies = λ w b t l e o. let k = h.replies w b t l e o in (k.0, k.1, answers_more es fs b k.0 k.2);
}

pub traced_quiet : (es : List Entry) (z y : Space) → Quiet z y → Traced es y → Traced es z
traced_quiet es z y k h = record {
  below = λ f l. let g = k.frames f l in let lt = h.below g.0 g.1 in let e = g.2.made in omega arith;
  callers = λ f t l e.
      let g = k.frames f l in
      let x = h.callers g.0 t g.1 (g.2.caller t e) in
      (x.0, k.threads t x.0 x.1 (inl (f, l, inl e)), subst (λ c. Called es c x.0) (sym g.2.made) x.2);
  servers = λ f t l e.
      let g = k.frames f l in
      let x = h.servers g.0 t g.1 (g.2.server t e) in
      (x.0, k.threads t x.0 x.1 (inl (f, l, inr e)), subst (λ c. Handed es c x.0) (sym g.2.made) x.2);
  replies = λ w b t l e o. let x = h.replies w b t (k.replies w b l e) e o in (x.0, k.threads t x.0 x.1 (inr (w, b, l, e, o)), x.2);
}

-- ---- accepted commands

module _ (s : Space) (seat : ℕ) (a : Actor) (d : TransactionData) (parcel : Option Parcel) (v : Delivery) (acts : actor s seat ≡ Some a) where
  pub transaction_accepted : transaction_check s a d parcel ≡ Ok v → (change s seat (Command (bc.Transaction d) parcel)).answer ≡ Accepted
  unfolding change command_step transaction_step
  transaction_accepted h = search arith

  module _ (f : Frame) (g : served_innermost s a.thread.seat ≡ Some f) (h : reply_check s a d parcel f ≡ Ok v) where
    pub reply_accepted : (change s seat (Command (bc.Reply d) parcel)).answer ≡ Accepted
    unfolding change command_step reply_step
    reply_accepted = search arith

    pub reply_space : (change s seat (Command (bc.Reply d) parcel)).space ≡ completed (replied s a d f v)
    unfolding change command_step reply_step
    reply_space = search arith

pub actor_made : (s : Space) (seat : ℕ) (a : Actor) → actor s seat ≡ Some a → (a.thread.seat ≡ seat) × (thread_made s seat ≡ Some a.thread.made)
actor_made s seat a h = ((actor_acts s seat a h).seat, ap (λ o. option_map (λ (t : Thread). t.made) o) (actor_lives s seat a h).0)

-- ---- one frame more, and one reply more

pub framed : (es : List Entry) (y : Space) (seat p m : ℕ) → Traced es y → thread_made y seat ≡ Some m → Called es y.steps m → y.steps < length es → Traced es (call_out y seat p)
unfolding call_out owe
framed es y seat p m h by called lt = record {
  below = λ f l. elim (in_push f _ y.frames l) [ inl i ↦ h.below f i | inr is ↦ (let e : y.steps ≡ f.made = ap (λ (x : Frame). x.made) is in omega arith) ];
  callers = λ f t l e. elim (in_push f _ y.frames l) [
    | inl i ↦ h.callers f t i e
    | inr is ↦ (
        let c : Some seat ≡ f.caller = ap (λ (x : Frame). x.caller) is in
        let same_seat : seat ≡ t = (let k : Some seat ≡ Some t = c ∙ e in cc) in
        (m, subst (λ n. thread_made y n ≡ Some m) same_seat by, subst (λ n. Called es n m) (ap (λ (x : Frame). x.made) is) called))
  ];
  servers = λ f t l e. search (arith, in_push, h.servers);
  replies = λ w b t l e. h.replies w b t (with_work_quiet y.steps y.todo (goes_to y seat p) (work.Call y.steps) refl w b l e) e;
}

pub answering : (es : List Entry) (y : Space) (t m n : ℕ) → Traced es y → thread_made y t ≡ Some m → Answers es n m → Traced es (owe y (OfThread t) (work.Reply n))
unfolding owe
answering es y t m n h by answer = record {
  below = h.below;
  callers = h.callers;
  servers = h.servers;
  replies = λ w b u l e o. elim (in_push w _ y.todo l) [
    | inl i ↦ h.replies w b u i e o
    | inr is ↦ (
        let k : Some n ≡ reply_of w.kind = ap (λ (x : Work). reply_of x.kind) is in
        let made : n ≡ b = (let j : Some n ≡ Some b = k ∙ e in cc) in
        let on : OfThread t ≡ w.list = ap (λ (x : Work). x.list) is in
        let seat : t ≡ u = (let j : OfThread t ≡ OfThread u = on ∙ o in cc) in
        (m, subst (λ x. thread_made y x ≡ Some m) seat by, subst (λ x. Answers es x m) made answer))
  ];
}
