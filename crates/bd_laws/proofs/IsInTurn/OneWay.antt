-- For SpacesAreTidy and the laws of one-way calls: a buffer that is due or handed out has no older rival.
use Rattle.bd_laws.proofs.words.Logic.{◌≡◌, ℕ, suc, ◌≤◌, ◌==◌, Bool, false, not, List, [], ◌∷◌, ◌++◌, Option, Some, None, ◌⊎◌, inl, inr, refl, ap, sym, subst, filter, arith, fold}
use Rattle.bd_laws.proofs.words.Types.{Buffer, Work, Item, TodoList, WorkKind, Actor, Frame, OfThread, OfProcess, TransactionData}
use Rattle.bd_laws.proofs.words.Space.{Space, with_work, hands_out, owe, is_on, is_notice, turn_of, follow, work_goes, still_due, assign_numbers, closed, Delivery, delivered, own_notices, add_buffer, with_carried, refer, make_objects, buffer_of, add_notice, withdraw_notice, transacted, call_out, replied, without_buffer, is_made_at, thread_goes, is_lost_with, without_process, tell_deaths, with_thread, with_looping}
use Rattle.bd_space.specs.declared.space.WorkKind.TheVariants as work
use Rattle.bd_laws.proofs.words.Laws.{In, Pairs, Due, Waits, InTurn}
use Rattle.bd_laws.proofs.Lists.{in_push, in_filter, pairs_map, pairs_filter, pairs_push}
use Rattle.bd_laws.proofs.Machine.Deaths.{OnDeaths}
use Rattle.bd_laws.proofs.Machine.Adding.{own_notices_keeps}
use Rattle.bd_laws.proofs.Machine.Table.{Table, Exits, Closing, followed_by, deaths_by, tell_deaths_by}
use Rattle.bd_laws.proofs.Machine.Fields.{sent_steps}

-- ---- a space with no more buffers, and no more that are due

pub record Less (z y : Space) : Type 0 where
  pub steps : z.steps ≡ y.steps
  pub buffers : (b : Buffer) → In b z.buffers → In b y.buffers
  pub pairs : (todo : List Work) → Pairs (Waits todo) y.buffers → Pairs (Waits todo) z.buffers
  pub due : (w : Work) (m : ℕ) → In w z.todo → hands_out w.kind ≡ Some m → In w y.todo

pub less_same : (z y : Space) → z.steps ≡ y.steps → z.buffers ≡ y.buffers → ((w : Work) (m : ℕ) → In w z.todo → hands_out w.kind ≡ Some m → In w y.todo) → Less z y
less_same z y e d k = record { steps = e; buffers = λ b l. subst (In b) d l; pairs = λ todo h. subst (Pairs (Waits todo)) (sym d) h; due = k }

pub less_trans : (z y x : Space) → Less z y → Less y x → Less z x
less_trans z y x h k = search (arith, k.steps, k.buffers, h.buffers, h.pairs, k.pairs, k.due, h.due)

pub more_steps : (n m : ℕ) (bs : List Buffer) (todo : List Work) → n ≤ m → InTurn n bs todo → InTurn m bs todo
more_steps n m bs todo le h = record {
  below = λ b l. let k = h.below b l in omega arith;
  fresh = λ i d. let k = h.fresh i d in omega arith;
  waits = h.waits;
}

pub waits_less : (todo more : List Work) → ((m : ℕ) → Due todo m → Due more m) → (b c : Buffer) → Waits more b c → Waits todo b c
waits_less todo more k b c h = record { earlier = h.earlier; alone = λ o r. h.alone (elim o [ inl t ↦ inl t | inr d ↦ inr (k c.made d) ]) r }

pub in_turn_less : (z y : Space) → Less z y → InTurn (suc y.steps) y.buffers y.todo → InTurn (suc z.steps) z.buffers z.todo
in_turn_less z y l h =
    let due : (m : ℕ) → Due z.todo m → Due y.todo m = λ m d. (d.0, l.due d.0 m d.1 d.2, d.2) in
    subst (λ n. InTurn (suc n) z.buffers z.todo) (sym l.steps) (record {
      below = λ b i. h.below b (l.buffers b i);
      fresh = λ m d. h.fresh m (due m d);
      waits = pairs_map (Waits y.todo) (Waits z.todo) z.buffers (λ b c i j w. waits_less z.todo y.todo due b c w) (l.pairs y.todo h.waits);
    })

-- ---- the parts of a step

-- one work item more that hands nothing over
pub with_work_less : (place : ℕ) (todo : List Work) (list : TodoList) (kind : WorkKind) → hands_out kind ≡ None
    → (w : Work) (m : ℕ) → In w (with_work place todo list kind) → hands_out w.kind ≡ Some m → In w todo
with_work_less place todo list kind none w m l e = search (arith, in_push)

pub owe_less : (z : Space) (list : TodoList) (kind : WorkKind) → hands_out kind ≡ None → Less (owe z list kind) z
unfolding owe
owe_less z list kind none = less_same _ z refl refl (with_work_less z.steps z.todo list kind none)

-- what still hands over was there
abbrev pub Fewer : List Work → List Work → Type 0
Fewer less todo = (w : Work) (m : ℕ) → In w less → hands_out w.kind ≡ Some m → In w todo

-- ---- a new buffer

waits_push : (n : ℕ) (bs : List Buffer) (todo more : List Work) (b : Buffer) → InTurn n bs more → b.made ≡ n → b.handed ≡ false → ((m : ℕ) → Due todo m → Due more m)
    → (c : Buffer) → In c bs → Waits todo c b
waits_push n bs todo more b h made handed k c l = record {
  earlier = let lt = h.below c l in omega arith;
  alone = λ o r. elim o [ inl t ↦ absurd (cc) | inr d ↦ (let lt = h.fresh b.made (k b.made d) in absurd (omega arith)) ];
}

pub in_turn_push : (n : ℕ) (bs : List Buffer) (todo more : List Work) (b : Buffer) → InTurn n bs more → b.made ≡ n → b.handed ≡ false → ((m : ℕ) → Due todo m → Due more m)
    → InTurn (suc n) (bs ++ b ∷ []) todo
in_turn_push n bs todo more b h made handed k = record {
  below = λ c l. elim (in_push c b bs l) [ inl i ↦ (let lt = h.below c i in omega arith) | inr e ↦ (let is : b.made ≡ c.made = ap (λ (x : Buffer). x.made) e in omega arith) ];
  fresh = λ m d. let lt = h.fresh m (k m d) in omega arith;
  waits = pairs_push (Waits todo) b bs (pairs_map (Waits more) (Waits todo) bs (λ x y i j w. waits_less todo more k x y w) h.waits) (waits_push n bs todo more b h made handed k);
}

-- a work item that hands over what is no one-way call
due_push : (place : ℕ) (todo : List Work) (list : TodoList) (kind : WorkKind) (n : ℕ) → hands_out kind ≡ Some n → (m : ℕ) → Due (with_work place todo list kind) m → Due todo m ⊎ (m ≡ n)
due_push place todo list kind n hands m d = search (arith, in_push)

pub in_turn_other : (place n : ℕ) (bs : List Buffer) (todo : List Work) (list : TodoList) (kind : WorkKind) → hands_out kind ≡ Some n
    → ((c : Buffer) → In c bs → c.made ≡ n → turn_of c ≡ None) → InTurn (suc n) bs todo → InTurn (suc n) bs (with_work place todo list kind)
in_turn_other place n bs todo list kind hands none h = record {
  below = h.below;
  fresh = λ m d. elim (due_push place todo list kind n hands m d) [ inl k ↦ h.fresh m k | inr e ↦ omega arith ];
  waits = pairs_map (Waits todo) (Waits (with_work place todo list kind)) bs (λ b c i j w. record {
    earlier = w.earlier;
    alone = λ o r. elim o [
      | inl t ↦ w.alone (inl t) r
      | inr d ↦ elim (due_push place todo list kind n hands c.made d) [
        | inl k ↦ w.alone (inr k) r
        | inr e ↦ (let no : turn_of c ≡ None = none c j e in let yes = r.3 in absurd (cc))
      ]
    ];
  }) h.waits;
}

-- ---- transactions and replies

pub own_notices_less : (z : Space) (seat : ℕ) (items : List Item) (w : Work) (m : ℕ)
    → In w (fold (add_notice z seat) (fold (withdraw_notice z.objects) z.todo items) items) → hands_out w.kind ≡ Some m → In w z.todo
unfolding own_notices
own_notices_less z seat items =
    own_notices_keeps (λ todo. Fewer todo z.todo) z seat items (λ todo o k w m l. k w m (in_filter (λ (w : Work). not (is_notice o w.kind)) w todo l).0)
    (λ todo o due. search (arith, with_work_less)) (λ w m l e. l)

pub delivered_due : (s : Space) (a : Actor) (d : TransactionData) (v : Delivery) → Fewer (delivered s a d v).todo s.todo
unfolding delivered own_notices add_buffer with_carried assign_numbers refer make_objects
delivered_due s a d v = own_notices_less (add_buffer (with_carried s v) (buffer_of (with_carried s v) a d v)) a.thread.seat v.sending.items

pub sent_due : (s : Space) (a : Actor) (d : TransactionData) (v : Delivery) (spam : Bool) → Fewer (owe (delivered s a d v) (OfThread a.thread.seat) (work.Complete spam)).todo s.todo
sent_due s a d v spam w m l e = delivered_due s a d v w m ((owe_less (delivered s a d v) (OfThread a.thread.seat) (work.Complete spam) refl).due w m l e) e

pub delivered_in_turn : (s : Space) (a : Actor) (d : TransactionData) (v : Delivery) → InTurn s.steps s.buffers s.todo
    → InTurn (suc (delivered s a d v).steps) (delivered s a d v).buffers (delivered s a d v).todo
unfolding delivered own_notices add_buffer with_carried assign_numbers refer make_objects
delivered_in_turn s a d v h =
    in_turn_push s.steps s.buffers (delivered s a d v).todo s.todo (buffer_of (with_carried s v) a d v) h refl refl
    (λ m due. (due.0, delivered_due s a d v due.0 m due.1 due.2, due.2))

-- the new buffer is no one-way call, if it isn't to be one
abbrev pub NoTurn : ℕ → List Buffer → Type 0
NoTurn n bs = (c : Buffer) → In c bs → c.made ≡ n → turn_of c ≡ None

calls_out : (z : Space) (seat p : ℕ) → NoTurn z.steps z.buffers → InTurn (suc z.steps) z.buffers z.todo
    → InTurn (suc (call_out z seat p).steps) (call_out z seat p).buffers (call_out z seat p).todo
unfolding call_out owe
calls_out z seat p none h = search (arith, in_turn_other)

module _ (s : Space) (a : Actor) (d : TransactionData) (v : Delivery) (spam : Bool) (h : InTurn s.steps s.buffers s.todo) where
  abbrev sent : Space
  sent = owe (delivered s a d v) (OfThread a.thread.seat) (work.Complete spam)

  sent_no_turn : v.one_way ≡ false → NoTurn sent.steps sent.buffers
  unfolding owe delivered own_notices add_buffer with_carried assign_numbers refer make_objects
  sent_no_turn one_way c l made = elim (in_push c _ s.buffers l) [
    | inl k ↦ (let lt = h.below c k in absurd (omega arith))
    | inr is ↦ subst (λ (x : Buffer). turn_of x ≡ None) is (search arith)
  ]

  sent_in_turn : InTurn (suc sent.steps) sent.buffers sent.todo
  sent_in_turn = in_turn_less sent (delivered s a d v) (owe_less (delivered s a d v) (OfThread a.thread.seat) (work.Complete spam) refl) (delivered_in_turn s a d v h)

pub transacted_in_turn : (s : Space) (a : Actor) (d : TransactionData) (v : Delivery) → InTurn s.steps s.buffers s.todo
    → InTurn (suc (transacted s a d v).steps) (transacted s a d v).buffers (transacted s a d v).todo
unfolding transacted
transacted_in_turn s a d v h = search (arith, calls_out, sent_no_turn, sent_in_turn)

answers : (n : ℕ) (z : Space) (caller : Option ℕ) → z.steps ≡ n → NoTurn z.steps z.buffers → InTurn (suc z.steps) z.buffers z.todo
    → (let y = elim caller as (λ (o : Option ℕ). Space) [ None ↦ z | Some t ↦ owe z (OfThread t) (work.Reply n) ] in InTurn (suc y.steps) y.buffers y.todo)
unfolding owe
answers n z None e none h = h
answers n z (Some t) e none h = in_turn_other z.steps z.steps z.buffers z.todo (OfThread t) (work.Reply n) (ap (λ m. Some m) (sym e)) none h

pub replied_in_turn : (s : Space) (a : Actor) (d : TransactionData) (f : Frame) (v : Delivery) → v.one_way ≡ false → InTurn s.steps s.buffers s.todo
    → InTurn (suc (replied s a d f v).steps) (replied s a d f v).buffers (replied s a d f v).todo
unfolding replied closed
replied_in_turn s a d f v one_way h =
    let x = closed s f.made in
    answers s.steps (sent x a d v false h) f.caller (sent_steps x a d v false) (sent_no_turn x a d v false h one_way) (sent_in_turn x a d v false h)

-- ---- what only goes

filtered_less : (z y : Space) (p : Buffer → Bool) → z.steps ≡ y.steps → z.buffers ≡ filter p y.buffers → ((w : Work) (m : ℕ) → In w z.todo → hands_out w.kind ≡ Some m → In w y.todo) → Less z y
filtered_less z y p e d k = search (arith, in_filter, pairs_filter)

-- what hands nothing over
abbrev pub HandsNothing : WorkKind → Type 0
HandsNothing kind = hands_out kind ≡ None

pub less_table : Table Less HandsNothing
unfolding with_thread with_looping without_buffer work_goes
less_table = record {
  same = search (arith, less_same);
  trans = less_trans;
  beside = λ z qs m os rs ns ds. less_same _ z refl refl (λ w n l e. l);
  seats = λ z seat p. less_same _ z refl refl (λ w m l e. l);
  loops = λ z t looping. less_same _ z refl refl (λ w m l e. l);
  frees = λ z made. filtered_less _ z (λ (b : Buffer). not (is_made_at made b)) refl refl (λ w m l e. l);
  owes = owe_less;
  sheds = λ z. less_same _ z refl refl (λ w m l e. (in_filter (λ (w : Work). still_due z.processes z.objects z.references z.deaths w.kind) w z.todo l).0);
  notice = λ o. refl;
  death = λ made. refl;
  clear = λ cookie. refl;
}

pub less_closes : Closing Less
unfolding closed
less_closes z made = less_same _ z refl refl (λ w m l e. l)

pub less_exits : Exits Less
unfolding thread_goes without_process
less_exits = record {
  goes = λ z seat. filtered_less _ z (λ (b : Buffer). not (is_lost_with z.todo (OfThread seat) b.made)) refl refl
      (λ w m l e. (in_filter (λ (x : Work). not (is_on (OfThread seat) x)) w z.todo l).0);
  rest = λ z p. filtered_less _ z (λ (b : Buffer). not (b.receiver == p)) refl refl (λ w m l e. (in_filter (λ (x : Work). not (is_on (OfProcess p) x)) w z.todo l).0);
}

pub follow_less : (z : Space) → Less (follow z) z
follow_less = followed_by Less HandsNothing less_table

pub on_deaths_less : (z : Space) → OnDeaths z (λ y. Less y z)
on_deaths_less = deaths_by Less HandsNothing less_table

pub tell_deaths_less : (z : Space) (p : ℕ) → Less (tell_deaths z p) z
tell_deaths_less = tell_deaths_by Less HandsNothing less_table
