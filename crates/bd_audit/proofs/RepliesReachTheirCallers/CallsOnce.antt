-- For RepliesReachTheirCallers: a call is handed out once: of each call that is due there is one item, and after that is
-- taken none comes.
use Rattle.bd_laws.proofs.words.Logic.{◌≡◌, ℕ, Bool, true, false, not, List, Option, Some, None, ◌⊎◌, inl, inr, refl, ap, sym, subst, ◌∙◌, list_any, eqb-true, arith, ◌-◌, ◌<◌}
use Rattle.bd_laws.proofs.words.Types.{TransactionData, Identity, Step, Entry, Actor, Buffer, Work, OfThread, Command, Read}
use Rattle.bd_laws.proofs.words.Space.{Space, owe, is_call, is_item, closed, ripen, follow, Delivery, delivered, transacted, called, call_out, replied, read_by, change, opening, list_to_read, is_one_way, taken, read_taking, counted, after, next}
use Rattle.bd_laws.proofs.words.Laws.{In, On, Before, IsTidy}
use Rattle.bd_laws.proofs.Machine.EveryStep.{Keeps, every_step}
use Rattle.bd_laws.proofs.Machine.Fields.{sent_steps}
use Rattle.bd_laws.proofs.Machine.Table.{set_up_by, changes_by}
use Rattle.bd_laws.proofs.Lists.{in_push, in_filter, any_found, any_in}
use Rattle.bd_laws.proofs.IsInTurn.OneWay.{HandsNothing, less_table, less_exits, less_closes, Less, owe_less}
use Rattle.bd_laws.proofs.IsInTurn.Ripening.{turn_parts, read_in}
use Rattle.bd_laws.proofs.IsInTurn.InTurn.{is_call_hands}
use Rattle.bd_laws.proofs.IsInTurn.Passed.{After, untouched_after, follow_after}
use Rattle.bd_audit.proofs.RepliesAreHandedOut.BuffersSent.{ripen_keeps_in}
use Rattle.bd_laws.proofs.IsInTurn.OneWay.{sent_due}
use Rattle.bd_laws.proofs.Tests.{not_true, call_kind}
use Rattle.bd_laws.proofs.IsInTurn.Passing.{step_passes}
use Rattle.bd_laws.proofs.IsInTurn.Received.{on_before}
use Rattle.bd_laws.proofs.OnPaths.PathWords.{same_item}
use Rattle.bd_audit.specs.Replies.{items_taken, HandsOutCall, Calls, At}
use Rattle.bd_laws.proofs.Machine.Steps.{always_steps}
use Rattle.bd_audit.proofs.TurnsAreTaken.CallItems.{step_treats}
use Rattle.bd_audit.proofs.TurnsAreTaken.CallItemsKept.{fresh_once}
use Rattle.bd_audit.proofs.TurnsTellOfCalls.CallsOut.{items_due}
use Rattle.bd_audit.proofs.TurnsTellOfCalls.TurnsTelling.{handed_later}
use Rattle.bd_audit.proofs.RepliesReachTheirCallers.Places.{later_place}
use Rattle.bd_audit.proofs.RepliesReachTheirCallers.Readings.{reading}
use Rattle.bd_space.specs.declared.space.WorkKind.TheVariants as work
use Rattle.bd_laws.proofs.Machine.Untouched as untouched
use Rattle.bd_laws.proofs.Always.{tidy_after}
use Rattle.bd_uapi.specs.declared.command.Command.TheVariants as bc

-- ---- a call that is due was due before the step, or the step makes it, or it is a one-way call

-- the item of a call that is due
abbrev pub IsDue : ℕ → List Work → Work → Type 0
IsDue m todo w = In w todo × (is_call m w.kind ≡ true)

-- the buffer made at m is a one-way call's
abbrev pub HasTurn : ℕ → List Buffer → Type 0
HasTurn m buffers = (b : Buffer) × (o : Identity) × In b buffers × (b.made ≡ m) × On o b

abbrev Called : Space → ℕ → List Buffer → List Work → Type 0
Called s m buffers todo = (w : Work) → IsDue m todo w → In w s.todo ⊎ ((m ≡ s.steps) ⊎ HasTurn m buffers)

pub record CalledIn (s : Space) (m : ℕ) (z : Space) : Type 0 where
  pub from : Called s m z.buffers z.todo

module _ (s : Space) (m : ℕ) where
  from_due : (z : Space) → ((w : Work) → IsDue m z.todo w → In w s.todo) → CalledIn s m z
  from_due z due = record { from = λ w i. inl (due w i) }

  from_less : (z : Space) → Less z s → CalledIn s m z
  from_less z l = from_due z (λ w i. l.due w m i.0 (is_call_hands m w.kind i.1))

  goes_on : (z y : Space) → After z y → CalledIn s m y → CalledIn s m z
  goes_on z y a h = search (arith, a.due, is_call_hands, h.from)

  was_sent : (y : Space) (a : Actor) (d : TransactionData) (v : Delivery) (spam : Bool) (w : Work)
      → IsDue m (owe (delivered y a d v) (OfThread a.thread.seat) (work.Complete spam)).todo w → In w y.todo
  was_sent y a d v spam w i = sent_due y a d v spam w m i.0 (is_call_hands m w.kind i.1)

  calls : (y : Space) (seat p : ℕ) (one_way : Bool) → y.steps ≡ s.steps → ((w : Work) → IsDue m y.todo w → In w s.todo) → CalledIn s m (called y seat p one_way)
  unfolding call_out owe
  calls y seat p one_way steps due = search (arith, in_push, eqb-true, due)

  answers : (y : Space) (caller : Option ℕ) → ((w : Work) → IsDue m y.todo w → In w s.todo)
      → CalledIn s m (elim caller as (λ (o : Option ℕ). Space) [ None ↦ y | Some t ↦ owe y (OfThread t) (work.Reply s.steps) ])
  unfolding owe
  answers y caller due = search (arith, in_push, due)

  ripens : (z : Space) → CalledIn s m z → CalledIn s m (ripen z)
  unfolding ripen
  ripens z h = record { from = ripen_keeps_in (Called s m z.buffers) z (λ todo b t l turn k w i. search (arith, in_push, eqb-true, turn_parts, k)) h.from }

  calling : (seat : ℕ) (x : Step) → Keeps s seat x (CalledIn s m) (CalledIn s m)
  unfolding transacted replied closed read_by
  calling seat x = record {
    set_up = set_up_by Less HandsNothing less_table s seat x (CalledIn s m) from_less;
    changes = changes_by Less HandsNothing less_table s seat x (CalledIn s m) from_less less_exits (record {
      transacts = λ a d parcel v e i t. calls _ a.thread.seat v.receiver.made v.one_way (sent_steps s a d v _) (was_sent s a d v _);
      replies = λ a d parcel f v e i g t. answers _ f.caller (was_sent (closed s f.made) a d v false);
      reads = λ a limit e i n. from_due _ (λ w l. (in_filter (λ (w : Work). not (list_any (λ (d : Work). is_item w d) (taken s (limit - 4) (list_to_read s a.thread)))) w s.todo l.0).0);
      ripens = ripens;
    });
    follows = λ z. goes_on (follow z) z (follow_after z);
    closes = λ z made. goes_on (closed z made) z (untouched_after _ z (untouched.closed_untouched z made) (less_closes z made));
    refuses = λ z t r. goes_on _ z (untouched_after _ z (untouched.owe_untouched z (OfThread t) (work.Refusal r)) (owe_less z (OfThread t) (work.Refusal r) refl));
    tells = λ z t r. goes_on _ z (untouched_after _ z (untouched.owe_untouched z (OfThread t) (work.Verdict r)) (owe_less z (OfThread t) (work.Verdict r) refl));
  }

pub step_calls : (s : Space) (e : Entry) (m : ℕ) → CalledIn s m (change s e.seat e.step).space
step_calls s e m = every_step s e.seat e.step (CalledIn s m) (CalledIn s m) (calling s m e.seat e.step)

-- ---- what is taken goes

abbrev NoCall : ℕ → Space → Type 0
NoCall c z = (w : Work) → IsDue c z.todo w → ⊥

module _ (s : Space) (c : ℕ) (tidy : IsTidy s) where
  single : (v w : Work) → IsDue c s.todo v → IsDue c s.todo w → v ≡ w
  single v w i j = tidy.on_paths.1.one v w c i.0 j.0 (call_kind c v.kind i.1) (call_kind c w.kind j.1)

  abbrev has_call : List Work → Bool
  has_call ws = list_any (λ (w : Work). is_call c w.kind) ws

  items_gone : (seat : ℕ) (ws : List Work) → ((w : Work) → In w ws → In w s.todo) → has_call ws ≡ true → NoCall c (read_by s seat ws)
  unfolding read_by
  items_gone seat ws due h w i = search (arith, single, any_found, in_filter, any_in, same_item, not_true)

  taken_gone : (seat : ℕ) (x : Step) → has_call (items_taken s seat x) ≡ true → NoCall c (change s seat x).space
  unfolding read_taking
  taken_gone seat (Read limit) h =
      reading (λ ws o. has_call ws ≡ true → NoCall c o.space) s (λ f none. absurd (cc)) seat limit
      (λ a acts some w i.
      let ws = taken s (limit - 4) (list_to_read s a.thread) in
      items_gone a.thread.seat ws (read_in s a.thread (limit - 4)) some w ((follow_after (read_by s a.thread.seat ws)).due w c i.0 (is_call_hands c w.kind i.1), i.1)) h
  taken_gone seat _ h = absurd (cc)

-- ---- a two-way call has no turn, and none of it comes again

abbrev TwoWay : ℕ → Space → Type 0
TwoWay c z = HasTurn c z.buffers → ⊥

step_two_way : (s : Space) (e : Entry) (c : ℕ) → Before s → c < s.steps → TwoWay c s → TwoWay c (next s e)
unfolding counted
step_two_way s e c before lt h t =
    elim ((step_passes s e before.turns before.received.lists).passed.from t.0 t.2) [
      | inl k ↦ h (k.0, t.1, k.1, sym k.2.made ∙ t.3, on_before s t.1 k.0 t.0 k.2 t.4)
      | inr n ↦ (let at = n.made in let is = t.3 in absurd (omega arith))
    ]

-- An accepted two-way transaction makes no turn, and so its call is a two-way one.
call_two_way : (s : Space) (e : Entry) (n : ℕ) → Before s → Calls s e n → TwoWay s.steps (next s e)
unfolding counted
call_two_way s e n before k t =
    let one_way = (step_treats s e s.steps before.turns (fresh_once s before.turns s.steps refl)).made t.1 t.0 t.2 t.3 t.4 in
    let same_step : Command (bc.Transaction k.fields) k.parcel ≡ Command (bc.Transaction one_way.fields) one_way.parcel = sym k.command ∙ one_way.command in
    let is : k.fields ≡ one_way.fields = cc in
    let yes : is_one_way k.fields ≡ true = ap is_one_way is ∙ one_way.one_way in
    let no = k.two_way in
    absurd (cc)

record Spent (c : ℕ) (z : Space) : Type 0 where
  two_way : TwoWay c z
  none : NoCall c z

step_spent : (s : Space) (e : Entry) (c : ℕ) → Before s → c < s.steps → Spent c s → Spent c (next s e)
unfolding counted
step_spent s e c before lt h =
    let two_way = step_two_way s e c before lt h.two_way in
    record {
      two_way = two_way;
      none = λ w i. search (arith, (step_calls s e c).from, h.none, two_way);
    }

-- ---- a call is handed out once

module _ (es : List Entry) (c n : ℕ) (call : At es c (λ z e. Calls z e n)) where
  call_at : TwoWay c (next (after opening call.0) call.1)
  call_at =
      subst (λ m. TwoWay m (next (after opening call.0) call.1)) (always_steps call.0 ∙ call.2.at)
      (call_two_way (after opening call.0) call.1 n (tidy_after call.0).before call.3)

  two_way_at : (p : ℕ) (h : At es p (HandsOutCall c)) → TwoWay c (after opening h.0)
  two_way_at p h =
      later_place (TwoWay c) c (λ s e tidy. step_two_way s e c tidy.before) es c p call.0 h.0 call.1 h.1 call.2 h.2 (handed_later es p c h) (omega arith) call_at

  spent_at : (p : ℕ) (h : At es p (HandsOutCall c)) → Spent c (next (after opening h.0) h.1)
  unfolding counted
  spent_at p h =
      let s = after opening h.0 in
      let tidy = tidy_after h.0 in
      let steps = always_steps h.0 in
      let at = h.2.at in
      let below = handed_later es p c h in
      let lt : c < s.steps = omega arith in
      record { two_way = step_two_way s h.1 c tidy.before lt (two_way_at p h); none = taken_gone s c tidy h.1.seat h.1.step h.3 }

  not_again : (p q : ℕ) → At es p (HandsOutCall c) → At es q (HandsOutCall c) → p < q → ⊥
  not_again p q h k lt =
      let below = handed_later es p c h in
      let spent = later_place (Spent c) c (λ s e tidy. step_spent s e c tidy.before) es p q h.0 k.0 h.1 k.1 h.2 k.2 lt (omega arith) (spent_at p h) in
      let w = any_found (λ (w : Work). is_call c w.kind) (items_taken (after opening k.0) k.1.seat k.1.step) k.3 in
      spent.none w.0 (items_due (after opening k.0) k.1.seat k.1.step w.0 w.1, w.2)

  pub handed_once : (p q : ℕ) → At es p (HandsOutCall c) → At es q (HandsOutCall c) → p ≡ q
  handed_once p q h k = omega (arith, not_again p q h k, not_again q p k h)
