-- For SpacesAreTidy: a call makes a frame on the path of its caller, and a reply closes one.
use Rattle.bd_laws.proofs.words.Logic.{◌≡◌, ℕ, suc, Bool, true, false, List, [], ◌∷◌, ◌++◌, Option, Some, None, Ok, ◌⊎◌, inl, inr, refl, ap, sym, subst, ◌∙◌, arith, option_map}
use Rattle.bd_laws.proofs.words.Types.{TransactionData, Parcel, Work, Frame, Buffer, Actor, Pending, Serving, OfThread}
use Rattle.bd_laws.proofs.words.Space.{Space, closed, goes_to, innermost, innermost_in, served_innermost, made_of, owe, assign_numbers, Delivery, delivered, own_notices, add_buffer, with_carried, refer, make_objects, transaction_check, transacted, called, call_out, caller_cause, replied, is_spam}
use Rattle.bd_space.specs.declared.space.WorkKind.TheVariants as work
use Rattle.bd_laws.proofs.words.Laws.{In, Forest, OnPaths}
use Rattle.bd_laws.proofs.Lists.{in_push}
use Rattle.bd_laws.proofs.IsInTurn.OneWay.{sent_due}
use Rattle.bd_laws.proofs.Checks.{transaction_checked, transaction_may_call}
use Rattle.bd_laws.proofs.OnPaths.PathWords.{served_is, goes_to_waiting}
use Rattle.bd_laws.proofs.OnPaths.Forests.{Calls, forest_same, forest_buffer}
use Rattle.bd_laws.proofs.OnPaths.NewFrames.{Calling, forest_framed, rerooted}
use Rattle.bd_laws.proofs.OnPaths.Innermost.{innermost_is, none_innermost, innermost_childless, on_path}
use Rattle.bd_laws.proofs.OnPaths.Paths.{call_hands, closes, served_childless}
use Rattle.bd_laws.proofs.Machine.Adding.{told_keeps}
use Rattle.bd_laws.proofs.Machine.Fields.{sent_steps as sent_place, closed_steps, sent_frames}

-- ---- deliveries

sent_calls : (s : Space) (a : Actor) (d : TransactionData) (v : Delivery) (spam : Bool) → Calls (owe (delivered s a d v) (OfThread a.thread.seat) (work.Complete spam)).todo s.todo
sent_calls s a d v spam w b l e = search (arith, sent_due, call_hands)

sent_buffers : (s : Space) (a : Actor) (d : TransactionData) (v : Delivery) (spam : Bool) (c : Buffer) → In c (owe (delivered s a d v) (OfThread a.thread.seat) (work.Complete spam)).buffers
    → In c s.buffers ⊎ ((c.made ≡ s.steps) × (c.one_way ≡ v.one_way))
unfolding delivered own_notices add_buffer with_carried assign_numbers refer make_objects owe
sent_buffers s a d v spam c l = search (arith, in_push)

sends : (s x : Space) (a : Actor) (d : TransactionData) (v : Delivery) (spam : Bool) → x.steps ≡ s.steps → OnPaths s.steps x → OnPaths (suc s.steps) (owe (delivered x a d v) (OfThread a.thread.seat) (work.Complete spam))
sends s x a d v spam e h = (
  h.0,
  subst (λ fs. Forest (suc s.steps) h.0 fs (owe (delivered x a d v) (OfThread a.thread.seat) (work.Complete spam)).buffers (owe (delivered x a d v) (OfThread a.thread.seat) (work.Complete spam)).todo)
      (sym (sent_frames x a d v spam))
      (forest_buffer s.steps h.0 x.frames x.buffers x.todo h.1 (owe (delivered x a d v) (OfThread a.thread.seat) (work.Complete spam)).buffers
      (owe (delivered x a d v) (OfThread a.thread.seat) (work.Complete spam)).todo (λ c l. elim (sent_buffers x a d v spam c l) [ inl i ↦ inl i | inr k ↦ inr (k.0 ∙ e) ]) (sent_calls x a d v spam)),
)

-- ---- a call

abbrev MayCall : Space → ℕ → Type 0
MayCall s seat = (innermost_in s.frames seat ≡ None) ⊎ ((f : Frame) × (innermost_in s.frames seat ≡ Some f) × (f.server ≡ Serving seat))

calling : (n : ℕ) (root : ℕ → ℕ) (y : Space) (bs : List Buffer) (td : List Work) (seat p : ℕ) (nw : Work) → Forest n root y.frames bs td → MayCall y seat
    → nw.list ≡ goes_to y seat p → nw.kind ≡ work.Call n → Calling n root y.frames bs seat (option_map made_of (innermost_in y.frames seat)) nw
calling n root y bs td seat p nw h (inl e) list kind = record {
  stem = n;
  low = omega arith;
  from = λ q k. let none = ap (option_map made_of) e in absurd (cc);
  joined = λ f l k. let lt = h.below f l in let le = h.rooted f l in absurd (omega arith);
  own = λ f l k. absurd (none_innermost y.frames seat e f l k);
  waits = λ t k. let u = goes_to_waiting y seat p t (sym list ∙ k) in let wrong = u.1 in absurd (cc);
  kind = kind;
}
calling n root y bs td seat p nw h (inr (f, e, serving)) list kind =
    let k = innermost_is y.frames seat f e in
    let none = innermost_childless root y.frames h.sorted h.parents seat f e serving in
    let parent : option_map made_of (innermost_in y.frames seat) ≡ Some f.made = ap (option_map made_of) e in
    record {
      stem = root f.made;
      low = (let lt = h.below f k.0 in let le = h.rooted f k.0 in omega arith);
      from = λ q is. let same : f.made ≡ q = (let j : Some f.made ≡ Some q = sym parent ∙ is in cc) in (f, k.0, same, serving, none, ap root (sym same));
      joined = λ g l is. (f.made, parent, h.leaf f g k.0 l (sym is) none);
      own = λ g l part. h.shared seat g f l k.0 part k.1;
      waits = λ t is.
          let u = goes_to_waiting y seat p t (sym list ∙ is) in
          let same : f ≡ u.0 = (let j = u.1 in cc) in
          let on = on_path root y.frames h.sorted h.parents u.0.made u.2.0 u.2.1 in
          (u.2.0, on.0, u.2.2, on.1 ∙ ap (λ (x : Frame). root x.made) (sym same));
      kind = kind;
    }

calls_out : (n : ℕ) (y : Space) (seat p : ℕ) (bs : List Buffer) (td : List Work) (root : ℕ → ℕ) → y.steps ≡ n → Forest n root y.frames bs td → MayCall y seat
    → ((c : Buffer) → In c y.buffers → In c bs ⊎ ((c.made ≡ n) × (c.one_way ≡ false))) → Calls y.todo td → OnPaths (suc n) (call_out y seat p)
unfolding call_out owe innermost
calls_out n y seat p bs td root e h may kept calls =
    let nw : Work = record { id = record { place = y.steps; index = _ }; list = goes_to y seat p; kind = work.Call y.steps } in
    let c = calling n root y bs td seat p nw h may refl (ap (λ i. work.Call i) e) in
    subst (λ i. OnPaths (suc n) (record (owe y (goes_to y seat p) (work.Call y.steps)) { frames = y.frames ++ record { made = i; caller = Some seat; server = Pending; parent = option_map made_of (innermost_in y.frames seat) } ∷ [] })) (sym e) (
      rerooted n root y.frames bs td h seat (option_map made_of (innermost_in y.frames seat)) nw c,
      forest_framed n root y.frames bs td h seat (option_map made_of (innermost_in y.frames seat)) nw c y.buffers _ kept (λ w b l k. elim (in_push w nw y.todo l) [ inl i ↦ inl (calls w b i k) | inr is ↦ inr is ]),
    )

may_call : (s : Space) (seat : ℕ) → caller_cause s seat ≡ None → MayCall s seat
unfolding caller_cause innermost served_innermost
may_call s seat h = search (arith, served_is)

module _ (s : Space) (h : OnPaths s.steps s) (a : Actor) (d : TransactionData) (parcel : Option Parcel) (v : Delivery) where
  pub transacts : transaction_check s a d parcel ≡ Ok v → OnPaths (suc s.steps) (transacted s a d v)
  unfolding transacted
  transacts t = at v.one_way refl
    where
      spam : Bool
      spam = is_spam (delivered s a d v) a v

      y : Space
      y = owe (delivered s a d v) (OfThread a.thread.seat) (work.Complete spam)

      at : (b : Bool) → v.one_way ≡ b → OnPaths (suc s.steps) (called y a.thread.seat v.receiver.made b)
      at true e = sends s s a d v spam refl h
      at false e =
          let may = may_call s a.thread.seat (transaction_may_call s a d parcel v t (sym (transaction_checked s a d parcel v t).one_way ∙ e)) in
          let same = sent_frames s a d v spam in
          calls_out s.steps y a.thread.seat v.receiver.made s.buffers s.todo h.0 (sent_place s a d v spam) (subst (λ fs. Forest s.steps h.0 fs s.buffers s.todo) (sym same) h.1)
          (subst (λ fs. (innermost_in fs a.thread.seat ≡ None) ⊎ ((f : Frame) × (innermost_in fs a.thread.seat ≡ Some f) × (f.server ≡ Serving a.thread.seat))) (sym same) may)
          (λ c l. elim (sent_buffers s a d v spam c l) [ inl i ↦ inl i | inr k ↦ inr (k.0, k.1 ∙ e) ]) (sent_calls s a d v spam)

  answered : (z : Space) (t : ℕ) → OnPaths (suc s.steps) z → OnPaths (suc s.steps) (owe z (OfThread t) (work.Reply s.steps))
  unfolding owe
  answered z t k = (k.0, forest_same (suc s.steps) k.0 _ _ _ k.1 _ _ (λ c l. (c, l, refl, refl)) (λ w b l q. search (arith, in_push)))

  pub replies : (f : Frame) → served_innermost s a.thread.seat ≡ Some f → OnPaths (suc s.steps) (replied s a d f v)
  unfolding replied
  replies f e =
      let k = served_childless s.steps s a.thread.seat f h e in
      told_keeps (OnPaths (suc s.steps)) (work.Reply s.steps) answered _ f.caller (sends s (closed s f.made) a d v false (closed_steps s f.made) (closes s.steps s f k.0 k.1 h))
