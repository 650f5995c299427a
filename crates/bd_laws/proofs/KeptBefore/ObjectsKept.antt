-- For SpacesAreTidy and ObjectsAreKept: objects that references hold stay through the changes of a step, and new ones come
-- last.
use Rattle.bd_laws.proofs.words.Logic.{◌≡◌, ℕ, suc, ◌+◌, ◌<◌, Bool, false, ◌&&◌, List, [], ◌∷◌, ◌++◌, Option, Some, None, Ok, ◌⊎◌, inl, inr, refl, ap, sym, subst, ◌∙◌, arith}
use Rattle.bd_laws.proofs.words.Types.{TransactionData, Identity, Parcel, Actor, Frame, Object, Reference, Asked, Manager, Item, OfThread}
use Rattle.bd_laws.proofs.words.Space.{Space, reference_of, assign_numbers, Delivery, delivered, own_notices, add_buffer, with_carried, refer, make_objects, buffer_references, transaction_check, reply_check, ask_check, ask, drop_asked, acknowledge, without_buffer, thread_goes, threads_go, without_process, owe, closed, transacted, called, replied, is_spam}
use Rattle.bd_space.specs.declared.space.WorkKind.TheVariants as work
use Rattle.bd_laws.proofs.words.Laws.{In, Pairs, Here, Earlier, Kept, Named, KeptBefore}
use Rattle.bd_laws.proofs.Lists.{in_left, in_append, in_filter, filter_in, in_without, without_in}
use Rattle.bd_laws.proofs.Earlier.{place_earlier}
use Rattle.bd_laws.proofs.Checks.{transaction_checked, reply_checked, asked_checked}
use Rattle.bd_laws.proofs.Machine.Untouched.{Untouched, owe_untouched, told_untouched, called_untouched}
use Rattle.bd_laws.proofs.Machine.Following.{threads_keep}
use Rattle.bd_laws.proofs.Sendings.{HasName, Sent, Sends, sending_sends}

abbrev pub IsKept : Space → Type 0
IsKept z = Kept (suc z.steps) z.manager z.objects z.references

pub record IsKeptWhole (z : Space) : Type 0 where
  pub kept : IsKept z
  pub named : Named z.names z.references

pub later : (z : Space) → KeptBefore z → IsKeptWhole z
later z h = search arith

-- ---- what changes none of it

pub kept_untouched : (z y : Space) → Untouched z y → IsKept y → IsKept z
kept_untouched z y u h = search arith

named_untouched : (z y : Space) → Untouched z y → Named y.names y.references → Named z.names z.references
named_untouched z y u h = subst (λ ns. Named ns z.references) (sym u.names) (subst (λ rs. Named y.names rs) (sym u.references) h)

pub whole_untouched : (z y : Space) → Untouched z y → IsKeptWhole y → IsKeptWhole z
whole_untouched z y u h = record { kept = kept_untouched z y u h.kept; named = named_untouched z y u h.named }

-- ---- references that go

-- some references go, but none of the manager's
pub fewer : (n : ℕ) (manager : Option Identity) (objects : List Object) (more references : List Reference)
    → ((r : Reference) → In r references → In r more) → ((r : Reference) → In r more → r.holder ≡ Manager → In r references)
    → Kept n manager objects more → Kept n manager objects references
fewer n manager objects more references less stay h = search arith

pub and_false : (a b c : Bool) → c ≡ false → (a && b && c) ≡ false
and_false a b c h = search arith

pub drop_asked_kept : (z : Space) (p : ℕ) (o : Identity) (strong : Bool) → IsKept z → IsKept (drop_asked z p o strong)
unfolding drop_asked
drop_asked_kept z p o strong h = search (arith, in_without, without_in)

pub acknowledge_kept : (z : Space) (o : Identity) (strong : Bool) → IsKept z → IsKept (acknowledge z o strong)
unfolding acknowledge
acknowledge_kept z o strong h = search (arith, in_without, without_in)

pub without_buffer_kept : (z : Space) (made : ℕ) → IsKept z → IsKept (without_buffer z made)
unfolding without_buffer
without_buffer_kept z made h = search (arith, in_filter, filter_in)

pub thread_goes_kept : (z : Space) (seat : ℕ) → IsKept z → IsKept (thread_goes z seat)
unfolding thread_goes
thread_goes_kept z seat h = search (arith, in_filter, filter_in)

pub threads_go_kept : (z : Space) (p : ℕ) → IsKept z → IsKept (threads_go z p)
threads_go_kept = threads_keep IsKept thread_goes_kept

pub without_process_kept : (z : Space) (p : ℕ) → IsKept z → IsKept (without_process z p)
unfolding without_process
without_process_kept z p h = search (arith, in_filter, filter_in)

-- ---- references and objects that come

pub grown : (n : ℕ) (manager : Option Identity) (objects made : List Object) (references new : List Reference) → Kept n manager objects references
    → ((x : Object) → In x made → x.id.place ≡ n) → Pairs Earlier made → ((r : Reference) → In r new → Here (objects ++ made) r.object)
    → Kept (suc n) manager (objects ++ made) (references ++ new)
grown n manager objects made references new h place in_order here = record {
  refs = λ r l. elim (in_append r references new l) [ inl k ↦ (let x = h.refs r k in (x.0, in_left x.0 objects made x.1, x.2)) | inr k ↦ here r k ];
  manages = λ o e. let r = h.manages o e in (r.0, in_left r.0 references new r.1, r.2, r.3, r.4);
  below = λ x l. elim (in_append x objects made l) [ inl k ↦ (let lt = h.below x k in omega arith) | inr k ↦ (let e = place x k in omega arith) ];
  in_order = joined objects h.in_order (λ x y l m. place_earlier x.id y.id (subst (λ k. x.id.place < k) (sym (place y m)) (h.below x l)));
}
  where
    joined : (xs : List Object) → Pairs Earlier xs → ((x y : Object) → In x xs → In y made → Earlier x y) → Pairs Earlier (xs ++ made)
    joined [] k d = in_order
    joined (x ∷ xs) k d = ((λ y l. elim (in_append y xs made l) [ inl i ↦ k.0 y i | inr i ↦ d x y (inl refl) i ]), joined xs k.1 (λ a b l m. d a b (inr l) m))

-- the references of a buffer: to the objects of its parcel and to its target
pub buffer_reference : (b q : ℕ) (items : List Item) (target : Option Identity) (k : ℕ) (r : Reference) → In r (buffer_references b q k items target)
    → ((i : Item) × In i items × (i.object ≡ r.object)) ⊎ (target ≡ Some r.object)
buffer_reference b q [] None k r l = absurd l
buffer_reference b q [] (Some o) k r (inl e) = inr (ap (λ (x : Reference). Some x.object) e)
buffer_reference b q [] (Some o) k r (inr l) = absurd l
buffer_reference b q (x ∷ xs) target k r (inl e) = inl (x, inl refl, ap (λ (x : Reference). x.object) e)
buffer_reference b q (x ∷ xs) target k r (inr l) = search (arith, buffer_reference b q xs target (k + 1) r l)

-- what a parcel's sender sends is there, or the sending makes it
pub sent_here : (s : Space) (p : ℕ) (made : List Object) (o : Identity) → KeptBefore s → Sent s p made o → Here (s.objects ++ made) o
sent_here s p made o h (inl w) = (w.0, w.1, w.2)
sent_here s p made o h (inr m) =
    let r = h.named m.0 m.1 in
    let x = h.kept.refs r.0 r.1 in
    (x.0, in_left x.0 s.objects made x.1, x.2 ∙ r.2 ∙ m.3)

pub delivered_kept : (s : Space) (a : Actor) (d : TransactionData) (v : Delivery) → KeptBefore s → Sends s a.process.made v.sending.made v.sending.items
    → ((o : Identity) → v.target ≡ Some o → Here s.objects o) → IsKept (delivered s a d v)
unfolding delivered own_notices add_buffer with_carried assign_numbers refer make_objects
delivered_kept s a d v h sends target =
    grown s.steps s.manager s.objects v.sending.made s.references (buffer_references s.steps v.receiver.made 0 v.sending.items v.target) h.kept
    sends.makes.place sends.makes.in_order
    (λ r l. elim (buffer_reference s.steps v.receiver.made v.sending.items v.target 0 r l) [
      | inl i ↦ subst (Here (s.objects ++ v.sending.made)) i.2 (sent_here s a.process.made v.sending.made i.0.object h (sends.sent i.0 i.1))
      | inr e ↦ (let x = target r.object e in (x.0, in_left x.0 s.objects v.sending.made x.1, x.2))
    ])

pub transacted_kept : (s : Space) (a : Actor) (d : TransactionData) (parcel : Option Parcel) (v : Delivery) → KeptBefore s → transaction_check s a d parcel ≡ Ok v → IsKept (transacted s a d v)
unfolding transacted
transacted_kept s a d parcel v h check =
    let t = transaction_checked s a d parcel v check in
    let z = delivered s a d v in
    let y = owe z (OfThread a.thread.seat) (work.Complete (is_spam z a v)) in
    kept_untouched (called y a.thread.seat v.receiver.made v.one_way) y (called_untouched y a.thread.seat v.receiver.made v.one_way)
    (kept_untouched y z (owe_untouched z (OfThread a.thread.seat) (work.Complete (is_spam z a v)))
    (delivered_kept s a d v h (sending_sends s a.process.made d parcel v.sending t.sends)
    (λ o e. let is : t.object ≡ o = (let k = t.target in cc) in (t.owned.object, t.owned.here, t.owned.id ∙ is))))

pub closed_before : (s : Space) (made : ℕ) → KeptBefore s → KeptBefore (closed s made)
unfolding closed
closed_before s made h = record { kept = h.kept; named = h.named }

pub closed_sends : (s : Space) (made p : ℕ) (objects : List Object) (items : List Item) → Sends s p objects items → Sends (closed s made) p objects items
unfolding closed
closed_sends s made p objects items h = search arith

pub replied_kept : (s : Space) (a : Actor) (d : TransactionData) (parcel : Option Parcel) (f : Frame) (v : Delivery) → KeptBefore s → reply_check s a d parcel f ≡ Ok v → IsKept (replied s a d f v)
unfolding replied
replied_kept s a d parcel f v h check =
    let t = reply_checked s a d parcel f v check in
    let x = closed s f.made in
    let z = delivered x a d v in
    let y = owe z (OfThread a.thread.seat) (work.Complete false) in
    kept_untouched _ y (told_untouched y f.caller (work.Reply s.steps))
    (kept_untouched y z (owe_untouched z (OfThread a.thread.seat) (work.Complete false))
    (delivered_kept x a d v (closed_before s f.made h) (closed_sends s f.made a.process.made v.sending.made v.sending.items (sending_sends s a.process.made d parcel v.sending t.sends))
    (λ o e. let none = t.target in absurd (cc))))

-- so is what a process may ask for
pub asked_here : (s : Space) (p : ℕ) (o : Identity) (n : ℕ) → KeptBefore s → ((n ≡ 0) × (s.manager ≡ Some o)) ⊎ HasName s.names p o → Here s.objects o
asked_here s p o n h (inl m) = let r = h.kept.manages o m.1 in let x = h.kept.refs r.0 r.1 in (x.0, x.1, x.2 ∙ r.2)
asked_here s p o n h (inr m) = let r = h.named m.0 m.1 in let x = h.kept.refs r.0 r.1 in (x.0, x.1, x.2 ∙ r.2 ∙ m.3)

-- references to objects that are there
pub referred : (n : ℕ) (manager : Option Identity) (objects : List Object) (references new : List Reference) → Kept n manager objects references
    → ((r : Reference) → In r new → Here objects r.object) → Kept n manager objects (references ++ new)
referred n manager objects references new h here = record {
  refs = λ r l. elim (in_append r references new l) [ inl k ↦ h.refs r k | inr k ↦ here r k ];
  manages = λ o e. let r = h.manages o e in (r.0, in_left r.0 references new r.1, r.2, r.3, r.4);
  below = h.below;
  in_order = h.in_order;
}

pub ask_kept : (s : Space) (p n : ℕ) (strong : Bool) (o : Identity) → KeptBefore s → ask_check s p n strong ≡ Ok o → IsKept (ask s p o strong)
unfolding ask assign_numbers
ask_kept s p n strong o h check =
    referred (suc s.steps) s.manager s.objects s.references (reference_of s.steps 0 o strong (Asked p) ∷ []) (later s h).kept
    (λ r l. elim l [ inl e ↦ subst (Here s.objects) (ap (λ (x : Reference). x.object) e) (asked_here s p o n h (asked_checked s p n strong o check)) | inr none ↦ absurd none ])
