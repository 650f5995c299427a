-- For SpacesAreTidy: what a buffer carries lies in its receiver's window.
use Rattle.bd_laws.proofs.words.Types.{TransactionData, Entry, Buffer, Actor, Frame, OfThread}
use Rattle.bd_laws.proofs.words.Space.{Space, opening, assign_numbers, closed, owe, Delivery, delivered, own_notices, add_buffer, with_carried, refer, make_objects, buffer_references, transacted, called, replied, counted, next, is_spam}
use Rattle.std.proofs.Common.{◌≡◌, false, inl, inr, ap, sym, subst, ◌∙◌, arith}
use Rattle.bd_space.specs.declared.space.WorkKind.TheVariants as work
use Rattle.bd_laws.proofs.words.Laws.{IsInTurn, AtHome, AllInWindows, IsInWindows}
use Rattle.bd_laws.proofs.Lists.{in_append, in_push}
use Rattle.bd_laws.proofs.Machine.Untouched.{Untouched, owe_untouched, told_untouched, called_untouched, ripen_untouched}
use Rattle.bd_laws.proofs.Machine.EveryStep.{every_step}
use Rattle.bd_laws.proofs.AtHome.HomesSent.{carries}
use Rattle.bd_laws.proofs.AtHome.Later.{later_windows, read_later, later_keeps}

untouched_in : (z y : Space) → Untouched z y → IsInWindows y → IsInWindows z
untouched_in z y u h = subst (AllInWindows z.references) (sym u.buffers) (subst (λ rs. AllInWindows rs y.buffers) (sym u.references) h)

-- ---- what is sent

delivered_in : (s : Space) (a : Actor) (d : TransactionData) (v : Delivery) → AtHome s → IsInTurn s → IsInWindows s → IsInWindows (delivered s a d v)
unfolding delivered own_notices add_buffer with_carried assign_numbers refer make_objects
delivered_in s a d v home turns h r c q l m e =
    elim (in_append r s.references (buffer_references s.steps v.receiver.made 0 v.sending.items v.target) l) [
      | inl i ↦ elim (in_push c _ s.buffers m) [
        | inl k ↦ h r c q i k e
        | inr is ↦ (let lt = home.carried r c.made q i e in let at : s.steps ≡ c.made = ap (λ (x : Buffer). x.made) is in absurd (omega arith))
      ]
      | inr i ↦ (
          let same = carries s.steps v.receiver.made 0 v.sending.items v.target r c.made q i e in
          elim (in_push c _ s.buffers m) [
            | inl k ↦ (let lt = turns.below c k in let at : s.steps ≡ c.made = same.0 in absurd (omega arith))
            | inr is ↦ sym (ap (λ (x : Buffer). x.receiver) is) ∙ same.1
          ])
    ]

transacted_in : (s : Space) (a : Actor) (d : TransactionData) (v : Delivery) → AtHome s → IsInTurn s → IsInWindows s → IsInWindows (transacted s a d v)
unfolding transacted
transacted_in s a d v home turns h =
    let z = delivered s a d v in
    let y = owe z (OfThread a.thread.seat) (work.Complete (is_spam z a v)) in
    untouched_in (called y a.thread.seat v.receiver.made v.one_way) y (called_untouched y a.thread.seat v.receiver.made v.one_way)
    (untouched_in y z (owe_untouched z (OfThread a.thread.seat) (work.Complete (is_spam z a v))) (delivered_in s a d v home turns h))

replied_in : (s : Space) (a : Actor) (d : TransactionData) (f : Frame) (v : Delivery) → AtHome s → IsInTurn s → IsInWindows s → IsInWindows (replied s a d f v)
unfolding replied closed
replied_in s a d f v home turns h =
    let x = closed s f.made in
    let z = delivered x a d v in
    let y = owe z (OfThread a.thread.seat) (work.Complete false) in
    untouched_in _ y (told_untouched y f.caller (work.Reply s.steps))
    (untouched_in y z (owe_untouched z (OfThread a.thread.seat) (work.Complete false))
    (delivered_in x a d v home turns h))

-- ---- every step

pub next_in_windows : (s : Space) (e : Entry) → AtHome s → IsInTurn s → IsInWindows s → IsInWindows (next s e)
unfolding counted
next_in_windows s e home turns h = every_step s e.seat e.step IsInWindows IsInWindows (search (arith, later_keeps, later_windows, transacted_in, replied_in, read_later, untouched_in, ripen_untouched))

pub opening_in_windows : IsInWindows opening
opening_in_windows = λ r c q l m e. absurd l
