-- What a transaction and a reply have in common: what they deliver.
use Rattle.std.specs.Prelude.{ℕ, ◌+◌, Bool, true, false, not, ◌&&◌, List, [], ◌∷◌, ◌++◌, map, Option, Some, None, Result, Ok, filter, fold, if◌then◌else◌}
use Rattle.bd_space.specs.Words.{TransactionData, Cause, and_then, Identity, Process, Object, Reference, Buffer, Work, Carried, Target, OfThread, is_some_and, Space, Actor, Item, is_own, is_strong_kind}
use Rattle.bd_space.specs.{References.{reference_of, object_in}, Names.assign_numbers, Windows.{needed, buffers_of, start_for}, Todo.is_notice, Notices.with_notice, Parcels.{Sending, object_of_item, translation}}

-- what is delivered: to which process, on which object, whether one-way, what, and where in the receiver's window
pub record Delivery : Type 0 where
  pub receiver : Process
  pub target : Option Identity
  pub one_way : Bool
  pub sending : Sending
  pub start : ℕ

-- what is delivered to this process, on this object or on none, at the place that its window has for it; else why it has none
abbrev pub placed_for : Space → TransactionData → Process → Option Identity → Bool → Sending → Result Delivery Cause
placed_for s d receiver target one_way x =
    and_then (start_for receiver.window (buffers_of s.buffers receiver.made) one_way (needed d.data_size d.offsets_size))
    (λ start. Ok (record { receiver = receiver; target = target; one_way = one_way; sending = x; start = start }))

-- the sender's new objects come in
unfoldable pub make_objects : Space → List Object → Space
make_objects s made = record s { objects = s.objects ++ made }

-- the references of the buffer made at b in q's window, numbered from k: one an object of the parcel, and then the target's
abbrev pub buffer_references : ℕ → ℕ → ℕ → List Item → Option Identity → List Reference
buffer_references b q k [] None = []
buffer_references b q k [] (Some o) = reference_of b k o true (Target b q) ∷ []
buffer_references b q k (x ∷ xs) target =
    reference_of b k x.object (is_strong_kind x.flat.kind) (Carried b q) ∷ buffer_references b q (k + 1) xs target

unfoldable pub refer : Space → ℕ → List Item → Option Identity → Space
refer s q items target = record s { references = s.references ++ buffer_references s.steps q 0 items target }

-- the buffer that this actor's step makes, where the receiver's names are those of s
abbrev pub buffer_of : Space → Actor → TransactionData → Delivery → Buffer
buffer_of s a d v = record {
  made = s.steps;
  receiver = v.receiver.made;
  sender = a.process.made;
  start = v.start;
  size = needed d.data_size d.offsets_size;
  one_way = v.one_way;
  handed = false;
  target = v.target;
  code = d.code;
  flags = d.flags;
  euid = a.process.euid;
  bytes = translation s v.receiver.made v.sending.bytes v.sending.items;
  offsets = v.sending.offsets;
}

unfoldable pub add_buffer : Space → Buffer → Space
add_buffer s b = record s { buffers = s.buffers ++ b ∷ [] }

-- ---- the notices of the sender's own objects

-- an own object's standing Notice goes where it is sent strongly and its owner wasn't told that it is referred to strongly
abbrev pub withdraw_notice : List Object → List Work → Item → List Work
withdraw_notice objects todo x =
    if is_own x.flat.kind && is_strong_kind x.flat.kind && is_some_and (object_in objects x.object) (λ o. not o.told_strong)
    then filter (λ w. not (is_notice x.object w.kind)) todo
    else todo

-- a notice that is missing is made on the sending thread's list
abbrev pub add_notice : Space → ℕ → List Work → Item → List Work
add_notice s seat todo x =
    if is_own x.flat.kind
    then (elim (object_in s.objects x.object) [ None ↦ todo | Some o ↦ with_notice s.steps s.processes s.references (OfThread seat) todo o ])
    else todo

-- all standing ones first, and then the new ones in the order of the parcel
unfoldable pub own_notices : Space → ℕ → List Item → Space
own_notices s seat items = record s { todo = fold (add_notice s seat) (fold (withdraw_notice s.objects) s.todo items) items }

-- ---- the whole delivery

-- the objects, the references and the names come first
unfoldable pub with_carried : Space → Delivery → Space
with_carried s v =
    assign_numbers (refer (make_objects s v.sending.made) v.receiver.made v.sending.items v.target) v.receiver.made (map object_of_item v.sending.items)

-- and then the buffer with the translated data, and the notices
unfoldable pub delivered : Space → Actor → TransactionData → Delivery → Space
delivered s a d v =
    let z = with_carried s v in
    own_notices (add_buffer z (buffer_of z a d v)) a.thread.seat v.sending.items
