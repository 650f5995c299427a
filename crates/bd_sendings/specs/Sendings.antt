-- Whom of a process it is told of an object that its threads send, and in which order. By the rules whatever sends an object that its owner
-- isn't told of has its thread told. With Linux's driver it is the first strong reference of a receiver that does this, and puts what is to be
-- told behind all that the thread has; where the receiver has one already by what another thread has sent, that one is told.
use Rattle.std.specs.Prelude.{◌+◌, ◌/◌, ℕ, List, [], ◌∷◌, ◌++◌, length, Option, Some, None, Bool, true, false, not, nat_lt, ◌==◌, ◌&&◌, ◌||◌, if◌then◌else◌, find, filter, count_by, position, slice_get}
use Rattle.std.specs.List.{list_any}
use Rattle.bd_uapi.specs.Bytes.{word_at, long_at}
use Rattle.bd_parcel.specs.Parcels.{offsets_in}
use Rattle.bd_sendings.specs.declared.sent.{Sent.{Sent}, Sending.{Sending}}

-- ---- one object that is known

-- the thread has sent it
abbrev pub is_of : ℕ → ℕ → Sent → Bool
is_of thread ptr e = (e.sender == thread) && (e.ptr == ptr)

-- whoever has sent it is told of it
abbrev pub is_told : ℕ → Sent → Bool
is_told ptr e = (e.ptr == ptr) && not e.is_others

-- another thread than this is
abbrev pub is_elsewhere : ℕ → ℕ → Sent → Bool
is_elsewhere thread ptr e = not (e.sender == thread) && is_told ptr e

-- A sending's receiver has a strong reference by what was sent before: by the same parcel, or since then it has let go of nothing that may have
-- carried objects.
abbrev pub is_held : Sending → Sent → Bool
is_held s e = e.is_strong && ((e.step == s.step) || (not (s.receiver == 0) && (e.receiver == s.receiver) && (e.let_go == s.let_go)))

abbrev pub strong_one : Sending → ℕ → Bool → Sent
strong_one s ptr is_others = record {
  sender = s.sender;
  ptr = ptr;
  step = s.step;
  receiver = s.receiver;
  let_go = s.let_go;
  is_strong = true;
  is_others = is_others;
}

abbrev pub weak_one : ℕ → ℕ → Sent
weak_one thread ptr = record { sender = thread; ptr = ptr; step = 0; receiver = 0; let_go = 0; is_strong = false; is_others = false }

-- ---- what is known of a process, the first sent first

abbrev pub has_sent : ℕ → ℕ → List Sent → Bool
has_sent thread ptr known = list_any (is_of thread ptr) known

-- so many of a thread, and so many of all
abbrev pub has_room : ℕ → List Sent → Bool
has_room thread known = nat_lt (length known) 512 && nat_lt (count_by (λ e. e.sender == thread) known) 32

-- what finds no room isn't known
abbrev pub added : Sent → List Sent → List Sent
added e known = if has_room e.sender known then known ++ e ∷ [] else known

-- What a thread sends strongly changes nothing where it is told of it, and its receiver has a strong reference by that.
abbrev pub stays : Sending → ℕ → List Sent → Bool
stays s ptr known = list_any (λ e. is_of s.sender ptr e && (not e.is_others && is_held s e)) known

-- Another thread is told where the receiver has a strong reference by what that has sent.
abbrev pub is_anothers : Sending → ℕ → List Sent → Bool
is_anothers s ptr known = list_any (λ e. is_elsewhere s.sender ptr e && is_held s e) known

-- where no other is, the one that was told before is no longer, and who sends it is in its place
abbrev pub goes : ℕ → ℕ → Bool → Sent → Bool
goes thread ptr is_others e = is_of thread ptr e || (not is_others && is_told ptr e)

-- it comes behind all that was sent before
abbrev pub sent_anew : Sending → ℕ → Bool → List Sent → List Sent
sent_anew s ptr is_others known = added (strong_one s ptr is_others) (filter (λ e. not (goes s.sender ptr is_others e)) known)

unfoldable pub sent_strong : Sending → ℕ → List Sent → List Sent
sent_strong s ptr known = if stays s ptr known then known else sent_anew s ptr (is_anothers s ptr known) known

-- a weak reference comes where nobody is told of the object yet
unfoldable pub sent_weak : ℕ → ℕ → List Sent → List Sent
sent_weak thread ptr known = if list_any (λ e. is_of thread ptr e || is_elsewhere thread ptr e) known then known else added (weak_one thread ptr) known

-- an object of a parcel, by its type
abbrev pub sent_at : Sending → List ℕ → ℕ → List Sent → List Sent
sent_at s body o known =
    if nat_lt (length body) (o + 24) then known
    else if word_at o body == 0x73622a85 then sent_strong s (long_at (o + 8) body) known
    else if word_at o body == 0x77622a85 then sent_weak s.sender (long_at (o + 8) body) known
    else known

abbrev pub sent_among : Sending → List ℕ → List ℕ → List Sent → List Sent
sent_among s body [] known = known
sent_among s body (o ∷ os) known = sent_among s body os (sent_at s body o known)

-- a parcel that has more objects is told of by the rules
abbrev pub noted : Sending → List ℕ → List ℕ → List Sent → List Sent
noted s body offsets known = if nat_lt 32 (length offsets / 8) then known else sent_among s body (offsets_in offsets) known

-- the thread has read that all was taken that it has sent
abbrev pub ended : ℕ → List Sent → List Sent
ended thread known = filter (λ e. not (e.sender == thread)) known

-- ---- who is told, and in which order

abbrev pub sender_or : ℕ → Option Sent → ℕ
sender_or thread (Some e) = e.sender
sender_or thread None = thread

-- What the engine would tell a thread of an object is told this one: itself, unless another is told of what it has sent.
abbrev pub told_of : ℕ → ℕ → List Sent → ℕ
told_of thread ptr known =
    if list_any (λ e. is_of thread ptr e && e.is_others) known then sender_or thread (find (is_elsewhere thread ptr) known) else thread

-- An object that was sent where that one is told, by another thread.
abbrev pub is_for : ℕ → List Sent → Sent → Bool
is_for thread known e = not (e.sender == thread) && (e.is_others && list_any (λ f. (f.sender == thread) && is_told e.ptr f) known)

-- Behind how many others the thread has sent it.
abbrev pub place_of : ℕ → ℕ → List Sent → Option ℕ
place_of thread ptr known = position (is_of thread ptr) known

-- What is told of an object goes before what is told of another, which the thread has sent later.
abbrev pub comes_before : Option ℕ → Option ℕ → Bool
comes_before (Some i) (Some j) = nat_lt i j
comes_before _ _ = false

abbrev pub is_before : ℕ → ℕ → ℕ → List Sent → Bool
is_before thread one other known = comes_before (place_of thread one known) (place_of thread other known)

-- The sender of the object at a place, where it is for that thread.
abbrev pub sender_of : ℕ → List Sent → Option Sent → Option ℕ
sender_of thread known (Some e) = if is_for thread known e then Some e.sender else None
sender_of thread known None = None

abbrev pub sender_for : ℕ → ℕ → List Sent → Option ℕ
sender_for thread i known = sender_of thread known (slice_get known i)
