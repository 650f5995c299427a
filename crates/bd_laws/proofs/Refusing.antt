-- For the engine, by FollowingIsLocal: a refused transaction leaves nothing to do, a refused reply may let older frames
-- close.
use Rattle.bd_laws.proofs.words.Types.{Return, Frame, Refusal, OfThread}
use Rattle.bd_laws.proofs.words.Space.{Space, closed, is_frame, owe, settle, reply_refused, close_up}
use Rattle.std.proofs.Common.{arith, ◌≡◌, ℕ, not, sym, subst, filter, length}
use Rattle.bd_laws.proofs.words.Laws.{In, IsSettled, IsQuiet}
use Rattle.bd_laws.proofs.Lists.{in_filter}
use Rattle.bd_laws.proofs.Machine.Settled.{settle_still}
use Rattle.bd_laws.proofs.Sending.{none_found}
use Rattle.bd_laws.proofs.Abandoned.{OneEach, only_parent, settle_up}
use Rattle.bd_laws.proofs.Machine.Fields.{told_frames, owe_frames}

pub refused_local : (s : Space) (t : ℕ) (r : Return) → IsQuiet s → settle (owe s (OfThread t) (Refusal r)) ≡ owe s (OfThread t) (Refusal r)
refused_local s t r h = settle_still _ (subst IsSettled (sym (owe_frames s (OfThread t) (Refusal r))) h.settled)

refused_frames : (s : Space) (t : ℕ) (f : Frame) → (reply_refused s t f).frames ≡ filter (λ g. not (is_frame f.made g)) s.frames
unfolding reply_refused closed owe
refused_frames s t f = search (arith, told_frames)

pub refused_reply_local : (s : Space) (t : ℕ) (f : Frame) → IsQuiet s → OneEach s.frames → In f s.frames
    → settle (reply_refused s t f) ≡ close_up (length (reply_refused s t f).frames) f.parent (reply_refused s t f)
refused_reply_local s t f h one l = search (arith, refused_frames, settle_up, in_filter, only_parent, none_found)
