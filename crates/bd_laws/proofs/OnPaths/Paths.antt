-- For SpacesAreTidy, FramesAreStacks and CallsEndLatestFirst: frames stay on their paths where a part of a step closes one.
use Rattle.bd_laws.proofs.words.Logic.{arith, ◌≡◌, ℕ, true, List, Option, Some, None, refl, ap, sym, subst, find, eq-eqb}
use Rattle.bd_laws.proofs.words.Types.{DeadReply, FailedReply, TransactionComplete, Work, Frame, OfThread, WorkKind}
use Rattle.bd_laws.proofs.words.Space.{Space, closed, served_innermost, owe, tell_caller, hands_out, follow, notify, work_goes, deaths_go, names_go, objects_go, is_abandoned, reply_refused}
use Rattle.bd_space.specs.declared.space.WorkKind.TheVariants as work
use Rattle.bd_laws.proofs.words.Laws.{In, Forest, NoChild, OnPaths}
use Rattle.bd_laws.proofs.Lists.{find_in, any_in}
use Rattle.bd_laws.proofs.IsInTurn.OneWay.{Less, owe_less}
use Rattle.bd_laws.proofs.OnPaths.PathWords.{served_is}
use Rattle.bd_laws.proofs.OnPaths.Forests.{forest_same, forest_closed}
use Rattle.bd_laws.proofs.OnPaths.Innermost.{innermost_is, innermost_childless}
use Rattle.bd_laws.proofs.Machine.Fields.{owe_frames}
use Rattle.bd_laws.proofs.Machine.Adding.{told_keeps}

-- ---- what leaves the frames

pub call_hands : (w : Work) (b : ℕ) → w.kind ≡ work.Call b → hands_out w.kind ≡ Some b
call_hands w b e = ap hands_out e

pub calm : (n : ℕ) (z y : Space) → Less z y → z.frames ≡ y.frames → OnPaths n y → OnPaths n z
calm n z y l e h = (
  h.0,
  subst (λ fs. Forest n h.0 fs z.buffers z.todo) (sym e)
      (forest_same n h.0 y.frames y.buffers y.todo h.1 z.buffers z.todo (λ c i. (c, l.buffers c i, refl, refl)) (λ w b i k. l.due w b i (call_hands w b k))),
)

pub follow_frames : (z : Space) → (follow z).frames ≡ z.frames
unfolding follow notify work_goes deaths_go objects_go names_go
follow_frames z = refl

-- ---- a frame closes, and its caller is told

told : (n : ℕ) (z : Space) (caller : Option ℕ) (kind : WorkKind) → hands_out kind ≡ None → OnPaths n z
    → OnPaths n (elim caller as (λ (o : Option ℕ). Space) [ None ↦ z | Some t ↦ owe z (OfThread t) kind ])
told n z caller kind none h = told_keeps (OnPaths n) kind (λ y t. calm n _ y (owe_less y (OfThread t) kind none) (owe_frames y (OfThread t) kind)) z caller h

pub closes : (n : ℕ) (z : Space) (f : Frame) → In f z.frames → NoChild z.frames f → OnPaths n z → OnPaths n (closed z f.made)
unfolding closed
closes n z f l none h = (h.0, forest_closed n h.0 z.frames z.buffers z.todo h.1 f l none)

pub abandoned_childless : (fs : List Frame) (f : Frame) → is_abandoned fs f ≡ true → NoChild fs f
abandoned_childless fs f h g l e = search (arith, eq-eqb, any_in)

pub abandons : (n : ℕ) (z : Space) (f : Frame) → find (is_abandoned z.frames) z.frames ≡ Some f → OnPaths n z → OnPaths n (tell_caller (closed z f.made) f (work.Verdict DeadReply))
abandons n z f e h =
    let k = find_in (is_abandoned z.frames) f z.frames e in
    told n (closed z f.made) f.caller (work.Verdict DeadReply) refl (closes n z f k.0 (abandoned_childless z.frames f k.1) h)

pub served_childless : (n : ℕ) (s : Space) (t : ℕ) (f : Frame) → OnPaths n s → served_innermost s t ≡ Some f → In f s.frames × NoChild s.frames f
served_childless n s t f h e =
    let k = served_is s t f e in
    ((innermost_is s.frames t f k.0).0, innermost_childless h.0 s.frames h.1.sorted h.1.parents t f k.0 k.1)

pub refuses_reply : (n : ℕ) (s : Space) (t : ℕ) (f : Frame) → served_innermost s t ≡ Some f → OnPaths n s → OnPaths n (reply_refused s t f)
unfolding reply_refused
refuses_reply n s t f e h =
    let y = owe s (OfThread t) (work.Refusal TransactionComplete) in
    let k = served_childless n s t f h e in
    let same = owe_frames s (OfThread t) (work.Refusal TransactionComplete) in
    told n (closed y f.made) f.caller (work.Verdict FailedReply) refl
    (closes n y f (subst (In f) (sym same) k.0) (subst (λ fs. NoChild fs f) (sym same) k.1) (calm n y s (owe_less s (OfThread t) (work.Refusal TransactionComplete) refl) same h))
