-- For SpacesAreTidy: threads and processes that end leave the frames on their paths.
use Rattle.bd_laws.proofs.words.Logic.{arith, ◌≡◌, ℕ, ◌==◌, false, cond, not, map, Some, None, refl, ap, sym, subst, ◌∙◌, filter}
use Rattle.bd_laws.proofs.words.Types.{Work, Frame, OfThread, OfProcess}
use Rattle.bd_laws.proofs.words.Space.{Space, is_on, thread_goes, gone_caller, frame_without, unread_frame, threads_go, without_process, tell_deaths}
use Rattle.bd_laws.proofs.words.Laws.{In, Part, Forest, OnPaths}
use Rattle.bd_laws.proofs.Lists.{in_filter}
use Rattle.bd_laws.proofs.Tests.{not_true}
use Rattle.bd_laws.proofs.IsInTurn.OneWay as one_way
use Rattle.bd_laws.proofs.IsInTurn.OneWay.{less_exits, Less}
use Rattle.bd_laws.proofs.OnPaths.PathWords.{server_stays, unread_serving}
use Rattle.bd_laws.proofs.OnPaths.FrameChanges.{Changes, forest_changed}
use Rattle.bd_laws.proofs.Machine.Deaths.{tell_deaths_aside}
use Rattle.bd_laws.proofs.Machine.Following.{threads_keep}
use Rattle.bd_laws.proofs.OnPaths.Paths.{call_hands, calm}

-- ---- exits

module _ (n : ℕ) (z : Space) (h : OnPaths n z) where
  -- nothing more is due, and the frames change as they may
  changed_by : (y : Space) (k : Frame → Frame) → Less y z → y.frames ≡ map k z.frames → Changes h.0 z.frames y.todo k → OnPaths n y
  changed_by y k l e c = (
    h.0,
    subst (λ fs. Forest n h.0 fs y.buffers y.todo) (sym e)
        (forest_changed n h.0 z.frames z.buffers z.todo h.1 k y.buffers y.todo (λ c i. (c, l.buffers c i, refl, refl)) (λ w b i q. l.due w b i (call_hands w b q)) c),
  )

  off_list : (seat : ℕ) (w : Work) → In w (filter (λ (x : Work). not (is_on (OfThread seat) x)) z.todo) → In w z.todo × ((t : ℕ) → w.list ≡ OfThread t → (t == seat) ≡ false)
  off_list seat w l = search (arith, in_filter, not_true)

  part_went : (seat t : ℕ) (f : Frame) → Part t (frame_without z.todo seat f) → Part t f
  part_went seat t f h = search arith

  pub exits : (seat : ℕ) → OnPaths n (thread_goes z seat)
  unfolding thread_goes
  exits seat = changed_by (thread_goes z seat) (frame_without z.todo seat) (less_exits.goes z seat) refl (record {
    made = λ f. refl;
    parent = λ f. refl;
    nested = λ f g l m e k. search arith;
    shared = λ t f g l m p q. h.1.shared t f g l m (part_went seat t f p) (part_went seat t g q);
    unserved = λ w f t l e i s. h.1.unserved w f t (off_list seat w l).0 e i (unread_serving z.todo (OfThread seat) f.made f.server t (server_stays seat _ t s).0);
    callers = λ w t b f l e o k. ap (gone_caller seat) k ∙ ap (λ c. cond c None (Some t)) ((off_list seat w l).1 t o);
  })

  unread_part : (p t : ℕ) (f : Frame) → Part t (unread_frame z.todo (OfProcess p) f) → Part t f
  unread_part p t f h = search (arith, unread_serving)

  pub process_exits : (p : ℕ) → OnPaths n (without_process z p)
  unfolding without_process
  process_exits p = changed_by (without_process z p) (unread_frame z.todo (OfProcess p)) (less_exits.rest z p) refl (record {
    made = λ f. refl;
    parent = λ f. refl;
    nested = λ f g l m e k. search arith;
    shared = λ t f g l m a b. h.1.shared t f g l m (unread_part p t f a) (unread_part p t g b);
    unserved = λ w f t l e i s. h.1.unserved w f t (in_filter _ w z.todo l).0 e i (unread_serving z.todo (OfProcess p) f.made f.server t s);
    callers = λ w t b f l e o k. k;
  })

pub ends : (n : ℕ) (z : Space) (p : ℕ) → OnPaths n z → OnPaths n (tell_deaths (without_process (threads_go z p) p) p)
ends n z p h =
    let b = without_process (threads_go z p) p in
    calm n (tell_deaths b p) b (one_way.tell_deaths_less b p) (tell_deaths_aside b p).frames (process_exits n (threads_go z p) (threads_keep (OnPaths n) (λ y seat k. exits n y k seat) z p h) p)
