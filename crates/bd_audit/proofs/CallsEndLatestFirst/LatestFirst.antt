-- CallsEndLatestFirst: a call of a thread that lives on stays open as long as the thread has a later one: so a step ends the latest only.
use Rattle.bd_laws.proofs.words.Logic.{◌≡◌, ℕ, ◌<◌, ◌≤◌, false, ◌&&◌, List, Some, inl, refl, ap, sym, subst, ◌∙◌, arith, list_any, eqb-true, eq-eqb, le-leb, ◌-◌, ◌==◌, Bool, true, cond, not, inr, find, cases_lt}
use Rattle.bd_laws.proofs.words.Types.{Entry, Frame, Serving, TransactionData, DeadReply, FailedReply, Step, Work, Thread, Actor, OfThread, WorkKind}
use Rattle.bd_laws.proofs.words.Space.{Space, opening, calls, is_frame, change, counted, after, is_some_and, closed, is_child_of, is_gone, served_innermost, owe, tell_caller, is_call, list_to_read, ripen, follow, notify, work_goes, deaths_go, names_go, assign_numbers, objects_go, is_abandoned, Delivery, delivered, own_notices, add_buffer, with_carried, refer, make_objects, transacted, refusal, replied, reply_refused, read_by, taken, serve}
use Rattle.bd_laws.proofs.words.Laws.{In, Nested, OnPaths, NoChild}
use Rattle.bd_laws.proofs.Machine.EveryStep.{every_whole_step, KeepsWhole}
use Rattle.bd_laws.proofs.Lists.{any_in, any_found, all_in, in_filter, filter_in, in_changed, find_in}
use Rattle.bd_laws.proofs.Tests.{both, not_false, call_kind, not_eq as differ, to_false, some_eq}
use Rattle.bd_laws.proofs.Always.{always_on_paths}
use Rattle.bd_audit.specs.Replies.{thread_made, At}
use Rattle.bd_audit.specs.Latest.{IsLatest}
use Rattle.bd_audit.specs.Ending.{EndsCall}
use Rattle.bd_laws.proofs.Machine.Steps.{always_steps}
use Rattle.bd_audit.proofs.Seated.{always_seated}
use Rattle.bd_audit.proofs.RepliesAnswerTheLatestOpenCall.Callers.{seat_below}
use Rattle.bd_space.specs.declared.space.WorkKind.TheVariants as work
use Rattle.bd_laws.proofs.Machine.Adding.{told_keeps}
use Rattle.bd_laws.proofs.Machine.Table.{Any, set_up_by, changes_by}
use Rattle.bd_laws.proofs.IsInTurn.Ripening.{read_in}
use Rattle.bd_laws.proofs.OnPaths.Forests.{one_frame}
use Rattle.bd_laws.proofs.OnPaths.Paths.{abandoned_childless, served_childless}
use Rattle.bd_laws.proofs.Machine.Fields.{serve_made}
use Rattle.bd_audit.proofs.RepliesAnswerTheLatestOpenCall.Unread as part
use Rattle.bd_audit.proofs.RepliesAnswerTheLatestOpenCall.Unread.{Leaves, leaves_table, leaves_exits, read_stay}

-- a frame that the thread of the seat serves, and a child of it in which it calls
pub record Way (s : Space) : Type 0 where
  pub seat : ℕ
  pub top : Frame
  pub child : Frame
  pub here : In top s.frames
  pub there : In child s.frames
  pub parent : child.parent ≡ Some top.made
  pub serving : top.server ≡ Serving seat

module _ (s : Space) (h : OnPaths s.steps s) where
  -- a frame of the path, no later than the top
  abbrev pub OnWay : Way s → Frame → Type 0
  OnWay w x = In x s.frames × (h.0 x.made ≡ h.0 w.top.made) × (x.made ≤ w.top.made)

  -- the frames on the way to the top stay, and the thread goes on serving the top
  pub record Stood (w : Way s) (fs : List Frame) : Type 0 where
    pub way : (x : Frame) → OnWay w x → (g : Frame) × In g fs × (g.made ≡ x.made) × (g.parent ≡ x.parent)
    pub server : (g : Frame) → In g fs → g.made ≡ w.top.made → g.server ≡ Serving w.seat

  -- In the space z every way of a thread that lives on stands as it did before the step.
  abbrev pub Earlier : Space → Type 0
  Earlier z = (w : Way s) (m : ℕ) → m < s.steps → thread_made z w.seat ≡ Some m → Stood w z.frames

  stood : (w : Way s) → Stood w s.frames
  stood w = search (arith, one_frame)

  now : Earlier s
  now w m lt i = stood w

  left : (z : Space) → Leaves z s → Earlier z
  left z k w m lt i = record {
    way = λ x on. let f = k.stay x on.0 in (f.0, f.1, f.2.made, f.2.parent);
    server = λ f l e. let g = k.came f l in g.3 w.seat m lt i ((stood w).server g.0 g.1 (sym g.2.made ∙ e));
  }

  -- ---- a frame closes that isn't on the way

  abbrev OffWay : Way s → ℕ → Type 0
  OffWay w made = (x : Frame) → OnWay w x → x.made ≡ made → ⊥

  closes : (z : Space) (made : ℕ) → ((w : Way s) → Stood w z.frames → OffWay w made) → Earlier z → Earlier (closed z made)
  unfolding closed
  closes z made off k w m lt i =
      let q = k w m lt i in
      record {
        way = λ x on.
            let g = q.way x on in
            let other = differ g.0.made made (λ e. off w q x on (sym g.2 ∙ e)) in
            (g.0, filter_in (λ (y : Frame). not (is_frame made y)) g.0 z.frames g.1 (not_false (is_frame made g.0) other), g.2, g.3);
        server = λ g l e. q.server g (in_filter (λ (y : Frame). not (is_frame made y)) g z.frames l).0 e;
      }

  tells : (z : Space) (f : Frame) (kind : WorkKind) → Earlier z → Earlier (tell_caller z f kind)
  unfolding owe
  tells z f kind = told_keeps Earlier kind (λ y t k. k) z f.caller

  module _ (w : Way s) where
    -- a frame without a child is off it: the child of the top is on the path, and later
    leaf_off : (f : Frame) → In f s.frames → NoChild s.frames f → OffWay w f.made
    leaf_off f l none x on q =
        let up = h.1.parents w.child w.top.made w.there w.parent in
        let low = h.1.leaf f w.child l w.there (ap h.0 (sym q) ∙ on.1 ∙ sym up.same) none in
        let lt = up.older in
        let le = on.2 in
        absurd (omega arith)

    -- a frame below the top has a child on the way
    next_on_way : (x : Frame) → OnWay w x → x.made < w.top.made → (y : Frame) × OnWay w y × (y.parent ≡ Some x.made)
    next_on_way x on lt = at (list_any (is_child_of x) s.frames) refl
      where
        low : (y : Frame) → In y s.frames → y.parent ≡ Some x.made → h.0 y.made ≡ h.0 w.top.made → y.made ≤ w.top.made
        low y l e r = search arith

        at : (b : Bool) → list_any (is_child_of x) s.frames ≡ b → (y : Frame) × OnWay w y × (y.parent ≡ Some x.made)
        at true e =
            let y = any_found (is_child_of x) s.frames e in
            let up = some_eq x.made y.0.parent y.2 in
            let r = (h.1.parents y.0 x.made y.1 up).same ∙ on.1 in
            (y.0, (y.1, r, low y.0 y.1 up r), up)
        at false e =
            let le = h.1.leaf x w.top on.0 w.here on.1 (λ g l p.
            let yes : is_child_of x g ≡ true = ap (λ o. is_some_and o (λ n. n == x.made)) p ∙ eq-eqb x.made x.made refl in
            let some = any_in (is_child_of x) g s.frames l yes in absurd (cc)) in
            absurd (omega arith)

    -- an abandoned frame is off it: the server of the top hasn't gone, and the others have their children
    abandoned_off : (z : Space) (f : Frame) → find (is_abandoned z.frames) z.frames ≡ Some f → Stood w z.frames → OffWay w f.made
    abandoned_off z f e k x on q =
        let found = find_in (is_abandoned z.frames) f z.frames e in
        elim (cases_lt x.made w.top.made) [
          | inl lt ↦ (
              let y = next_on_way x on lt in
              let g = k.way y.0 y.1 in
              abandoned_childless z.frames f found.1 g.0 g.1 (g.3 ∙ y.2 ∙ ap (λ n. Some n) q))
          | inr ge ↦ (
              let le = on.2 in
              let is : f.made ≡ w.top.made = omega arith in
              let gone = (both (is_gone f.server) (not (list_any (is_child_of f) z.frames)) found.1).0 in
              let served = ap is_gone (k.server f found.0 is) in
              absurd (cc))
        ]

  pub abandons : (z : Space) (f : Frame) → find (is_abandoned z.frames) z.frames ≡ Some f → Earlier z → Earlier (tell_caller (closed z f.made) f (work.Verdict DeadReply))
  abandons z f e k = tells (closed z f.made) f (work.Verdict DeadReply) (closes z f.made (λ w. abandoned_off w z f e) k)

  -- the frame that a thread serves innermost
  serves_closed : (seat : ℕ) (f : Frame) → served_innermost s seat ≡ Some f → Earlier (closed s f.made)
  serves_closed seat f e = let k = served_childless s.steps s seat f h e in closes s f.made (λ w stands. leaf_off w f k.0 k.1) now

  -- ---- calls and readings

  transacts : (a : Actor) (d : TransactionData) (v : Delivery) → Earlier (transacted s a d v)
  transacts a d v w m lt i =
      let p = part.transacts s a d v in
      record {
        way = λ x on. (x, p.stay x on.0, refl, refl);
        server = λ g l r. elim (p.came g l) [
          | inl j ↦ (stood w).server g j r
          | inr new ↦ (let made = new.made in let below = h.1.below w.top w.here in absurd (omega arith))
        ];
      }

  -- the top's call was read before, so that no other thread comes to serve it
  module _ (u : Thread) (left : ℕ) where
    abbrev called_in : Frame → Bool
    called_in f = list_any (λ (w : Work). is_call f.made w.kind) (taken s left (list_to_read s u))

    uncalled : (x : Frame) (t : ℕ) → In x s.frames → x.server ≡ Serving t → called_in x ≡ false
    uncalled x t l e = to_false (called_in x) (λ k.
        let w = any_found (λ (v : Work). is_call x.made v.kind) (taken s left (list_to_read s u)) k in
        h.1.unserved w.0 x t (read_in s u left w.0 w.1) (call_kind x.made w.0.kind w.2) l e)

    reads : Earlier (read_by s u.seat (taken s left (list_to_read s u)))
    unfolding read_by
    reads w m lt i = record {
      way = λ x on. let f = read_stay s u.seat (taken s left (list_to_read s u)) x on.0 in (f.0, f.1, f.2.made, f.2.parent);
      server = λ g l e.
          let x = in_changed called_in (serve u.seat) g s.frames l in
          let made = sym (serve_made u.seat (called_in x.0) x.0) ∙ ap (λ (y : Frame). y.made) (sym x.2) ∙ e in
          let server = (stood w).server x.0 x.1 made in
          ap (λ (y : Frame). y.server) x.2 ∙ ap (λ b. (cond b (serve u.seat x.0) x.0).server) (uncalled x.0 w.seat x.1 server) ∙ server;
    }

  -- ---- the step

  pub kept : (seat : ℕ) (x : Step) → KeepsWhole s seat x Earlier Earlier
  unfolding replied reply_refused closed owe delivered own_notices add_buffer with_carried assign_numbers refer make_objects ripen follow notify work_goes deaths_go objects_go names_go
  kept seat x = record {
    set_up = set_up_by Leaves Any leaves_table s seat x Earlier left;
    changes = changes_by Leaves Any leaves_table s seat x Earlier left leaves_exits (record {
      transacts = λ a d parcel v e i g. transacts a d v;
      replies = λ a d parcel f v e i g c. tells _ f (work.Reply s.steps) (serves_closed a.thread.seat f g);
      reads = λ a limit i e n. reads a.thread (limit - 4);
      ripens = λ z k. k;
    });
    follows = λ z k. k;
    refuses = λ u c. left _ (leaves_table.owes s (OfThread u) (work.Refusal (refusal c)) tt);
    fails = λ a d parcel f e i g. tells _ f (work.Verdict FailedReply) (serves_closed a.thread.seat f g);
    abandons = abandons;
  }

  -- ---- two calls of one thread

  -- the earlier of two calls is on the way to the top from which the later is made
  earlier_way : (t : ℕ) (f g : Frame) → In f s.frames → In g s.frames → f.caller ≡ Some t → g.caller ≡ Some t → f.made < g.made → (w : Way s) × (w.seat ≡ t) × OnWay w f
  earlier_way t f g l k calls also lt =
      let share = h.1.shared t f g l k (inl calls) (inl also) in
      let link = h.1.linked f g l k share lt in
      let up = h.1.parents g link.0 k link.1 in
      let made = up.made in
      let le = link.2 in
      let low : f.made ≤ up.frame.made = omega arith in (
        record { seat = t; top = up.frame; child = g; here = up.here; there = k; parent = link.1 ∙ ap (λ n. Some n) (sym made); serving = served up.frame up.nested },
        refl,
        (l, share ∙ up.same ∙ ap h.0 (sym made), low),
      )
    where
      served : (p : Frame) → Nested p g → p.server ≡ Serving t
      served p h = search arith

  -- Of two open calls of a thread that lives on the earlier stays open.
  pub earlier_open : (z : Space) → Earlier z → (t m : ℕ) (f g : Frame) → In f s.frames → In g s.frames → f.caller ≡ Some t → g.caller ≡ Some t → f.made < g.made
      → m < s.steps → thread_made z t ≡ Some m → (x : Frame) × In x z.frames × (x.made ≡ f.made)
  earlier_open z k t m f g l there calls also lt old lives =
      let w = earlier_way t f g l there calls also lt in
      let x = (k w.0 m old (subst (λ u. thread_made z u ≡ Some m) (sym w.1) lives)).way f w.2 in
      (x.0, x.1, x.2)

module _ (es : List Entry) (e : Entry) (j m : ℕ) (h : EndsCall (after opening es) e j m) where
  abbrev s : Space
  s = after opening es

  no_later : (g : Frame) → In g s.frames → g.caller ≡ Some h.seat → j < g.made → ⊥
  unfolding counted
  no_later g l also lt =
      let paths = always_on_paths es in
      let z = (change s e.seat e.step).space in
      let call = any_found (λ g. is_frame j g && calls h.seat g) s.frames h.stands in
      let is = both (is_frame j call.0) (calls h.seat call.0) call.2 in
      let made = eqb-true call.0.made j is.0 in
      let old : m < s.steps = (let below = seat_below es m h.seat (always_seated es h.seat m h.lives) in let place = always_steps es in omega arith) in
      let k = every_whole_step s e.seat e.step (Earlier s paths) (Earlier s paths) (kept s paths e.seat e.step) in
      let x = earlier_open s paths z k h.seat m call.0 g call.1 l (some_eq h.seat call.0.caller is.1) also (omega arith) old h.lives_on in
      let some = any_in (is_frame j) x.0 z.frames x.1 (eq-eqb x.0.made j (x.2 ∙ made)) in
      let none : list_any (is_frame j) z.frames ≡ false = h.closes in
      absurd (cc)

  ends_latest : IsLatest s j m
  ends_latest = search (arith, all_in, calls, no_later, some_eq, le-leb)

pub latest_first : (es : List Entry) (i j m : ℕ) → At es i (λ z e. EndsCall z e j m) → At es i (λ z e. IsLatest z j m)
latest_first es i j m p = (p.0, p.1, p.2, ends_latest p.0 p.1 j m p.3)
