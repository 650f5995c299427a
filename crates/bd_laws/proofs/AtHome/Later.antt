-- What a part of a step that sends nothing leaves of what SpacesAreTidy knows of receivers: it hands over, carries and calls for
-- nothing more, and threads that are to read something stay. The laws of receivers (Homes, InWindows, OtherCalls) rest on this one walk.
use Rattle.bd_laws.proofs.words.Logic.{arith, ◌++◌, ◌≡◌, ℕ, Bool, List, Option, Some, None, refl, ap, sym, ◌∙◌, eqb-true, eq-eqb, ◌==◌, false, cond, subst, list_any, inl, inr, [], ◌∷◌}
use Rattle.bd_laws.proofs.words.Types.{Identity, Process, Thread, Object, Reference, Name, DeathNotification, Carried, Step, Buffer, Frame, Work, TodoList, OfThread, WorkKind}
use Rattle.bd_laws.proofs.words.Space.{Space, thread_in, hands_out, is_asking, is_shaking, assign_numbers, owe, closed, follow, notify, work_goes, deaths_go, objects_go, names_go, without_buffer, ask, drop_asked, acknowledge, with_looping, read_by, thread_goes, threads_go, without_process, tell_deaths, with_thread, with_process, with_manager, with_spam_detection, handed_buffers, serve, hand_out, is_made_at, buffer_taken, is_call, handshakes}
use Rattle.bd_space.specs.declared.space.WorkKind.TheVariants as work
use Rattle.bd_laws.proofs.words.Laws.{In, Pairs, OtherSeat, Homed, IsInWindows, OfOthers}
use Rattle.bd_laws.proofs.Lists.{in_append, in_push, in_left, in_filter, filter_in, in_without, in_map, in_changed, changed_in, find_some, pairs_push, pairs_filter, pairs_changed}
use Rattle.bd_laws.proofs.Tests.{not_true}
use Rattle.bd_laws.proofs.Machine.Deaths.{KeptOnDeaths, on_kept, on_told, on_mapped, on_commands}
use Rattle.bd_laws.proofs.Machine.EveryStep.{Keeps}
use Rattle.bd_laws.proofs.Machine.Table.{Carried as Calls}
use Rattle.bd_laws.proofs.Machine.Following.{ends_by, threads_by}
use Rattle.bd_laws.proofs.FollowingIsLocal.Handshakes.{is_a_handshake}
use Rattle.bd_laws.proofs.IsInTurn.OneWay.{Less, owe_less, follow_less}
use Rattle.bd_laws.proofs.OnPaths.PathWords.{caller_stays}

-- no more buffers, and each for the same receiver
abbrev Received : List Buffer → List Buffer → Type 0
Received cs bs = (c : Buffer) → In c cs → (b : Buffer) × In b bs × (b.made ≡ c.made) × (b.receiver ≡ c.receiver)

-- no more frames, and no callers but those that were
abbrev Called : List Frame → List Frame → Type 0
Called fs gs = (f : Frame) → In f fs → (g : Frame) × In g gs × (g.made ≡ f.made) × ((t : ℕ) → f.caller ≡ Some t → g.caller ≡ Some t)

abbrev Carries : List Reference → List Reference → Type 0
Carries rs ss = (r : Reference) (b q : ℕ) → In r rs → r.holder ≡ Carried b q → In r ss

abbrev Stays : List Thread → Thread → Type 0
Stays ts t = (u : Thread) × In u ts × (u.seat ≡ t.seat) × (u.process ≡ t.process)

abbrev Handing : List Work → List Work → Type 0
Handing ud td = (w : Work) (b : ℕ) → In w ud → hands_out w.kind ≡ Some b → In w td

pub record Later (z y : Space) : Type 0 where
  pub due : Handing z.todo y.todo
  pub carried : Carries z.references y.references
  pub buffers : Received z.buffers y.buffers
  pub frames : Called z.frames y.frames
  pub seats : Pairs OtherSeat y.threads → Pairs OtherSeat z.threads
  pub readers : (w : Work) (b : ℕ) (t : Thread) → In w z.todo → hands_out w.kind ≡ Some b → w.list ≡ OfThread t.seat → In t y.threads → Stays z.threads t

same_buffers : (bs : List Buffer) → Received bs bs
same_buffers bs c l = (c, l, refl, refl)

same_frames : (fs : List Frame) → Called fs fs
same_frames fs f l = (f, l, refl, λ t c. c)

-- ---- what rests on it

pub later_home : (n : ℕ) (z y : Space) → Later z y → Homed n y.threads y.references y.buffers y.todo → Homed n z.threads z.references z.buffers z.todo
later_home n z y l h = record {
  seats = l.seats h.seats;
  home = λ w t b i on e.
      let k = h.home w t b (l.due w b i e) on e in
      let u = l.readers w b k.0 i e (on ∙ ap OfThread (sym k.2)) k.1 in (
        u.0,
        u.1,
        u.2 ∙ k.2,
        λ r q m c. u.3 ∙ k.3 r q (l.carried r b q m c) c,
        λ c m is. let d = l.buffers c m in u.3 ∙ k.4 d.0 d.1 (d.2 ∙ is) ∙ d.3,
      );
  carried = λ r b q m c. h.carried r b q (l.carried r b q m c) c;
}

pub later_windows : (z y : Space) → Later z y → IsInWindows y → IsInWindows z
later_windows z y l h r c q i m e = let b = l.buffers c m in sym b.3 ∙ h r b.0 q (l.carried r c.made q i e) b.1 (e ∙ ap (λ n. Carried n q) (sym b.2))

pub later_others : (z y : Space) → Later z y → OfOthers y → OfOthers z
later_others z y l h w f t i e on m c = let g = l.frames f m in h w g.0 t (l.due w f.made i (ap hands_out e)) (e ∙ ap work.Call (sym g.2)) on g.1 (g.3 t c)

-- ---- the parts of a step

-- where threads stay as they are
on_threads : (z y : Space) → z.threads ≡ y.threads → Handing z.todo y.todo → Carries z.references y.references → Received z.buffers y.buffers → Called z.frames y.frames → Later z y
on_threads z y ts due carried buffers frames = search arith

beside_later : (z : Space) (qs : List Process) (m : Option Identity) (os : List Object) (rs : List Reference) (ns : List Name) (ds : List DeathNotification) → Carries rs z.references
    → Later (record z { processes = qs; manager = m; objects = os; references = rs; names = ns; deaths = ds }) z
beside_later z qs m os rs ns ds k = on_threads _ z refl (λ w b l e. l) k (same_buffers z.buffers) (same_frames z.frames)

same_later : (z : Space) → Later z z
same_later z = beside_later z _ _ _ _ _ _ (λ r b q l c. l)

pub later_trans : (z y x : Space) → Later z y → Later y x → Later z x
later_trans z y x h k = record {
  due = λ w b l e. k.due w b (h.due w b l e) e;
  carried = λ r b q l c. k.carried r b q (h.carried r b q l c) c;
  buffers = λ c l. let b = h.buffers c l in let a = k.buffers b.0 b.1 in (a.0, a.1, a.2 ∙ b.2, a.3 ∙ b.3);
  frames = λ f l. let g = h.frames f l in let e = k.frames g.0 g.1 in (e.0, e.1, e.2 ∙ g.2, λ t c. e.3 t (g.3 t c));
  seats = λ p. h.seats (k.seats p);
  readers = λ w b t l e on i.
      let v = k.readers w b t (h.due w b l e) e on i in
      let u = h.readers w b v.0 l e (on ∙ ap OfThread (sym v.2)) v.1 in (u.0, u.1, u.2 ∙ v.2, u.3 ∙ v.3);
}

-- what touches neither threads, references nor frames
less_later : (z y : Space) → Less z y → z.threads ≡ y.threads → z.references ≡ y.references → z.frames ≡ y.frames → Later z y
less_later z y l ts rs fs =
    on_threads z y ts l.due (λ r b q i c. subst (In r) rs i) (λ c i. same_buffers y.buffers c (l.buffers c i)) (subst (λ gs. Called gs y.frames) (sym fs) (same_frames y.frames))

pub owe_later : (z : Space) (list : TodoList) (kind : WorkKind) → hands_out kind ≡ None → Later (owe z list kind) z
unfolding owe
owe_later z list kind none = less_later _ z (owe_less z list kind none) refl refl refl

pub closed_later : (z : Space) (made : ℕ) → Later (closed z made) z
unfolding closed
closed_later z made = on_threads _ z refl (λ w b l e. l) (λ r b q l c. l) (same_buffers z.buffers) (λ f l. same_frames z.frames f (in_filter _ f z.frames l).0)

-- where processes and threads alone change
seats_later : (z : Space) (qs : List Process) (ts : List Thread) → (Pairs OtherSeat z.threads → Pairs OtherSeat ts) → ((t : Thread) → In t z.threads → Stays ts t)
    → Later (record z { processes = qs; threads = ts }) z
seats_later z qs ts seats stay = search arith

looping_later : (z : Space) (seat : ℕ) (looping : Bool) → Later (with_looping z seat looping) z
unfolding with_looping
looping_later z seat looping =
    seats_later z _ _ (pairs_changed OtherSeat mine set (λ x y d e. d (sym (at (x.seat == seat) x).0 ∙ e ∙ (at (y.seat == seat) y).0)) z.threads)
    (λ t i. let k = at (t.seat == seat) t in (_, changed_in mine set t z.threads i, k.0, k.1))
  where
    mine : Thread → Bool
    mine t = t.seat == seat

    set : Thread → Thread
    set t = record t { looping = looping }

    at : (q : Bool) (t : Thread) → (let u : Thread = cond q (record t { looping = looping }) t in (u.seat ≡ t.seat) × (u.process ≡ t.process))
    at q t = search arith

opened_later : (z : Space) (qs : List Process) (seat p : ℕ) → thread_in z.threads seat ≡ None
    → Later (record z { processes = qs; threads = z.threads ++ record { made = z.steps; seat = seat; process = p; looping = false } ∷ [] }) z
opened_later z qs seat p free =
    seats_later z _ _ (λ h. pairs_push OtherSeat _ z.threads h (λ t l e. let some = find_some (λ (t : Thread). t.seat == seat) t z.threads l (eq-eqb t.seat seat e) in absurd (cc)))
    (λ t i. (t, in_left t z.threads _ i, refl, refl))

pub read_later : (z : Space) (seat : ℕ) (ws : List Work) → Later (read_by z seat ws) z
unfolding read_by
read_later z seat ws =
    on_threads _ z refl (λ w b l e. (in_filter _ w z.todo l).0)
    (λ r b q l c. elim (in_append r z.references (handshakes z 0 ws) l) [ inl i ↦ i | inr i ↦ (let e = is_a_handshake z ws 0 r i in absurd (cc)) ]) (handed (buffer_taken z ws))
    (λ f l.
    let g = in_changed called_in (serve seat) f z.frames l in
    let k = served (called_in g.0) g.0 in (g.0, g.1, sym k.0 ∙ sym (ap (λ (x : Frame). x.made) g.2), λ t c. sym k.1 ∙ sym (ap (λ (x : Frame). x.caller) g.2) ∙ c))
  where
    called_in : Frame → Bool
    called_in f = list_any (λ (w : Work). is_call f.made w.kind) ws

    served : (c : Bool) (f : Frame) → ((cond c (serve seat f) f).made ≡ f.made) × ((cond c (serve seat f) f).caller ≡ f.caller)
    served c f = search arith

    at : (e : Bool) (b c : Buffer) → c ≡ cond e (hand_out b) b → (b.made ≡ c.made) × (b.receiver ≡ c.receiver)
    at e b c is = search arith

    handed : (o : Option Buffer) → Received (handed_buffers z.buffers o) z.buffers
    handed None c l = same_buffers z.buffers c l
    handed (Some b) c l = let x = in_changed (is_made_at b.made) hand_out c z.buffers l in let e = at (is_made_at b.made x.0) x.0 c x.2 in (x.0, x.1, e.0, e.1)

left_later : (z : Space) (seat : ℕ) → Later (thread_goes z seat) z
unfolding thread_goes
left_later z seat = search (arith, in_filter, in_map, caller_stays, pairs_filter, not_true, filter_in, eq-eqb, eqb-true)

without_later : (z : Space) (p : ℕ) → Later (without_process z p) z
unfolding without_process
without_later z p = search (arith, in_filter, same_buffers, in_map)

deaths_later : (z : Space) → KeptOnDeaths (λ y. Later y z)
deaths_later z = search (arith, later_trans, owe_later)

ended_later : (z : Space) (p : ℕ) → Later (tell_deaths (without_process (threads_go z p) p) p) z
ended_later = ends_by Later later_trans (threads_by Later same_later later_trans left_later) without_later (λ z p. on_told _ (deaths_later z) z p (same_later z))

one_carries : (rs : List Reference) (x : Reference) → ((b q : ℕ) → x.holder ≡ Carried b q → ⊥) → Carries (rs ++ x ∷ []) rs
one_carries rs x none r b q l c = search (arith, in_push)

-- ---- every step

pub later_keeps : (s : Space) (seat : ℕ) (x : Step) (F : Space → Type 0) → ((z y : Space) → Later z y → F y → F z) → F s → Calls s seat x F → Keeps s seat x F F
unfolding with_thread with_process with_manager with_spam_detection without_buffer ask assign_numbers drop_asked acknowledge deaths_go follow names_go notify objects_go work_goes
later_keeps s seat x F later h k =
    let from : (z : Space) → Later z s → F z = λ z l. later z s l h in
    record {
      set_up = record {
        same = h;
        opened = λ pid euid window free. from _ (opened_later s _ seat s.steps free);
        attached = λ p free. from _ (opened_later s s.processes seat p free);
        managed = λ a e b. from _ (beside_later s _ _ _ _ _ _ (one_carries s.references _ (λ b q e. cc)));
        marked = λ p on. from _ (beside_later s _ s.manager s.objects s.references s.names s.deaths (λ r b q l c. l));
      };
      changes = record {
        transacts = k.transacts;
        replies = k.replies;
        frees = λ p ptr b e t. from _ (on_threads _ s refl (λ w b l e. l) (λ r b q l c. (in_filter _ r s.references l).0)
            (λ c l. same_buffers s.buffers c (in_filter _ c s.buffers l).0) (same_frames s.frames));
        asks = λ a n strong o e i t. from _ (beside_later s _ _ _ _ _ _ (one_carries s.references _ (λ b q e. cc)));
        drops = λ p o strong. from _ (beside_later s _ _ _ _ _ _ (λ r b q l c. in_without (is_asking p o strong) r s.references l));
        acknowledges = λ o strong i. from _ (beside_later s _ _ _ _ _ _ (λ r b q l c. in_without (is_shaking o strong) r s.references l));
        loops = λ a looping e. from _ (looping_later s a.thread.seat looping);
        on_deaths = on_commands s F (on_mapped s _ F from (on_kept _ (deaths_later s) s (same_later s)));
        reads = k.reads;
        leaves = λ a e. from _ (left_later s a.thread.seat);
        ends = λ a e. from _ (ended_later s a.process.made);
        ripens = k.ripens;
      };
      follows = λ z. later _ z (search (arith, less_later, follow_less));
      closes = λ z made. later _ z (closed_later z made);
      refuses = λ z t r. later _ z (owe_later z (OfThread t) (work.Refusal r) refl);
      tells = λ z t r. later _ z (owe_later z (OfThread t) (work.Verdict r) refl);
    }
