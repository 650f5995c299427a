-- For SpacesAreTidy: a reading takes a call on, onto the path of its frame; and one-way calls become due.
use Rattle.bd_laws.proofs.words.Logic.{◌≡◌, ℕ, ◌<◌, ◌-◌, Bool, true, false, cond, not, ◌&&◌, List, [], ◌∷◌, ◌++◌, map, length, Option, Some, None, ◌⊎◌, inl, inr, refl, ap, sym, subst, ◌∙◌, filter, arith, nat_lt, list_any, is_none, eq-eqb}
use Rattle.bd_laws.proofs.words.Types.{Work, Frame, Turn, Buffer, Thread, OfThread, OfProcess}
use Rattle.bd_laws.proofs.words.Space.{changed, Space, innermost_in, with_work, list_to_read, work_on, has_work_in, is_on, is_call, is_item, ripen, ripened, is_ripe, turns_of, turn_of, taken, read_by, serve, handed_buffers, buffer_taken, ends_read, bytes_read}
use Rattle.bd_space.specs.declared.space.WorkKind.TheVariants as work
use Rattle.bd_laws.proofs.words.Laws.{In, Forest, Part, Nested, OnPaths}
use Rattle.bd_laws.proofs.Lists.{in_filter, in_changed, in_filter_map, any_found, any_in}
use Rattle.bd_laws.proofs.Tests.{not_true, call_kind, on_thread}
use Rattle.bd_laws.proofs.IsInTurn.Ripening.{read_in, taken_in, turn_parts}
use Rattle.bd_laws.proofs.OnPaths.PathWords.{same_item}
use Rattle.bd_laws.proofs.OnPaths.Forests.{Kept, forest_work}
use Rattle.bd_laws.proofs.OnPaths.FrameChanges.{Changes, forest_changed}
use Rattle.bd_laws.proofs.OnPaths.Innermost.{none_innermost}
use Rattle.bd_laws.proofs.Machine.Fields.{serve_made}

-- ---- one-way calls become due

module _ (n place : ℕ) (root : ℕ → ℕ) (fs : List Frame) (bs : List Buffer) where
  ripens_one : (r : Bool) (todo : List Work) (t : Turn) → t.made < n → ((f : Frame) → In f fs → f.made ≡ t.made → ⊥)
      → (r ≡ true → list_any (λ (w : Work). is_call t.made w.kind) todo ≡ false) → Forest n root fs bs todo
      → Forest n root fs bs (cond r (with_work place todo (OfProcess t.receiver) (work.Call t.made)) todo)
  ripens_one true todo t lt free new h =
      forest_work n root fs bs todo h _ t.made t.receiver refl refl lt free
      (λ w l e. let some = any_in (λ (x : Work). is_call t.made x.kind) w todo l (search (arith, eq-eqb)) in let none = new refl in absurd (cc))
  ripens_one false todo t lt free new h = h

  ripens_all : (ts older : List Turn) (todo : List Work) → ((t : Turn) → In t ts → (t.made < n) × ((f : Frame) → In f fs → f.made ≡ t.made → ⊥)) → Forest n root fs bs todo
      → Forest n root fs bs (ripened place older todo ts)
  ripens_all [] older todo k h = h
  ripens_all (t ∷ ts) older todo k h =
      ripens_all ts (older ++ t ∷ []) _ (λ u l. k u (inr l))
      (ripens_one (is_ripe todo older t) todo t (k t (inl refl)).0 (k t (inl refl)).1 (λ e. search arith) h)

pub ripens : (n : ℕ) (z : Space) → OnPaths n z → OnPaths n (ripen z)
unfolding ripen
ripens n z h = (
  h.0,
  ripens_all n z.steps h.0 z.frames z.buffers (turns_of z.buffers) [] z.todo (λ t l.
      let b = in_filter_map turn_of t z.buffers l in
      let k = turn_parts b.0 t b.2 in
      ((let lt = h.1.buffers b.0 b.1 in let e = k.0 in omega arith), λ f i e. h.1.turns b.0 f b.1 k.3 i (e ∙ k.0))) h.1,
)

-- ---- readings

changed_map : (p : Frame → Bool) (f : Frame → Frame) (xs : List Frame) → changed p f xs ≡ map (λ (x : Frame). cond (p x) (f x) x) xs
changed_map p f xs = search arith

handed_kept : (bs : List Buffer) (o : Option Buffer) → Kept (handed_buffers bs o) bs
handed_kept bs o c l = search (arith, in_changed)

-- an item that ends the reading is the last one
taken_ends : (s : Space) (ws : List Work) (left : ℕ) (v w : Work) → In v (taken s left ws) → In w (taken s left ws) → ends_read v.kind ≡ true → ends_read w.kind ≡ true → v ≡ w
taken_ends s [] left v w l m e f = absurd l
taken_ends s (x ∷ xs) left v w l m e f =
    at (nat_lt left 68) (taken s (left - length (bytes_read s x)) xs) (λ i j. taken_ends s xs (left - length (bytes_read s x)) v w i j e f) l m
  where
    on : (b : Bool) → ends_read x.kind ≡ b → (rest : List Work) → (In v rest → In w rest → v ≡ w) → In v (x ∷ cond b [] rest) → In w (x ∷ cond b [] rest) → v ≡ w
    on b q rest k h h2 = search arith

    at : (b : Bool) (rest : List Work) → (In v rest → In w rest → v ≡ w) → In v (cond b [] (x ∷ cond (ends_read x.kind) [] rest)) → In w (cond b [] (x ∷ cond (ends_read x.kind) [] rest)) → v ≡ w
    at b rest k i j = search arith

module _ (n : ℕ) (s : Space) (h : OnPaths n s) (t : Thread) (left : ℕ) where
  abbrev ws : List Work
  ws = taken s left (list_to_read s t)

  abbrev called_in : Frame → Bool
  called_in f = list_any (λ (w : Work). is_call f.made w.kind) ws

  item : (f : Frame) → called_in f ≡ true → (w : Work) × In w ws × (w.kind ≡ work.Call f.made)
  item f e = let k = any_found (λ (w : Work). is_call f.made w.kind) ws e in (k.0, k.1, call_kind f.made k.0.kind k.2)

  -- the list is the thread's own, or its process's while the thread is in no frame
  Source : Type 0
  Source = ((w : Work) → In w ws → w.list ≡ OfThread t.seat) ⊎ (innermost_in s.frames t.seat ≡ None)

  source : Source
  unfolding Source list_to_read
  source = at (has_work_in s.todo (OfThread t.seat)) t.looping (innermost_in s.frames t.seat) refl refl
    where
      at : (b c : Bool) (o : Option Frame) → innermost_in s.frames t.seat ≡ o
          → list_to_read s t ≡ work_on s.todo (cond b (Some (OfThread t.seat)) (cond (c && is_none o) (Some (OfProcess t.process)) None))
          → ((w : Work) → In w ws → w.list ≡ OfThread t.seat) ⊎ (innermost_in s.frames t.seat ≡ None)
      at true c o e k =
          inl (λ w l. on_thread t.seat w.list (in_filter (is_on (OfThread t.seat)) w s.todo (subst (In w) k (taken_in s (list_to_read s t) left w l))).1)
      at false c None e k = inr e
      at false true (Some f) e k = inl (λ w l. absurd (subst (In w) k (taken_in s (list_to_read s t) left w l)))
      at false false (Some f) e k = inl (λ w l. absurd (subst (In w) k (taken_in s (list_to_read s t) left w l)))

  own_path : (f g : Frame) → In f s.frames → In g s.frames → called_in f ≡ true → Part t.seat g → h.0 f.made ≡ h.0 g.made
  unfolding Source
  own_path f g l m e p = elim source [
    | inl own ↦ (
        let w = item f e in
        let u = h.1.waiting w.0 t.seat f (read_in s t left w.0 w.1) w.2 (own w.0 w.1) l in
        sym u.3 ∙ h.1.shared t.seat u.0 g u.1 m (inl u.2) p)
    | inr none ↦ absurd (none_innermost s.frames t.seat none g m p)
  ]

  both_path : (f g : Frame) → In f s.frames → In g s.frames → called_in f ≡ true → called_in g ≡ true → h.0 f.made ≡ h.0 g.made
  both_path f g l m e p = search (arith, item, taken_ends)

  abbrev now : Frame → Frame
  now f = cond (called_in f) (serve t.seat f) f

  now_caller : (f : Frame) → (now f).caller ≡ f.caller
  now_caller f = search arith

  served_or_not : (f : Frame) → (called_in f ≡ true) ⊎ (now f ≡ f)
  served_or_not f = search arith

  part_now : (u : ℕ) (f : Frame) → Part u (now f) → Part u f ⊎ ((called_in f ≡ true) × (u ≡ t.seat))
  part_now u f p = search arith

  reading_changes : (ud : List Work) → ((w : Work) → In w ud → In w s.todo × ((v : Work) → In v ws → w ≡ v → ⊥)) → Changes h.0 s.frames ud now
  reading_changes ud left_over = record {
    made = λ f. serve_made t.seat (called_in f) f;
    parent = λ f. on (called_in f) f;
    nested = λ f g l m e k. elim (served_or_not f) [
      | inl served ↦ (let w = item f served in absurd (h.1.childless w.0 f (read_in s t left w.0 w.1) w.2 l g m e))
      | inr same ↦ subst (λ (x : Frame). Nested x (now g)) (sym same) (elim k [
        | inl gone ↦ inl (gone.0, now_caller g ∙ gone.1)
        | inr by ↦ inr (by.0, by.1, now_caller g ∙ by.2)
      ])
    ];
    shared = λ u f g l m p q. elim (part_now u f p) [
      | inl old ↦ elim (part_now u g q) [ inl too ↦ h.1.shared u f g l m old too | inr b ↦ sym (own_path g f m l b.0 (subst (λ x. Part x f) b.1 old)) ]
      | inr a ↦ elim (part_now u g q) [ inl old ↦ own_path f g l m a.0 (subst (λ x. Part x g) a.1 old) | inr b ↦ both_path f g l m a.0 b.0 ]
    ];
    unserved = λ w f u l e i q. elim (served_or_not f) [
      | inl a ↦ (let v = item f a in let k = left_over w l in k.1 v.0 v.1 (h.1.one w v.0 f.made k.0 (read_in s t left v.0 v.1) e v.2))
      | inr same ↦ h.1.unserved w f u (left_over w l).0 e i (ap (λ (x : Frame). x.server) (sym same) ∙ q)
    ];
    callers = λ w u b f l e o k. now_caller f ∙ k;
  }
    where
      on : (b : Bool) (f : Frame) → (cond b (serve t.seat f) f).parent ≡ f.parent
      on b f = search arith

  pub reads : OnPaths n (read_by s t.seat ws)
  unfolding read_by
  reads =
      let ud = filter (λ (w : Work). not (list_any (λ (d : Work). is_item w d) ws)) s.todo in (
        h.0,
        subst (λ fs. Forest n h.0 fs (handed_buffers s.buffers (buffer_taken s ws)) ud) (sym (changed_map called_in (serve t.seat) s.frames))
            (forest_changed n h.0 s.frames s.buffers s.todo h.1 now (handed_buffers s.buffers (buffer_taken s ws)) ud (handed_kept s.buffers (buffer_taken s ws))
            (λ w b l e. (in_filter (λ (w : Work). not (list_any (λ (d : Work). is_item w d) ws)) w s.todo l).0)
            (reading_changes ud (λ w l.
            let k = in_filter (λ (w : Work). not (list_any (λ (d : Work). is_item w d) ws)) w s.todo l in (
              k.0,
              λ v i is.
                  let yes = any_in (λ (d : Work). is_item w d) v ws i (same_item w v is) in
                  let none = not_true (list_any (λ (d : Work). is_item w d) ws) k.1 in absurd (cc),
            )))),
      )
