-- For SpacesAreTidy: a new frame stands at the end of its path.
use Rattle.bd_laws.proofs.words.Logic.{◌≡◌, ℕ, ◌<◌, ◌≤◌, ◌==◌, suc, false, cond, List, [], ◌∷◌, ◌++◌, Option, Some, ◌⊎◌, inl, inr, refl, ap, sym, subst, ◌∙◌, arith, eqb-true, eq-eqb}
use Rattle.bd_laws.proofs.words.Types.{Frame, Buffer, Work, Pending, Serving, OfThread}
use Rattle.bd_space.specs.declared.space.WorkKind.TheVariants as work
use Rattle.bd_laws.proofs.words.Laws.{In, Forest, Older, NoChild, Part, Waiting, Parent}
use Rattle.bd_laws.proofs.Lists.{in_left, in_last, pairs_push, all_push, two_push}

-- the frame to come, with the path that it goes on and the call that is due for it
pub record Calling (n : ℕ) (root : ℕ → ℕ) (fs : List Frame) (bs : List Buffer) (seat : ℕ) (parent : Option ℕ) (nw : Work) : Type 0 where
  pub stem : ℕ
  pub low : stem ≤ n
  pub from : (p : ℕ) → parent ≡ Some p → (f : Frame) × In f fs × (f.made ≡ p) × (f.server ≡ Serving seat) × NoChild fs f × (root p ≡ stem)
  pub joined : (f : Frame) → In f fs → root f.made ≡ stem → (p : ℕ) × (parent ≡ Some p) × (f.made ≤ p)
  pub own : (f : Frame) → In f fs → Part seat f → root f.made ≡ stem
  pub waits : (t : ℕ) → nw.list ≡ OfThread t → (g : Frame) × In g fs × (g.caller ≡ Some t) × (root g.made ≡ stem)
  pub kind : nw.kind ≡ work.Call n

module _ (n : ℕ) (root : ℕ → ℕ) (fs : List Frame) (bs : List Buffer) (td : List Work) (h : Forest n root fs bs td) (seat : ℕ) (parent : Option ℕ) (nw : Work)
    (c : Calling n root fs bs seat parent nw) where
  abbrev new : Frame
  new = record { made = n; caller = Some seat; server = Pending; parent = parent }

  abbrev more : List Frame
  more = fs ++ new ∷ []

  pub rerooted : ℕ → ℕ
  rerooted x = cond (x == n) c.stem (root x)

  at_new : rerooted n ≡ c.stem
  unfolding rerooted
  at_new = rw (eq-eqb n n refl) refl

  at_old : (x : ℕ) → x < n → rerooted x ≡ root x
  unfolding rerooted
  at_old x lt = search (arith, eqb-true)

  old : (f : Frame) → In f fs → rerooted f.made ≡ root f.made
  old f l = at_old f.made (h.below f l)

  was_childless : (f : Frame) → NoChild more f → NoChild fs f
  was_childless f none g l e = search (arith, in_left)

  new_parents : (g : Frame) → In g more → (p : ℕ) → g.parent ≡ Some p → Parent rerooted more g p
  new_parents = all_push fs new (λ g. (p : ℕ) → g.parent ≡ Some p → Parent rerooted more g p)
      (λ g i p e.
      let u = h.parents g p i e in
      record {
        frame = u.frame;
        here = in_left u.frame fs (new ∷ []) u.here;
        made = u.made;
        older = u.older;
        same = old g i ∙ u.same ∙ sym (at_old p (let a = u.older in let b = h.below g i in omega arith));
        nested = u.nested;
      })
      (λ p e.
      let u = c.from p e in
      let lt : p < n = (let a = h.below u.0 u.1 in let b = u.2 in omega arith) in
      record { frame = u.0; here = in_left u.0 fs (new ∷ []) u.1; made = u.2; older = lt; same = at_new ∙ sym u.5 ∙ sym (at_old p lt); nested = inr (seat, u.3, refl) })

  new_linked : (f g : Frame) → In f more → In g more → rerooted f.made ≡ rerooted g.made → f.made < g.made → (p : ℕ) × (g.parent ≡ Some p) × (f.made ≤ p)
  new_linked = two_push fs new (λ f g. rerooted f.made ≡ rerooted g.made → f.made < g.made → (p : ℕ) × (g.parent ≡ Some p) × (f.made ≤ p))
      (λ f g i j e lt. h.linked f g i j (sym (old f i) ∙ e ∙ old g j) lt)
      (λ f i e lt. c.joined f i (sym (old f i) ∙ e ∙ at_new))
      (λ g j e lt. let b = h.below g j in absurd (omega arith))
      (λ e lt. absurd (omega arith))

  new_leaf : (f g : Frame) → In f more → In g more → rerooted f.made ≡ rerooted g.made → NoChild more f → g.made ≤ f.made
  new_leaf = two_push fs new (λ f g. rerooted f.made ≡ rerooted g.made → NoChild more f → g.made ≤ f.made)
      (λ f g i j e none. h.leaf f g i j (sym (old f i) ∙ e ∙ old g j) (was_childless f none))
      (λ f i e none.
      let u = c.joined f i (sym (old f i) ∙ e ∙ at_new) in
      let v = c.from u.0 u.1 in
      let low = h.leaf f v.0 i v.1 (sym (old f i) ∙ e ∙ at_new ∙ sym v.5 ∙ ap root (sym v.2)) (was_childless f none) in
      let le = u.2 in
      let made = v.2 in
      let same : u.0 ≡ f.made = omega arith in
      absurd (none new (in_last new fs) (u.1 ∙ ap (λ x. Some x) same)))
      (λ g j e none. let b = h.below g j in omega arith)
      (λ e none. omega arith)

  new_part : (t : ℕ) → Part t new → t ≡ seat
  new_part t (inl e) = let k : Some seat ≡ Some t = e in cc
  new_part t (inr e) = let k : Pending ≡ Serving t = e in absurd (cc)

  new_shared : (t : ℕ) (f g : Frame) → In f more → In g more → Part t f → Part t g → rerooted f.made ≡ rerooted g.made
  new_shared t = two_push fs new (λ f g. Part t f → Part t g → rerooted f.made ≡ rerooted g.made)
      (λ f g i j p q. old f i ∙ h.shared t f g i j p q ∙ sym (old g j))
      (λ f i p q. old f i ∙ c.own f i (subst (λ x. Part x f) (new_part t q) p) ∙ sym at_new)
      (λ g j p q. at_new ∙ sym (c.own g j (subst (λ x. Part x g) (new_part t p) q)) ∙ sym (old g j))
      (λ p q. refl)

  -- with a buffer made now, which is no one-way call's, and the call for the frame
  module _ (cs : List Buffer) (ud : List Work) (kept : (x : Buffer) → In x cs → In x bs ⊎ ((x.made ≡ n) × (x.one_way ≡ false)))
      (calls : (w : Work) (b : ℕ) → In w ud → w.kind ≡ work.Call b → In w td ⊎ (nw ≡ w)) where
    no_due : (w : Work) → In w td → w.kind ≡ work.Call n → ⊥
    no_due w l e = let lt = h.due w n l e in omega arith

    its_call : (w : Work) (b : ℕ) → nw ≡ w → w.kind ≡ work.Call b → n ≡ b
    its_call w b is e = let k : work.Call n ≡ work.Call b = sym c.kind ∙ ap (λ (x : Work). x.kind) is ∙ e in cc

    -- a call for an old frame was due
    was_due : (w : Work) (f : Frame) → In w ud → In f fs → w.kind ≡ work.Call f.made → In w td
    was_due w f l i e = elim (calls w f.made l e) [ inl d ↦ d | inr is ↦ (let a = its_call w f.made is e in let b = h.below f i in absurd (omega arith)) ]

    new_waiting : (w : Work) (t : ℕ) → In w ud → w.list ≡ OfThread t → (f : Frame) → In f more → w.kind ≡ work.Call f.made → Waiting rerooted more t f.made
    new_waiting w t l o = all_push fs new (λ f. w.kind ≡ work.Call f.made → Waiting rerooted more t f.made)
        (λ f j e. let u = h.waiting w t f (was_due w f l j e) e o j in (u.0, in_left u.0 fs (new ∷ []) u.1, u.2, old u.0 u.1 ∙ u.3 ∙ sym (old f j), u.4))
        (λ e. elim (calls w n l e) [
          | inl k ↦ absurd (no_due w k e)
          | inr due ↦ (let u = c.waits t (ap (λ (x : Work). x.list) due ∙ o) in (u.0, in_left u.0 fs (new ∷ []) u.1, u.2, old u.0 u.1 ∙ u.3 ∙ sym at_new, h.below u.0 u.1))
        ])

    new_childless : (w : Work) → In w ud → (f g : Frame) → In f more → In g more → w.kind ≡ work.Call f.made → g.parent ≡ Some f.made → ⊥
    new_childless w l = two_push fs new (λ f g. w.kind ≡ work.Call f.made → g.parent ≡ Some f.made → ⊥)
        (λ f g k j e q. h.childless w f (was_due w f l k e) e k g j q)
        (λ f k e q. let u = c.from f.made q in h.unserved w u.0 seat (was_due w f l k e) (e ∙ ap (λ x. work.Call x) (sym u.2)) u.1 u.3)
        (λ g j e q. let b = (h.parents g n j q).older in let d = h.below g j in absurd (omega arith))
        (λ e q. let u = c.from n q in let lt = h.below u.0 u.1 in let made = u.2 in absurd (omega arith))

    new_unserved : (w : Work) (t : ℕ) → In w ud → (f : Frame) → In f more → w.kind ≡ work.Call f.made → f.server ≡ Serving t → ⊥
    new_unserved w t l = all_push fs new (λ f. w.kind ≡ work.Call f.made → f.server ≡ Serving t → ⊥)
        (λ f k e s. h.unserved w f t (was_due w f l k e) e k s) (λ e s. let k : Pending ≡ Serving t = s in absurd (cc))

    pub forest_framed : Forest (suc n) rerooted more cs ud
    forest_framed = record {
      below = all_push fs new (λ f. f.made < suc n) (λ f i. let a = h.below f i in omega arith) (omega arith);
      rooted = all_push fs new (λ f. rerooted f.made ≤ f.made) (λ f i. subst (λ x. x ≤ f.made) (sym (old f i)) (h.rooted f i)) (subst (λ x. x ≤ n) (sym at_new) c.low);
      sorted = pairs_push Older new fs h.sorted (λ f l. h.below f l);
      parents = λ g p l e. new_parents g l p e;
      linked = new_linked;
      leaf = new_leaf;
      shared = new_shared;
      waiting = λ w t f l e o i. new_waiting w t l o f i e;
      childless = λ w f l e i g m q. new_childless w l f g i m e q;
      unserved = λ w f t l e i s. new_unserved w t l f i e s;
      one = λ v w b l m e o. elim (calls v b l e) [
        | inl i ↦ elim (calls w b m o) [
          | inl j ↦ h.one v w b i j e o
          | inr is ↦ (let a = its_call w b is o in absurd (no_due v i (e ∙ ap (λ x. work.Call x) (sym a))))
        ]
        | inr is ↦ elim (calls w b m o) [
          | inl j ↦ (let a = its_call v b is e in absurd (no_due w j (o ∙ ap (λ x. work.Call x) (sym a))))
          | inr too ↦ sym is ∙ too
        ]
      ];
      due = λ w b l e. elim (calls w b l e) [ inl i ↦ (let lt = h.due w b i e in omega arith) | inr is ↦ (let a = its_call w b is e in omega arith) ];
      buffers = λ x l. elim (kept x l) [ inl i ↦ (let lt = h.buffers x i in omega arith) | inr e ↦ (let a = e.0 in omega arith) ];
      turns = λ x f l o i e. elim (kept x l) [
        | inl j ↦ all_push fs new (λ f. f.made ≡ x.made → ⊥) (λ f k e. h.turns x f j o k e) (λ e. let lt = h.buffers x j in absurd (omega arith)) f i e
        | inr two_way ↦ (let no = two_way.1 in absurd (cc))
      ];
    }
