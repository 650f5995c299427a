-- For SpacesAreTidy: frames whose caller or server changes, by a reading or an exit, stay on their paths.
use Rattle.bd_laws.proofs.words.Types.{Frame, Buffer, Work, Serving, OfThread}
use Rattle.std.proofs.Common.{◌≡◌, ℕ, ◌<◌, ◌≤◌, List, [], ◌∷◌, map, Some, ap, sym, subst, ◌∙◌, arith}
use Rattle.bd_space.specs.declared.space.WorkKind.TheVariants as work
use Rattle.bd_laws.proofs.words.Laws.{In, Pairs, Forest, Older, NoChild, Part, Nested}
use Rattle.bd_laws.proofs.Lists.{in_map, map_in}
use Rattle.bd_laws.proofs.OnPaths.Forests.{Kept, Calls}

pairs_mapped : (k : Frame → Frame) → ((f : Frame) → (k f).made ≡ f.made) → (fs : List Frame) → Pairs Older fs → Pairs Older (map k fs)
pairs_mapped k made [] h = tt
pairs_mapped k made (f ∷ fs) h = (
  (λ y l. let x = in_map k y fs l in let lt : f.made < x.0.made = h.0 x.0 x.1 in let a = made f in let b = made x.0 in let c = ap (λ (z : Frame). z.made) x.2 in omega arith),
  pairs_mapped k made fs h.1,
)

-- what a change of callers and servers has to keep
pub record Changes (root : ℕ → ℕ) (fs : List Frame) (ud : List Work) (k : Frame → Frame) : Type 0 where
  pub made : (f : Frame) → (k f).made ≡ f.made
  pub parent : (f : Frame) → (k f).parent ≡ f.parent
  pub nested : (f g : Frame) → In f fs → In g fs → g.parent ≡ Some f.made → Nested f g → Nested (k f) (k g)
  pub shared : (t : ℕ) (f g : Frame) → In f fs → In g fs → Part t (k f) → Part t (k g) → root f.made ≡ root g.made
  pub unserved : (w : Work) (f : Frame) (t : ℕ) → In w ud → w.kind ≡ work.Call f.made → In f fs → (k f).server ≡ Serving t → ⊥
  pub callers : (w : Work) (t : ℕ) (b : ℕ) (f : Frame) → In w ud → w.kind ≡ work.Call b → w.list ≡ OfThread t → f.caller ≡ Some t → (k f).caller ≡ Some t

module _ (n : ℕ) (root : ℕ → ℕ) (fs : List Frame) (bs : List Buffer) (td : List Work) (h : Forest n root fs bs td) (k : Frame → Frame) (cs : List Buffer) (ud : List Work)
    (kept : Kept cs bs) (calls : Calls ud td) (c : Changes root fs ud k) where
  record Before (f : Frame) : Type 0 where
    frame : Frame
    here : In frame fs
    is : k frame ≡ f
    made : frame.made ≡ f.made
    parent : frame.parent ≡ f.parent

  before : (f : Frame) → In f (map k fs) → Before f
  before f l = search (arith, in_map)

  childless_then : (f : Frame) (x : Before f) → NoChild (map k fs) f → NoChild fs x.frame
  childless_then f x none y m e = none (k y) (map_in k y fs m) (c.parent y ∙ e ∙ ap (λ i. Some i) x.made)

  childless_now : (f : Frame) (x : Before f) → NoChild fs x.frame → NoChild (map k fs) f
  childless_now f x none y m e = search (arith, before)

  roots : (f g : Frame) (x : Before f) (y : Before g) → root f.made ≡ root g.made → root x.frame.made ≡ root y.frame.made
  roots f g x y e = search arith

  pub forest_changed : Forest n root (map k fs) cs ud
  forest_changed = record {
    below = λ f l. let x = before f l in let lt = h.below x.frame x.here in let e = x.made in omega arith;
    rooted = λ f l. let x = before f l in subst (λ i. root i ≤ i) x.made (h.rooted x.frame x.here);
    sorted = pairs_mapped k c.made fs h.sorted;
    parents = λ g p l e.
        let y = before g l in
        let u = h.parents y.frame p y.here (y.parent ∙ e) in
        record {
          frame = k u.frame;
          here = map_in k u.frame fs u.here;
          made = c.made u.frame ∙ u.made;
          older = subst (λ i. p < i) y.made u.older;
          same = ap root (sym y.made) ∙ u.same;
          nested = subst (Nested (k u.frame)) y.is (c.nested u.frame y.frame u.here y.here (y.parent ∙ e ∙ ap (λ i. Some i) (sym u.made)) u.nested);
        };
    linked = λ f g l m e lt.
        let x = before f l in
        let y = before g m in
        let a = x.made in let b = y.made in
        let u = h.linked x.frame y.frame x.here y.here (roots f g x y e) (omega arith) in
        (u.0, sym y.parent ∙ u.1, (let le = u.2 in omega arith));
    leaf = λ f g l m e none.
        let x = before f l in
        let y = before g m in
        let a = x.made in let b = y.made in
        let le = h.leaf x.frame y.frame x.here y.here (roots f g x y e) (childless_then f x none) in omega arith;
    shared = λ t f g l m p q.
        let x = before f l in
        let y = before g m in
        ap root (sym x.made) ∙ c.shared t x.frame y.frame x.here y.here (subst (Part t) (sym x.is) p) (subst (Part t) (sym y.is) q) ∙ ap root y.made;
    waiting = λ w t f l e o i.
        let x = before f i in
        let u = h.waiting w t x.frame (calls w f.made l e) (e ∙ ap (λ j. work.Call j) (sym x.made)) o x.here in
        (k u.0, map_in k u.0 fs u.1, c.callers w t f.made u.0 l e o u.2, ap root (c.made u.0) ∙ u.3 ∙ ap root x.made, (let lt = u.4 in let a = c.made u.0 in let b = x.made in omega arith));
    childless = λ w f l e i.
        let x = before f i in
        childless_now f x (h.childless w x.frame (calls w f.made l e) (e ∙ ap (λ j. work.Call j) (sym x.made)) x.here);
    unserved = λ w f t l e i s. search (arith, before);
    one = λ v w b l m e o. h.one v w b (calls v b l e) (calls w b m o) e o;
    due = λ w b l e. h.due w b (calls w b l e) e;
    buffers = λ x l. let b = kept x l in let lt = h.buffers b.0 b.1 in let e = b.2 in omega arith;
    turns = λ x f l o i e. let b = kept x l in let y = before f i in h.turns b.0 y.frame b.1 (b.3 ∙ o) y.here (y.made ∙ e ∙ sym b.2);
  }
