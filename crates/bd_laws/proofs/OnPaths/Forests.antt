-- For SpacesAreTidy: what makes each frame have one open child at most, and a thread's frames share a path.
use Rattle.bd_laws.proofs.words.Logic.{◌≡◌, ℕ, ◌<◌, ◌≤◌, ◌==◌, suc, Bool, true, false, not, List, [], ◌∷◌, ◌++◌, Option, Some, None, ◌⊎◌, inl, inr, refl, ap, sym, ◌∙◌, filter, arith, eqb-true, eq-eqb}
use Rattle.bd_laws.proofs.words.Types.{Frame, Buffer, Work, OfProcess}
use Rattle.bd_space.specs.declared.space.WorkKind.TheVariants as work
use Rattle.bd_space.specs.Frames.{is_frame}
use Rattle.bd_laws.proofs.words.Laws.{In, Pairs, Older, NoChild, Forest}
use Rattle.bd_laws.proofs.Lists.{in_push, in_filter, filter_in, pairs_either, pairs_filter, all_push, two_push}
use Rattle.bd_laws.proofs.Tests.{not_true}

pub one_frame : (fs : List Frame) → Pairs Older fs → (f g : Frame) → In f fs → In g fs → f.made ≡ g.made → f ≡ g
one_frame fs h f g l m e = search (arith, pairs_either)

-- no calls more, and no buffers but one made now
abbrev pub Calls : List Work → List Work → Type 0
Calls ud td = (w : Work) (b : ℕ) → In w ud → w.kind ≡ work.Call b → In w td

abbrev pub Kept : List Buffer → List Buffer → Type 0
Kept cs bs = (c : Buffer) → In c cs → (b : Buffer) × In b bs × (b.made ≡ c.made) × (b.one_way ≡ c.one_way)

module _ (n : ℕ) (root : ℕ → ℕ) (fs : List Frame) (bs : List Buffer) (td : List Work) (h : Forest n root fs bs td) where
  -- with these buffers and items: no item calls for a frame that didn't, and each call is due once
  forest_with : (m : ℕ) (cs : List Buffer) (ud : List Work) → n ≤ m → ((w : Work) (f : Frame) → In w ud → w.kind ≡ work.Call f.made → In f fs → In w td)
      → ((v w : Work) (b : ℕ) → In v ud → In w ud → v.kind ≡ work.Call b → w.kind ≡ work.Call b → v ≡ w) → ((w : Work) (b : ℕ) → In w ud → w.kind ≡ work.Call b → b < m)
      → ((c : Buffer) → In c cs → c.made < m) → ((c : Buffer) (f : Frame) → In c cs → c.one_way ≡ true → In f fs → f.made ≡ c.made → ⊥) → Forest m root fs cs ud
  forest_with m cs ud le old one due buffers turns = search (arith, h.leaf, h.shared, h.waiting, h.childless, h.unserved)

  forest_on : (m : ℕ) (cs : List Buffer) (ud : List Work) → n ≤ m → Calls ud td → ((c : Buffer) → In c cs → c.made < m)
      → ((c : Buffer) (f : Frame) → In c cs → c.one_way ≡ true → In f fs → f.made ≡ c.made → ⊥) → Forest m root fs cs ud
  forest_on m cs ud le c =
      forest_with m cs ud le (λ w f l e i. c w f.made l e) (λ v w b l k e o. h.one v w b (c v b l e) (c w b k o) e o) (λ w b l e. let lt = h.due w b (c w b l e) e in omega arith)

  pub forest_same : (cs : List Buffer) (ud : List Work) → Kept cs bs → Calls ud td → Forest n root fs cs ud
  forest_same cs ud k c =
      forest_on n cs ud (omega arith) c
      (λ x l. let b = k x l in let lt = h.buffers b.0 b.1 in let e = b.2 in omega arith)
      (λ x f l o i e. let b = k x l in h.turns b.0 f b.1 (b.3 ∙ o) i (e ∙ sym b.2))

  pub forest_buffer : (cs : List Buffer) (ud : List Work) → ((c : Buffer) → In c cs → In c bs ⊎ (c.made ≡ n)) → Calls ud td → Forest (suc n) root fs cs ud
  forest_buffer cs ud k c =
      forest_on (suc n) cs ud (omega arith) c
      (λ x l. elim (k x l) [ inl i ↦ (let lt = h.buffers x i in omega arith) | inr e ↦ omega arith ])
      (λ x f l o i e. elim (k x l) [ inl j ↦ h.turns x f j o i e | inr m ↦ (let lt = h.below f i in absurd (omega arith)) ])

  pub forest_more : Forest (suc n) root fs bs td
  forest_more = forest_buffer bs td (λ c l. inl l) (λ w b l e. l)

  -- ---- a call on a process's list, which has no frame

  pub forest_work : (nw : Work) (b p : ℕ) → nw.kind ≡ work.Call b → nw.list ≡ OfProcess p → b < n → ((f : Frame) → In f fs → f.made ≡ b → ⊥)
      → ((w : Work) → In w td → w.kind ≡ work.Call b → ⊥) → Forest n root fs bs (td ++ nw ∷ [])
  forest_work nw b p kind list lt free new =
      forest_with n bs (td ++ nw ∷ []) (omega arith) old
      (λ v w c l m. two_push td nw (λ v w. v.kind ≡ work.Call c → w.kind ≡ work.Call c → v ≡ w) (λ v w i j. h.one v w c i j)
      (λ v i e o. absurd (new v i (e ∙ sym o ∙ kind))) (λ w j e o. absurd (new w j (o ∙ sym e ∙ kind))) (λ e o. refl) v w l m)
      (λ w c l. all_push td nw (λ w. w.kind ≡ work.Call c → c < n) (λ w i. h.due w c i) (λ e. let k : work.Call b ≡ work.Call c = sym kind ∙ e in let j : b ≡ c = cc in omega arith) w l) h.buffers h.turns
    where
      old : (w : Work) (f : Frame) → In w (td ++ nw ∷ []) → w.kind ≡ work.Call f.made → In f fs → In w td
      old w f l e i = search (arith, in_push)

  -- ---- a frame without an open child closes

  module _ (f : Frame) (here : In f fs) (none : NoChild fs f) where
    abbrev rest : List Frame
    rest = filter (λ (g : Frame). not (is_frame f.made g)) fs

    in_rest : (g : Frame) → In g rest → In g fs × (g.made ≡ f.made → ⊥)
    in_rest g m = search (arith, in_filter, not_true)

    stays : (g : Frame) → In g fs → (g.made ≡ f.made → ⊥) → In g rest
    stays g m k = search (arith, filter_in, eqb-true)

    childless_before : (x : Frame) → NoChild rest x → (f.parent ≡ Some x.made → ⊥) → NoChild fs x
    childless_before x k other y m e = at (y.made == f.made) refl
      where
        at : (b : Bool) → (y.made == f.made) ≡ b → ⊥
        at true q = let is = one_frame fs h.sorted y f m here (eqb-true y.made f.made q) in other (ap (λ (z : Frame). z.parent) (sym is) ∙ e)
        at false q = k y (stays y m (λ i. let yes = eq-eqb y.made f.made i in absurd (cc))) e

    closed_leaf : (x g : Frame) → In x rest → In g rest → root x.made ≡ root g.made → NoChild rest x → g.made ≤ x.made
    closed_leaf x g i j e k = at f.parent refl
      where
        child : (p : ℕ) → f.parent ≡ Some p → p ≡ x.made → g.made ≤ x.made
        child p q is =
            let up = h.parents f p here q in
            let same : root g.made ≡ root f.made = sym e ∙ ap root (sym is) ∙ sym up.same in
            let low = h.leaf f g here (in_rest g j).0 (sym same) none in
            let lt : g.made < f.made = at_most low (in_rest g j).1 in
            let link = h.linked g f (in_rest g j).0 here same lt in
            let one : link.0 ≡ p = (let s : Some link.0 ≡ Some p = sym link.1 ∙ q in cc) in
            let le = link.2 in omega arith
          where
            at_most : g.made ≤ f.made → (g.made ≡ f.made → ⊥) → g.made < f.made
            at_most le other = search (arith, eqb-true, eq-eqb)

        by : (b : Bool) (p : ℕ) → f.parent ≡ Some p → (p == x.made) ≡ b → g.made ≤ x.made
        by true p q t = child p q (eqb-true p x.made t)
        by false p q t =
            h.leaf x g (in_rest x i).0 (in_rest g j).0 e
            (childless_before x k (λ s. let is : p ≡ x.made = (let u : Some p ≡ Some x.made = sym q ∙ s in cc) in let yes = eq-eqb p x.made is in absurd (cc)))

        at : (o : Option ℕ) → f.parent ≡ o → g.made ≤ x.made
        at None q = h.leaf x g (in_rest x i).0 (in_rest g j).0 e (childless_before x k (λ s. absurd (cc)))
        at (Some p) q = by (p == x.made) p q refl

    pub forest_closed : Forest n root rest bs td
    forest_closed = record {
      below = λ g l. h.below g (in_rest g l).0;
      rooted = λ g l. h.rooted g (in_rest g l).0;
      sorted = pairs_filter Older (λ (x : Frame). not (is_frame f.made x)) fs h.sorted;
      parents = λ g p l e.
          let k = h.parents g p (in_rest g l).0 e in
          record {
            frame = k.frame;
            here = stays k.frame k.here (λ is. none g (in_rest g l).0 (e ∙ ap (λ m. Some m) (sym k.made ∙ is)));
            made = k.made;
            older = k.older;
            same = k.same;
            nested = k.nested;
          };
      linked = λ x g l m e lt. h.linked x g (in_rest x l).0 (in_rest g m).0 e lt;
      leaf = closed_leaf;
      shared = λ t x g l m p q. h.shared t x g (in_rest x l).0 (in_rest g m).0 p q;
      waiting = λ w t x l e o i.
          let k = h.waiting w t x l e o (in_rest x i).0 in
          (k.0, stays k.0 k.1 (λ is. let low = h.leaf f x here (in_rest x i).0 (ap root (sym is) ∙ k.3) none in let lt = k.4 in absurd (omega arith)), k.2, k.3, k.4);
      childless = λ w x l e i y m q. h.childless w x l e (in_rest x i).0 y (in_rest y m).0 q;
      unserved = λ w x t l e i s. h.unserved w x t l e (in_rest x i).0 s;
      one = h.one;
      due = h.due;
      buffers = h.buffers;
      turns = λ c x l o i e. h.turns c x l o (in_rest x i).0 e;
    }
