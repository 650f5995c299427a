-- FramesLieOnOnePath: one open child at most, and a thread's frames on the way from the newest of them.
use Rattle.bd_laws.proofs.words.Logic.{◌≡◌, ℕ, ◌<◌, ◌≤◌, ◌==◌, Bool, true, false, cond, not, ◌&&◌, ◌||◌, List, [], ◌∷◌, length, reverse, Option, Some, ◌⊎◌, inl, inr, refl, ap, sym, ◌∙◌, filter, arith, list_any, list_all, eqb-true, eq-eqb, cases_lt}
use Rattle.bd_laws.proofs.words.Types.{Frame, Buffer, Work}
use Rattle.bd_laws.proofs.words.Space.{ancestry, takes_part, is_frame, is_child_of, History, space_after}
use Rattle.bd_laws.proofs.words.Laws.{In, Pairs, Forest, Older}
use Rattle.bd_laws.proofs.Lists.{in_filter, all_in, pairs_map, pairs_filter}
use Rattle.bd_laws.proofs.Tests.{either_true, some_eq}
use Rattle.bd_laws.proofs.IsInTurn.InTurn.{at_most_one}
use Rattle.bd_laws.proofs.OnPaths.Innermost.{Newer, in_reverse, reverse_in, newest_first, true_part}
use Rattle.bd_laws.proofs.Always.{always_on_paths}
use Rattle.bd_audit.specs.Laws.{space_at}
use Rattle.bd_audit.specs.Replays.{beginning}
use Rattle.bd_audit.specs.Paths.{is_on_way, is_one_path}

-- ---- one open child

short : (xs : List Frame) → Pairs Older xs → ((x y : Frame) → In x xs → In y xs → x.made < y.made → ⊥) → length xs ≤ 1
short xs h k = at_most_one xs (pairs_map Older (λ x y. ⊥) xs k h)

-- ---- on the way

Lower : List Frame → Type 0
Lower xs = (g : Frame) (p : ℕ) → In g xs → g.parent ≡ Some p → (u : Frame) × In u xs × (u.made ≡ p) × (p < g.made)

-- an older one than the first is of the rest
below_first : (x u : Frame) (xs : List Frame) → In u (x ∷ xs) → u.made < x.made → In u xs
below_first x u xs (inl is) lt = let at = ap (λ (y : Frame). y.made) is in absurd (omega arith)
below_first x u xs (inr i) lt = i

module _ (n : ℕ) (root : ℕ → ℕ) (fs : List Frame) (bs : List Buffer) (td : List Work) (h : Forest n root fs bs td) where
  one_child : (f : Frame) → length (filter (is_child_of f) fs) ≤ 1
  one_child f = short (filter (is_child_of f) fs) (pairs_filter Older (is_child_of f) fs h.sorted) (λ x y l m lt.
      let i = in_filter (is_child_of f) x fs l in
      let j = in_filter (is_child_of f) y fs m in
      let p = some_eq f.made x.parent i.1 in
      let q = some_eq f.made y.parent j.1 in
      let u = h.parents x f.made i.0 p in
      let v = h.parents y f.made j.0 q in
      let link = h.linked x y i.0 j.0 (u.same ∙ sym v.same) lt in
      let is : link.0 ≡ f.made = (let s : Some link.0 ≡ Some f.made = sym link.1 ∙ q in cc) in
      let le = link.2 in
      let older = u.older in
      absurd (omega arith))

  lower_rest : (x : Frame) (xs : List Frame) → Pairs Newer (x ∷ xs) → Lower (x ∷ xs) → Lower xs
  unfolding Lower
  lower_rest x xs o k g p l e =
      let u = k g p (inr l) e in
      let newer = o.0 g l in
      let made = u.2 in
      let older = u.3 in
      (u.0, below_first x u.0 xs u.1 (omega arith), u.2, u.3)

  -- the way begins with x, or is the one over the rest
  begins : (f x : Frame) (from : Option ℕ) (xs : List Frame) (b : Bool) → (b ≡ true → ((x.made == f.made) ≡ true) ⊎ (list_any (is_frame f.made) (ancestry x.parent xs) ≡ true))
      → (b ≡ false → list_any (is_frame f.made) (ancestry from xs) ≡ true) → list_any (is_frame f.made) (cond b (x ∷ ancestry x.parent xs) (ancestry from xs)) ≡ true
  begins f x from xs b h k = search (arith, either_true)

  way : (xs : List Frame) → Pairs Newer xs → ((x : Frame) → In x xs → In x fs) → Lower xs → (f g : Frame) → In f xs → In g xs → root f.made ≡ root g.made → f.made ≤ g.made
      → list_any (is_frame f.made) (ancestry (Some g.made) xs) ≡ true
  unfolding Lower
  way [] o sub k f g l m e le = absurd l
  way (x ∷ xs) o sub k f g l (inl is) e le =
      let made : x.made ≡ g.made = ap (λ (y : Frame). y.made) is in
      begins f x (Some g.made) xs (x.made == g.made) (λ here. elim l [
        | inl too ↦ inl (eq-eqb x.made f.made (ap (λ (y : Frame). y.made) too))
        | inr i ↦ inr (
            let newer : f.made < x.made = o.0 f i in
            let link = h.linked f g (sub f (inr i)) (sub g (inl is)) e (omega arith) in
            let up = k g link.0 (inl is) link.1 in
            let lies = below_first x up.0 xs up.1 (let at_p = up.2 in let older = up.3 in omega arith) in
            let root_is : root f.made ≡ root up.0.made = e ∙ (h.parents g link.0 (sub g (inl is)) link.1).same ∙ ap root (sym up.2) in
            let rest = way xs o.1 (λ y j. sub y (inr j)) (lower_rest x xs o k) f up.0 i lies root_is (let a = link.2 in let b = up.2 in omega arith) in
            ap (λ q. list_any (is_frame f.made) (ancestry q xs)) (ap (λ (y : Frame). y.parent) is ∙ link.1 ∙ ap (λ j. Some j) (sym up.2)) ∙ rest)
      ]) (λ none. let here = eq-eqb x.made g.made made in absurd (cc))
  way (x ∷ xs) o sub k f g (inl is) (inr m) e le = let newer : g.made < x.made = o.0 g m in let made : x.made ≡ f.made = ap (λ (y : Frame). y.made) is in absurd (omega arith)
  way (x ∷ xs) o sub k f g (inr l) (inr m) e le =
      let newer : g.made < x.made = o.0 g m in
      begins f x (Some g.made) xs (x.made == g.made) (λ here. let made = eqb-true x.made g.made here in absurd (omega arith))
      (λ none. way xs o.1 (λ y j. sub y (inr j)) (lower_rest x xs o k) f g l m e le)

  lower : Lower (reverse fs)
  unfolding Lower
  lower g p l e = let u = h.parents g p (in_reverse g fs l) e in (u.frame, reverse_in u.frame fs u.here, u.made, u.older)

  on_way : (f g : Frame) → In f fs → In g fs → root f.made ≡ root g.made → f.made ≤ g.made → is_on_way fs f g ≡ true
  on_way f g l m e le = way (reverse fs) (newest_first fs h.sorted) (λ x i. in_reverse x fs i) lower f g (reverse_in f fs l) (reverse_in g fs m) e le

  one_path : (seat : ℕ) (f g : Frame) → In f fs → In g fs → is_one_path fs seat f g ≡ true
  one_path seat f g l m = at (takes_part seat f) (takes_part seat g) refl refl
    where
      at : (a b : Bool) → takes_part seat f ≡ a → takes_part seat g ≡ b → (not (a && b) || (is_on_way fs f g || is_on_way fs g f)) ≡ true
      at true true p q =
          let e = h.shared seat f g l m (true_part seat f p) (true_part seat g q) in
          either_true (is_on_way fs f g) (is_on_way fs g f) (elim (cases_lt f.made g.made) [ inl lt ↦ inl (on_way f g l m e (omega arith)) | inr ge ↦ inr (on_way g f m l (sym e) ge) ])
      at true false p q = refl
      at false b p q = refl

  pub paths : ((f : Frame) → length (filter (is_child_of f) fs) ≤ 1) × ((seat : ℕ) → list_all (λ f. list_all (is_one_path fs seat f) fs) fs ≡ true)
  paths = (one_child, λ seat. all_in (λ f. list_all (is_one_path fs seat f) fs) fs (λ f l. all_in (is_one_path fs seat f) fs (λ g m. one_path seat f g l m)))

pub lie_on_paths : (h : History) (n : ℕ)
    → ((f : Frame) → length (filter (is_child_of f) (space_at h n).frames) ≤ 1)
    × ((seat : ℕ) → list_all (λ f. list_all (is_one_path (space_at h n).frames seat f) (space_at h n).frames) (space_at h n).frames ≡ true)
unfolding space_after
lie_on_paths h n = let k = always_on_paths (beginning n h).entries in let z = space_at h n in paths z.steps k.0 z.frames z.buffers z.todo k.1
