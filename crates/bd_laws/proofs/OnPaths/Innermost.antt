-- For SpacesAreTidy, FramesAreStacks, FramesLieOnOnePath and the laws of open calls: which frame is a thread's innermost,
-- and the way from a frame to its parents.
use Rattle.bd_laws.proofs.words.Logic.{◌≡◌, ℕ, ◌<◌, ◌≤◌, ◌==◌, suc, Bool, true, false, cond, not, ◌||◌, List, [], ◌∷◌, length, reverse, Option, Some, None, inl, inr, refl, ap, sym, subst, ◌∙◌, arith, nat_le, list_all, is_some, reverse-append, eqb-true, eq-eqb, cases_lt, filter}
use Rattle.bd_laws.proofs.words.Types.{Frame, Serving}
use Rattle.bd_laws.proofs.words.Space.{ancestry, depth_in, takes_part, calls, is_deepest_in, innermost_in}
use Rattle.bd_laws.proofs.words.Laws.{In, Pairs, Older, NoChild, Part, Nested, Parent}
use Rattle.bd_laws.proofs.Lists.{in_push, in_right, in_left, find_in, find_some, all_in, pairs_push, in_filter, filter_in, in_all}
use Rattle.bd_laws.proofs.Tests.{both, not_eq as differ, eq_some, bound_if, if_bound}
use Rattle.bd_laws.proofs.OnPaths.Forests.{one_frame}

abbrev pub Newer : Frame → Frame → Type 0
Newer f g = g.made < f.made

-- ---- from the newest on

pub in_reverse : (x : Frame) (xs : List Frame) → In x (reverse xs) → In x xs
in_reverse x [] l = l
in_reverse x (y ∷ xs) l = elim (in_push x y (reverse xs) (subst (In x) (reverse-append (y ∷ []) xs) l)) [ inl i ↦ inr (in_reverse x xs i) | inr is ↦ inl is ]

pub reverse_in : (x : Frame) (xs : List Frame) → In x xs → In x (reverse xs)
reverse_in x [] l = l
reverse_in x (y ∷ xs) (inl is) = subst (In x) (sym (reverse-append (y ∷ []) xs)) (in_right x (reverse xs) (y ∷ []) (inl is))
reverse_in x (y ∷ xs) (inr l) = subst (In x) (sym (reverse-append (y ∷ []) xs)) (in_left x (reverse xs) (y ∷ []) (reverse_in x xs l))

pub newest_first : (xs : List Frame) → Pairs Older xs → Pairs Newer (reverse xs)
newest_first [] h = tt
newest_first (x ∷ xs) h =
    subst (Pairs Newer) (sym (reverse-append (x ∷ []) xs)) (pairs_push Newer x (reverse xs) (newest_first xs h.1) (λ y l. h.0 y (in_reverse y xs l)))

-- ---- depth

pub child_depth : (xs : List Frame) → Pairs Newer xs → (f g : Frame) → In f xs → In g xs → f.made < g.made → g.parent ≡ Some f.made
    → length (ancestry (Some g.made) xs) ≡ suc (length (ancestry (Some f.made) xs))
child_depth [] h f g l m lt e = absurd l
child_depth (x ∷ xs) h f g l (inl is) lt e = search (arith, eq-eqb)
child_depth (x ∷ xs) h f g (inl is) (inr m) lt e = let newer : g.made < x.made = h.0 g m in let made : x.made ≡ f.made = ap (λ (y : Frame). y.made) is in absurd (omega arith)
child_depth (x ∷ xs) h f g (inr l) (inr m) lt e =
    let newer : g.made < x.made = h.0 g m in
    at (x.made == g.made) (x.made == f.made) (differ x.made g.made (λ k. let same : x.made ≡ g.made = k in absurd (omega arith)))
    (differ x.made f.made (λ k. let same : x.made ≡ f.made = k in absurd (omega arith))) (child_depth xs h.1 f g l m lt e)
  where
    at : (a b : Bool) → a ≡ false → b ≡ false → length (ancestry (Some g.made) xs) ≡ suc (length (ancestry (Some f.made) xs))
        → length (cond a (x ∷ ancestry x.parent xs) (ancestry (Some g.made) xs)) ≡ suc (length (cond b (x ∷ ancestry x.parent xs) (ancestry (Some f.made) xs)))
    at a b p q k = search arith

-- ---- taking part

pub calls_true : (t : ℕ) (f : Frame) → f.caller ≡ Some t → calls t f ≡ true
calls_true t f = eq_some t f.caller

pub part_true : (t : ℕ) (f : Frame) → Part t f → takes_part t f ≡ true
part_true t f h = search arith

pub true_part : (t : ℕ) (f : Frame) → takes_part t f ≡ true → Part t f
true_part t f h = search arith

-- ---- the deepest

-- some frame is the greatest
greatest : (d : Frame → ℕ) (xs : List Frame) (f : Frame) → In f xs → (x : Frame) × In x xs × ((y : Frame) → In y xs → d y ≤ d x)
greatest d [] f l = absurd l
greatest d (x ∷ []) f l = (x, inl refl, λ y i. elim i [ inl is ↦ (let same : d x ≡ d y = ap d is in omega arith) | inr j ↦ absurd j ])
greatest d (x ∷ y ∷ ys) f l =
    let k = greatest d (y ∷ ys) y (inl refl) in
    elim (cases_lt (d x) (d k.0)) [
      | inl lt ↦ (k.0, inr k.1, λ z i. elim i [ inl is ↦ (let same : d x ≡ d z = ap d is in omega arith) | inr j ↦ k.2 z j ])
      | inr ge ↦ (x, inl refl, λ z i. elim i [ inl is ↦ (let same : d x ≡ d z = ap d is in omega arith) | inr j ↦ (let le = k.2 z j in omega arith) ])
    ]

-- a thread without an innermost frame takes part in none
pub none_innermost : (fs : List Frame) (t : ℕ) → innermost_in fs t ≡ None → (f : Frame) → In f fs → Part t f → ⊥
none_innermost fs t h f l p =
    let k = greatest (depth_in fs) (filter (takes_part t) fs) f (filter_in (takes_part t) f fs l (part_true t f p)) in
    let here = in_filter (takes_part t) k.0 fs k.1 in
    let all = all_in (λ (g : Frame). not (takes_part t g) || nat_le (depth_in fs g) (depth_in fs k.0)) fs
    (λ g i. bound_if (takes_part t g) (depth_in fs g) (depth_in fs k.0) (λ q. k.2 g (filter_in (takes_part t) g fs i q))) in
    let deepest : is_deepest_in fs t k.0 ≡ true = rw (here.1, all) refl in
    let some = find_some (is_deepest_in fs t) k.0 fs here.0 deepest in
    let wrong : is_some (innermost_in fs t) ≡ false = ap is_some h in
    absurd (cc)

-- where the innermost frame stands, and the depth of the others
pub innermost_is : (fs : List Frame) (t : ℕ) (f : Frame) → innermost_in fs t ≡ Some f
    → In f fs × Part t f × ((g : Frame) → In g fs → Part t g → depth_in fs g ≤ depth_in fs f)
innermost_is fs t f h =
    let k = find_in (is_deepest_in fs t) f fs h in
    let b = both (takes_part t f) (list_all (λ g. not (takes_part t g) || nat_le (depth_in fs g) (depth_in fs f)) fs) k.1 in (
      k.0,
      true_part t f b.0,
      λ g l p.
          if_bound (takes_part t g) (depth_in fs g) (depth_in fs f) (in_all (λ g. not (takes_part t g) || nat_le (depth_in fs g) (depth_in fs f)) fs b.1 g l) (part_true t g p),
    )

-- ---- over frames on paths

module _ (root : ℕ → ℕ) (fs : List Frame) (sorted : Pairs Older fs) (parents : (g : Frame) (p : ℕ) → In g fs → g.parent ≡ Some p → Parent root fs g p) where
  -- the innermost frame of a thread that serves it has no open child
  pub innermost_childless : (t : ℕ) (f : Frame) → innermost_in fs t ≡ Some f → f.server ≡ Serving t → NoChild fs f
  innermost_childless t f h serving g l e =
      let k = innermost_is fs t f h in
      let u = parents g f.made l e in
      let is = one_frame fs sorted u.frame f u.here k.0 u.made in
      let deeper = child_depth (reverse fs) (newest_first fs sorted) f g (reverse_in f fs k.0) (reverse_in g fs l) u.older e in
      elim (subst (λ (x : Frame). Nested x g) is u.nested) [
        | inl gone ↦ (let server = gone.0 in absurd (cc))
        | inr by ↦ (
            let same : by.0 ≡ t = (let s : Serving by.0 ≡ Serving t = sym by.1 ∙ serving in cc) in
            let le = k.2 g l (inl (by.2 ∙ ap (λ n. Some n) same)) in
            omega arith)
      ]

  -- the frames on the way by parents are on the path
  ancestry_path : (xs : List Frame) → ((x : Frame) → In x xs → In x fs) → (from : ℕ) (y : Frame) → In y (ancestry (Some from) xs) → In y fs × (root y.made ≡ root from)
  ancestry_path [] sub from y l = absurd l
  ancestry_path (x ∷ xs) sub from y l = at (x.made == from) refl (λ p i. ancestry_path xs (λ z m. sub z (inr m)) p y i) l
    where
      nothing : (zs : List Frame) → In y (ancestry None zs) → ⊥
      nothing [] i = i
      nothing (z ∷ zs) i = nothing zs i

      up : (o : Option ℕ) → x.parent ≡ o → ((p : ℕ) → In y (ancestry (Some p) xs) → In y fs × (root y.made ≡ root p)) → In y (ancestry o xs) → In y fs × (root y.made ≡ root x.made)
      up None e rest i = absurd (nothing xs i)
      up (Some p) e rest i = let k = rest p i in (k.0, k.1 ∙ sym (parents x p (sub x (inl refl)) e).same)

      at : (b : Bool) → (x.made == from) ≡ b → ((p : ℕ) → In y (ancestry (Some p) xs) → In y fs × (root y.made ≡ root p)) → In y (cond b (x ∷ ancestry x.parent xs) (ancestry (Some from) xs)) → In y fs × (root y.made ≡ root from)
      at true e rest (inl is) = (subst (λ (z : Frame). In z fs) is (sub x (inl refl)), ap (λ (z : Frame). root z.made) (sym is) ∙ ap root (eqb-true x.made from e))
      at true e rest (inr i) = let k = up x.parent refl rest i in (k.0, k.1 ∙ ap root (eqb-true x.made from e))
      at false e rest i = rest from i

  pub on_path : (from : ℕ) (y : Frame) → In y (ancestry (Some from) (reverse fs)) → In y fs × (root y.made ≡ root from)
  on_path = ancestry_path (reverse fs) (λ x l. in_reverse x fs l)
