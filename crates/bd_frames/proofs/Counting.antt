-- How many children the frames have, as frames come, go and change.
use Rattle.std.proofs.Common.{◌≡◌, ℕ, suc, ◌+◌, ◌≤◌, ◌==◌, Bool, true, false, not, cond, List, [], ◌∷◌, ◌++◌, Option, Some, None, get_or, map, refl, ap, sym, ◌∙◌, arith, ne_eqb}
use Rattle.std.proofs.{lemmas.Bool.{cond_both}, lemmas.Bool.Decides.{nat_tests}, lemmas.List.Sums.{sum_by_push, sum_by-cons, count_by-le-length}}
use Rattle.std.proofs.lemmas.List.Elements.{All-map}
use Rattle.std.specs.List.{list_any, count_by}
use Rattle.bd_keys.proofs.Lists.{eqb_turned}
use Rattle.bd_space.specs.{declared.space.Frame.{Frame}, Words.{is_some_and}}
use Rattle.bd_frames.specs.{declared.frame.Row.{Row}, Places.{IsRising, IsAfter, place, turned}}
use Rattle.bd_frames.specs.{InOrder.{IsBefore, ParentsOlder, IsInOrder, IsNextOf}, Children.{is_child_at, AreChildren}}
use Rattle.bd_frames.proofs.InOrder.{KeepsPlaces, after_all, fewer_than}

-- ---- of frames

count_cons : (p : Frame → Bool) (x : Frame) (xs : List Frame) → count_by p (x ∷ xs) ≡ cond (p x) 1 0 + count_by p xs
count_cons p x xs = sum_by-cons (λ y. cond (p y) 1 0) x xs

pub count_push : (p : Frame → Bool) (xs : List Frame) (x : Frame) → count_by p (xs ++ x ∷ []) ≡ count_by p xs + cond (p x) 1 0
count_push p xs x = sum_by_push (λ y. cond (p y) 1 0) xs x

-- none is counted where none passes
pub count_none : (p : Frame → Bool) (xs : List Frame) → (count_by p xs == 0) ≡ not (list_any p xs)
count_none p [] = refl
count_none p (x ∷ xs) = grind (arith, nat_tests, count_cons p x xs, count_none p xs)

pub count_map : (m : ℕ) (f : Frame → Frame) → KeepsPlaces f → (xs : List Frame) → count_by (is_child_at m) (map f xs) ≡ count_by (is_child_at m) xs
count_map m f h [] = refl
count_map m f h (x ∷ xs) =
    let same = ap {B = ℕ} (λ o. cond (is_some_and o (λ k. k == m)) 1 0) (h x).1 in
    omega (arith, count_cons (is_child_at m) (f x) (map f xs), count_cons (is_child_at m) x xs, same, count_map m f h xs)

-- what was made before a place is no child of what is made there
young : (o : Option ℕ) (n made : ℕ) → IsBefore o n → n ≤ made → is_some_and o (λ k. k == made) ≡ false
young None n made h le = refl
young (Some k) n made h le = ne_eqb k made (λ same. omega (arith, h, le, same))

none_yet : (m : ℕ) (xs : List Frame) (made : ℕ) → ParentsOlder xs → IsRising m xs → IsAfter m xs made → count_by (is_child_at made) xs ≡ 0
none_yet m [] made o r h = refl
none_yet m (x ∷ xs) made o r h =
    let low = after_all (suc x.made) xs made r.1 h in
    let b = ap {B = ℕ} (λ b. cond b 1 0) (young x.parent x.made made o.0 (omega (arith, low))) in
    omega (arith, count_cons (is_child_at made) x xs, b, none_yet (suc x.made) xs made o.1 r.1 h)

module _ (l : List Frame) (x : Frame) (k : IsInOrder l) (n : IsNextOf x l) where
  pub no_child : 0 ≡ count_by (is_child_at x.made) (l ++ x ∷ [])
  no_child =
      let b = ap {B = ℕ} (λ b. cond b 1 0) (young x.parent x.made x.made n.before (omega arith)) in
      omega (arith, count_push (is_child_at x.made) l x, b, none_yet 0 l x.made k.older k.rising n.after)

  -- fewer than there are places
  pub count_few : (p : Frame → Bool) → count_by p l ≤ x.made
  count_few p = omega (arith, count_by-le-length p l, fewer_than 0 l x.made k.rising n.after)

-- ---- in rows

-- the one made there counts anew, and so each counts those of other frames
pub children_turned : (o : Option ℕ) (g : Row → Row) (l k : List Frame) (rs : List Row) → ((r : Row) → (g r).frame ≡ r.frame)
    → ((r : Row) → r.children ≡ count_by (is_child_at (place r)) l → is_some_and o (λ m. m == place r) ≡ true
    → (g r).children ≡ count_by (is_child_at (place r)) k)
    → ((m : ℕ) → is_some_and o (λ p. p == m) ≡ false → count_by (is_child_at m) l ≡ count_by (is_child_at m) k)
    → AreChildren l rs → AreChildren k (map (turned o g) rs)
children_turned o g l k rs frame anew others are =
    All-map (λ r. r.children ≡ count_by (is_child_at (place r)) k) (turned o g) rs (λ j d lt.
    let r = get_or rs j d in
    let e = are j d lt in
    let asked = asks (place r) o in
    cond_both (is_some_and o (λ m. place r == m)) (g r) r (λ x. x.children ≡ count_by (is_child_at (place x)) k)
    (λ yes. anew r e (sym asked ∙ yes) ∙ ap (λ (f : Frame). count_by (is_child_at f.made) k) (sym (frame r)))
    (λ no. e ∙ others (place r) (sym asked ∙ no)))
  where
    asks : (n : ℕ) (o : Option ℕ) → is_some_and o (λ m. n == m) ≡ is_some_and o (λ m. m == n)
    asks n None = refl
    asks n (Some m) = eqb_turned n m
