-- Frames each of which was made after the one before it, and after its parent.
use Rattle.std.proofs.Common.{◌≡◌, ℕ, suc, ◌+◌, ◌≤◌, Bool, true, false, cond, List, [], ◌∷◌, ◌++◌, filter, map, length, subst, sym, arith}
use Rattle.bd_space.specs.declared.space.Frame.{Frame}
use Rattle.bd_frames.specs.{Places.{IsRising, IsAfter}, InOrder.{IsBefore, ParentsOlder, IsInOrder, IsNextOf}}
use Rattle.bd_frames.proofs.Places.{rising_from}

rising_push : (m : ℕ) (xs : List Frame) (x : Frame) → IsRising m xs → IsAfter m xs x.made → IsRising m (xs ++ x ∷ [])
rising_push m [] x r h = (h, tt)
rising_push m (y ∷ ys) x r h = (r.0, rising_push (suc y.made) ys x r.1 h)

-- a frame stands above each place below it
pub after_all : (m : ℕ) (xs : List Frame) (made : ℕ) → IsRising m xs → IsAfter m xs made → m ≤ made
after_all m [] made r h = h
after_all m (x ∷ xs) made r h = let a = r.0 in let b = after_all (suc x.made) xs made r.1 h in omega (arith, a, b)

pub fewer_than : (m : ℕ) (xs : List Frame) (made : ℕ) → IsRising m xs → IsAfter m xs made → length xs ≤ made
fewer_than m xs made r h = let a = by m xs r h in omega (arith, a)
  where
    by : (m : ℕ) (xs : List Frame) → IsRising m xs → IsAfter m xs made → m + length xs ≤ made
    by m [] r h = omega (arith, h)
    by m (x ∷ xs) r h = let a = r.0 in let b = by (suc x.made) xs r.1 h in omega (arith, a, b)

rising_filter : (p : Frame → Bool) (m : ℕ) (xs : List Frame) → IsRising m xs → IsRising m (filter p xs)
rising_filter p m [] r = tt
rising_filter p m (x ∷ xs) r = by (p x) (rising_filter p (suc x.made) xs r.1)
  where
    by : (b : Bool) → IsRising (suc x.made) (filter p xs) → IsRising m (cond b (x ∷ filter p xs) (filter p xs))
    by true s = (r.0, s)
    by false s = rising_from m (suc x.made) (filter p xs) (omega (arith, r.0)) s

rising_map : (f : Frame → Frame) → ((x : Frame) → (f x).made ≡ x.made) → (m : ℕ) (xs : List Frame) → IsRising m xs → IsRising m (map f xs)
rising_map f made m [] r = r
rising_map f made m (x ∷ xs) r = subst (λ n. (m ≤ n) × IsRising (suc n) (map f xs)) (sym (made x)) (r.0, rising_map f made (suc x.made) xs r.1)

older_push : (xs : List Frame) (x : Frame) → ParentsOlder xs → IsBefore x.parent x.made → ParentsOlder (xs ++ x ∷ [])
older_push [] x r h = (h, tt)
older_push (y ∷ ys) x r h = (r.0, older_push ys x r.1 h)

pub in_order_push : (xs : List Frame) (x : Frame) → IsInOrder xs → IsNextOf x xs → IsInOrder (xs ++ x ∷ [])
in_order_push xs x k n = record { rising = rising_push 0 xs x k.rising n.after; older = older_push xs x k.older n.before }

older_filter : (p : Frame → Bool) (xs : List Frame) → ParentsOlder xs → ParentsOlder (filter p xs)
older_filter p [] r = r
older_filter p (x ∷ xs) r = by (p x) (older_filter p xs r.1)
  where
    by : (b : Bool) → ParentsOlder (filter p xs) → ParentsOlder (cond b (x ∷ filter p xs) (filter p xs))
    by true s = (r.0, s)
    by false s = s

pub in_order_filter : (p : Frame → Bool) (xs : List Frame) → IsInOrder xs → IsInOrder (filter p xs)
in_order_filter p xs k = record { rising = rising_filter p 0 xs k.rising; older = older_filter p xs k.older }

-- what changes neither a place nor a parent
abbrev pub KeepsPlaces : (Frame → Frame) → Type 0
KeepsPlaces f = (x : Frame) → ((f x).made ≡ x.made) × ((f x).parent ≡ x.parent)

older_map : (f : Frame → Frame) → KeepsPlaces f → (xs : List Frame) → ParentsOlder xs → ParentsOlder (map f xs)
older_map f h [] r = r
older_map f h (x ∷ xs) r =
    (subst (λ o. IsBefore o (f x).made) (sym (h x).1) (subst (λ m. IsBefore x.parent m) (sym (h x).0) r.0), older_map f h xs r.1)

pub in_order_map : (f : Frame → Frame) → KeepsPlaces f → (xs : List Frame) → IsInOrder xs → IsInOrder (map f xs)
in_order_map f h xs k = record { rising = rising_map f (λ x. (h x).0) 0 xs k.rising; older = older_map f h xs k.older }
