-- Closing among chosen calls where frames are in order: those that are due in turn, from the oldest on.
use Rattle.std.proofs.Common.{◌≡◌, ℕ, zero, suc, ◌==◌, ◌<◌, ◌≤◌, Bool, true, false, not, ◌&&◌, ◌||◌, List, [], ◌∷◌, Option, Some, None, ◌⊎◌, inl, inr, refl, ap, sym, subst, ◌∙◌, length, filter, find, get_or, arith}
use Rattle.std.proofs.{Math.Path.{fun_ext}, lemmas.List.Sorted.{list_any-IsPermutation}, lemmas.Bool.{and_parts, eqb-true, not-false}}
use Rattle.std.specs.{List.{cons_option}, List.Sorted.{IsNonDecreasing, IsPermutation}}
use Rattle.bd_ways.specs.{Words.{Frame, is_some_and, Space, list_any}, Local.{close_among}}
use Rattle.bd_keys.proofs.Found.{found_passes}
use Rattle.bd_space.specs.{Frames.{is_frame, is_child_of, is_gone}, Settle.{is_abandoned, settle_one}}
use Rattle.bd_frames.specs.{Places.{IsRising}, Words.{abandoned_in, is_place_among}, InOrder.{IsBefore, ParentsOlder, IsInOrder}}
use Rattle.bd_frames.proofs.InOrder.{in_order_filter}
use Rattle.bd_calls.specs.Closing.{close_due}
use Rattle.bd_calls.proofs.Closing.{closes, due_stays, due_closes}

-- ---- the frames of a list

-- the frame is one of these
abbrev In : Frame → List Frame → Type 0
In f [] = ⊥
In f (g ∷ gs) = (f ≡ g) ⊎ In f gs

found_in : (p : Frame → Bool) (fs : List Frame) (f : Frame) → find p fs ≡ Some f → In f fs
found_in p [] f h = absurd (cc)
found_in p (g ∷ fs) f h = grind (arith, found_in p fs f)

none_passes : (p : Frame → Bool) (fs : List Frame) (g : Frame) → find p fs ≡ None → In g fs → p g ≡ false
none_passes p [] g h i = absurd i
none_passes p (f ∷ fs) g h i = grind (arith, h, i, none_passes p fs g)

found_nowhere : (p : Frame → Bool) (fs : List Frame) → ((g : Frame) → In g fs → p g ≡ false) → find p fs ≡ None
found_nowhere p [] h = refl
found_nowhere p (f ∷ fs) h = grind (arith, h f (inl refl), found_nowhere p fs (λ g i. h g (inr i)))

in_filter : (q : Frame → Bool) (fs : List Frame) (g : Frame) → In g (filter q fs) → In g fs × (q g ≡ true)
in_filter q [] g i = absurd i
in_filter q (f ∷ fs) g i = grind (arith, i, in_filter q fs g)

-- what a filter leaves out does not pass
any_kept : (p q : Frame → Bool) (fs : List Frame) → ((g : Frame) → In g fs → q g ≡ false → p g ≡ false) → list_any p (filter q fs) ≡ list_any p fs
any_kept p q [] h = refl
any_kept p q (f ∷ fs) h = let here = h f (inl refl) in grind (arith, here, any_kept p q fs (λ g i. h g (inr i)))

above_in : (n : ℕ) (fs : List Frame) (f : Frame) → IsRising n fs → In f fs → n ≤ f.made
above_in n [] f r i = absurd i
above_in n (g ∷ fs) f r i = grind (arith, r, i, above_in (suc g.made) fs f r.1)

only_one : (n : ℕ) (fs : List Frame) (f g : Frame) → IsRising n fs → In f fs → In g fs → f.made ≡ g.made → f ≡ g
only_one n [] f g r i j e = absurd i
only_one n (h ∷ fs) f g r i j e =
    grind (arith, i, j, e, above_in (suc h.made) fs f r.1, above_in (suc h.made) fs g r.1, only_one (suc h.made) fs f g r.1)

older_in : (fs : List Frame) (f : Frame) → ParentsOlder fs → In f fs → IsBefore f.parent f.made
older_in [] f r i = absurd i
older_in (g ∷ fs) f r (inl is) = subst (λ x. IsBefore x.parent x.made) (sym is) r.0
older_in (g ∷ fs) f r (inr j) = older_in fs f r.1 j

-- a frame that passes is found first where none that passes is older
found_first : (q : Frame → Bool) (n : ℕ) (fs : List Frame) (f : Frame) → IsRising n fs → In f fs → q f ≡ true
    → ((g : Frame) → In g fs → q g ≡ true → f.made ≤ g.made) → find q fs ≡ Some f
found_first q n [] f r i e low = absurd i
found_first q n (g ∷ fs) f r i e low =
    let rest : In f fs → find q fs ≡ Some f = λ j. found_first q (suc g.made) fs f r.1 j e (λ x k. low x (inr k)) in
    grind (arith, i, e, low g (inl refl), above_in (suc g.made) fs f r.1, rest)

-- ---- places in order

abbrev IsSortedFrom : ℕ → List ℕ → Type 0
IsSortedFrom from [] = Unit {0}
IsSortedFrom from (c ∷ cs) = (from ≤ c) × IsSortedFrom c cs

sorted_down : (m n : ℕ) (cs : List ℕ) → m ≤ n → IsSortedFrom n cs → IsSortedFrom m cs
sorted_down m n [] h r = tt
sorted_down m n (c ∷ cs) h r = (omega (arith, h, r.0), r.1)

sorted_above : (from : ℕ) (cs : List ℕ) (k : ℕ) → IsSortedFrom from cs → is_place_among cs k ≡ true → from ≤ k
sorted_above from [] k r h = absurd (cc)
sorted_above from (c ∷ cs) k r h = grind (arith, h, r.0, sorted_above c cs k r.1)

sorted_list : (from : ℕ) (cs : List ℕ) → ((d : ℕ) → 0 < length cs → from ≤ get_or cs 0 d) → IsNonDecreasing cs → IsSortedFrom from cs
sorted_list from [] low up = tt
sorted_list from (c ∷ cs) low up =
    let first = low 0 (omega arith) in
    (first, sorted_list c cs (λ d more. up 0 1 d (omega arith) (omega (arith, more))) (λ i j d before more. up (suc i) (suc j) d (omega (arith, before)) (omega (arith, more))))

-- the parent comes before those that are due after its child
sorted_next : (m : Option ℕ) (n : ℕ) (cs : List ℕ) → IsBefore m n → IsSortedFrom n cs → IsSortedFrom 0 (cons_option m cs)
sorted_next None n cs old r = sorted_down 0 n cs (omega arith) r
sorted_next (Some p) n cs old r = (omega arith, sorted_down p n cs (omega (arith, old)) r)

among_next : (m : Option ℕ) (cs : List ℕ) (k : ℕ) → is_place_among (cons_option m cs) k ≡ (is_some_and m (λ p. p == k) || is_place_among cs k)
among_next None cs k = refl
among_next (Some p) cs k = refl

-- ---- these are due, and all that is chosen and abandoned is among them

record IsReady (chosen : ℕ → Bool) (due : List ℕ) (fs : List Frame) : Type 0 where
  in_order : IsInOrder fs
  sorted : IsSortedFrom 0 due
  among : (k : ℕ) → is_place_among due k ≡ true → chosen k ≡ true
  all : (g : Frame) → In g fs → chosen g.made ≡ true → is_abandoned fs g ≡ true → is_place_among due g.made ≡ true

abbrev or_parent : (ℕ → Bool) → Option ℕ → ℕ → Bool
or_parent c parent m = c m || is_some_and parent (λ p. p == m)

-- the call made at x is not abandoned
ready_stays : (c : ℕ → Bool) (x : ℕ) (xs : List ℕ) (fs : List Frame) → abandoned_in fs x ≡ None → IsReady c (x ∷ xs) fs → IsReady c xs fs
ready_stays c x xs fs none r = record {
  in_order = r.in_order;
  sorted = sorted_down 0 x xs (omega arith) r.sorted.1;
  among = λ k h. r.among k (grind (arith, h));
  all = λ g i h a. grind (arith, none_passes _ fs g none i, a, r.all g i h a);
}

-- it is abandoned, and closes
module _ (c : ℕ → Bool) (x : ℕ) (xs : List ℕ) (fs : List Frame) (f : Frame) (found : abandoned_in fs x ≡ Some f) (r : IsReady c (x ∷ xs) fs) where
  inside : In f fs
  inside = found_in _ fs f found

  passes : (f.made ≡ x) × (is_abandoned fs f ≡ true)
  passes = let both = and_parts _ _ (found_passes _ fs f found) in (eqb-true f.made x both.0, both.1)

  chosen_first : find (λ g. c g.made && is_abandoned fs g) fs ≡ Some f
  chosen_first =
      let here : c f.made ≡ true = r.among f.made (grind (arith, passes.0)) in
      found_first (λ g. c g.made && is_abandoned fs g) 0 fs f r.in_order.rising inside (grind (arith, here, passes.1))
      (λ g i h. let both = and_parts (c g.made) (is_abandoned fs g) h in grind (arith, passes.0, sorted_above x (x ∷ xs) g.made (omega arith, r.sorted.1) (r.all g i both.0 both.1)))

  abbrev left : List Frame
  left = filter (λ h. not (is_frame f.made h)) fs

  -- none is abandoned now that was not before but its parent
  freed : (g : Frame) → is_child_of g f ≡ false → is_abandoned left g ≡ is_abandoned fs g
  freed g apart = ap (λ b. is_gone g.server && not b)
      (any_kept (is_child_of g) _ fs (λ h i out. ap (is_child_of g) (only_one 0 fs h f r.in_order.rising i inside (eqb-true h.made f.made (not-false _ out))) ∙ apart))

  ready_next : IsReady (or_parent c f.parent) (cons_option f.parent xs) left
  ready_next = record {
    in_order = in_order_filter (λ h. not (is_frame f.made h)) fs r.in_order;
    sorted = sorted_next f.parent x xs (subst (IsBefore f.parent) passes.0 (older_in fs f r.in_order.older inside)) r.sorted.1;
    among = λ k h. grind (arith, h, among_next f.parent xs k, r.among k);
    all = λ g i h a. let j = in_filter (λ h. not (is_frame f.made h)) fs g i in
        grind (arith, h, a, passes.0, j.1, freed g, r.all g j.0, among_next f.parent xs g.made);
  }

-- ---- both come to the same

abbrev Meets : ℕ → Type 0
Meets n = (due : List ℕ) (c : ℕ → Bool) (s : Space) → IsReady c due s.frames → close_among n c s ≡ close_due n due s

meets_more : (n : ℕ) → Meets n → Meets (suc n)
meets_more n rest [] c s r = rw (found_nowhere _ s.frames nobody, close_among) refl
  where
    nobody : (g : Frame) → In g s.frames → (c g.made && is_abandoned s.frames g) ≡ false
    nobody g i = grind (arith, r.all g i)
meets_more n rest (x ∷ xs) c s r = at (abandoned_in s.frames x) refl (meets_more n rest xs c s)
  where
    at : (o : Option Frame) → abandoned_in s.frames x ≡ o → (IsReady c xs s.frames → close_among (suc n) c s ≡ close_due (suc n) xs s)
        → close_among (suc n) c s ≡ close_due (suc n) (x ∷ xs) s
    at None none go = go (ready_stays c x xs s.frames none r) ∙ sym (due_stays (suc n) x xs s none)
    at (Some f) found go =
        rw (chosen_first c x xs s.frames f found r, close_among)
        (rest (cons_option f.parent xs) (or_parent c f.parent) (settle_one s (Some f))
        (subst (IsReady (or_parent c f.parent) (cons_option f.parent xs)) (sym (closes s f.made f.caller).0) (ready_next c x xs s.frames f found r)))
        ∙ sym (due_closes n x xs s f found)

meets : (n : ℕ) → Meets n
meets zero = λ due c s r. refl
meets (suc n) = meets_more n (meets n)

pub among_in_order : (n : ℕ) (s : Space) (chosen sorted : List ℕ) → IsInOrder s.frames → IsNonDecreasing sorted → IsPermutation chosen sorted
    → close_among n (is_place_among chosen) s ≡ close_due n sorted s
among_in_order n s chosen sorted order up moved =
    ap (λ c. close_among n c s) (fun_ext (λ k. list_any-IsPermutation (λ m. m == k) chosen sorted moved))
    ∙ meets n sorted (is_place_among sorted) s
    (record { in_order = order; sorted = sorted_list 0 sorted (λ d more. omega arith) up; among = λ k h. h; all = λ g i h a. h })
