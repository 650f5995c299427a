-- What a table's rows stand for, as they come, go and change.
use Rattle.std.proofs.Common.{◌≡◌, ℕ, ◌<◌, ◌==◌, ◌&&◌, Bool, true, false, cond, List, [], ◌∷◌, Option, Some, None, All, find, length, get_or, map, refl, sym, ap, ◌∙◌, subst, arith, eqb-true, ◌+◌, filter}
use Rattle.std.proofs.{lemmas.Bool.{cond_both}, lemmas.List.{get_or-map, length-map, map-id}, lemmas.List.Sums.{sum_by-remove}}
use Rattle.std.proofs.lemmas.List.Elements.{All-map}
use Rattle.std.specs.{Prelude.{option_map}, Bool.{then_some}, List.{count_by, remove}}
use Rattle.bd_space.specs.{declared.space.Frame.{Frame}, Words.{changed, is_some_and}, Frames.{is_frame, is_gone, made_of}, Settle.{is_abandoned}}
use Rattle.bd_keys.proofs.{Rising.{distinct, find_at, filter_at, without}, Found.{by_key, found_has, found_passes, none_found}}
use Rattle.bd_ways.proofs.Ranges.{first_of_both}
use Rattle.bd_frames.specs.{declared.frame.Row.{Row}, declared.table.FrameTable.{FrameTable}}
use Rattle.bd_frames.specs.{Places.{frames_of, place, AreRising, IsRising, IsAt, turned}, Children.{AreChildren, is_child_at}}
use Rattle.bd_frames.specs.{Linked.{AreStacks, IsStack, top_in}, Stands.{FramesAre}}
use Rattle.bd_frames.proofs.{Places.{rising_rows, rising_frames, changed_map}, InOrder.{KeepsPlaces, in_order_map}, Counting.{count_map, count_none}}

pub frames_mapped : (g : Frame → Frame) (f : Row → Row) → ((r : Row) → (f r).frame ≡ g r.frame) → (rs : List Row)
    → frames_of (map f rs) ≡ map g (frames_of rs)
frames_mapped g f is [] = refl
frames_mapped g f is (r ∷ rs) = rw (is r, frames_mapped g f is rs) refl

turned_frame : (b : Bool) (r x : Row) → (cond b r x).frame ≡ cond b r.frame x.frame
turned_frame true r x = refl
turned_frame false r x = refl

pub frames_kept : (o : Option ℕ) (f : Row → Row) → ((r : Row) → (f r).frame ≡ r.frame) → (rs : List Row)
    → frames_of (map (turned o f) rs) ≡ frames_of rs
frames_kept o f is rs =
    frames_mapped (λ x. x) (turned o f)
    (λ r. cond_both (is_some_and o (λ m. place r == m)) (f r) r (λ x. x.frame ≡ r.frame) (λ e. is r) (λ e. refl)) rs
    ∙ map-id (frames_of rs)

pub frames_filtered : (p : Frame → Bool) (rs : List Row) → frames_of (filter (λ r. p r.frame) rs) ≡ filter p (frames_of rs)
frames_filtered p [] = refl
frames_filtered p (r ∷ rs) = grind (arith, frames_filtered p rs)

module _ (t : FrameTable) (l : List Frame) (h : FramesAre t l) where
  l_rising : IsRising 0 (frames_of t.rows.items)
  l_rising = subst (IsRising 0) (sym h.items_are) h.in_order.rising

  pub own_rising : AreRising t.rows.items
  own_rising = rising_rows t.rows.items l_rising

  pub own_stack : (s : ℕ) (top : Option ℕ) → top ≡ top_in t.stacks s → IsStack s top t.rows.items
  own_stack s top is = subst (λ (o : Option ℕ). IsStack s o t.rows.items) (sym is) (h.stacks_are s)

  -- ---- each row changes

  module _ (u : FrameTable) (g : Frame → Frame) (f : Row → Row) (keeps : KeepsPlaces g) (frame : (r : Row) → (f r).frame ≡ g r.frame)
      (children : (r : Row) → (f r).children ≡ r.children) where
    pub all_changed : u.rows.items ≡ map f t.rows.items → AreStacks u.stacks (map f t.rows.items) → FramesAre u (map g l)
    all_changed is stacks = record {
      items_are = ap frames_of is ∙ frames_mapped g f frame t.rows.items ∙ ap (map g) h.items_are;
      in_order = in_order_map g keeps l h.in_order;
      children_are = subst (AreChildren (map g l)) (sym is) (All-map (λ r. r.children ≡ count_by (is_child_at (place r)) (map g l)) f t.rows.items
          (λ k d lt.
          let r = get_or t.rows.items k d in
          children r ∙ h.children_are k d lt ∙ sym (count_map (place r) g keeps l)
          ∙ ap (λ m. count_by (is_child_at m) (map g l)) (sym (ap (λ (f : Frame). f.made) (frame r) ∙ (keeps r.frame).0))));
      stacks_are = subst (AreStacks u.stacks) (sym is) stacks;
    }

  -- the one made there does
  module _ (u : FrameTable) (made : ℕ) (g : Frame → Frame) (f : Row → Row) (keeps : KeepsPlaces g) (frame : (r : Row) → (f r).frame ≡ g r.frame)
      (children : (r : Row) → (f r).children ≡ r.children) where
    pub one_changed : u.rows.items ≡ map (turned (Some made) f) t.rows.items → AreStacks u.stacks (map (turned (Some made) f) t.rows.items)
        → FramesAre u (changed (is_frame made) g l)
    one_changed is stacks =
        subst (FramesAre u) (sym (changed_map (is_frame made) g l))
        (all_changed u (λ x. cond (is_frame made x) (g x) x) (turned (Some made) f)
        (λ x. cond_both (is_frame made x) (g x) x (λ y. (y.made ≡ x.made) × (y.parent ≡ x.parent)) (λ e. keeps x) (λ e. (refl, refl)))
        (λ r. turned_frame (place r == made) (f r) r ∙ ap (λ x. cond (place r == made) x r.frame) (frame r))
        (λ r. cond_both (place r == made) (f r) r (λ x. x.children ≡ r.children) (λ e. children r) (λ e. refl)) is stacks)

  -- ---- what is looked for

  module _ (made : ℕ) where
    pub nowhere : IsAt made t.rows.items None → All (λ f. is_frame made f ≡ false) l
    nowhere none =
        subst (All (λ f. is_frame made f ≡ false)) h.items_are (All-map (λ f. is_frame made f ≡ false) (λ (r : Row). r.frame) t.rows.items none)

    module _ (i : ℕ) (d : Row) (lt : i < length t.rows.items) (at : IsAt made t.rows.items (Some i)) where
      within : i < length l
      within = rw (sym h.items_are, length-map) lt

      pub found : find (is_frame made) l ≡ Some (get_or t.rows.items i d).frame
      found =
          let rs = t.rows.items in
          let frame = λ (r : Row). r.frame in
          ap (find (is_frame made)) (sym h.items_are)
          ∙ find_at made_of made (frames_of rs) i d.frame (distinct made_of (frames_of rs) (rising_frames 0 (frames_of rs) l_rising))
          (rw length-map lt) (λ e. ap made_of (get_or-map frame rs i d e lt) ∙ at d)
          ∙ ap (λ f. Some f) (get_or-map frame rs i d d.frame lt)

      module _ (is : d ≡ get_or t.rows.items i d) where
        -- where it goes
        pub count_closed : (p : Frame → Bool) → count_by p (without made_of made l) + cond (p d.frame) 1 0 ≡ count_by p l
        count_closed p =
            let frame = λ (r : Row). r.frame in
            let here : get_or l i d.frame ≡ d.frame = rw (sym h.items_are) (get_or-map frame t.rows.items i d d.frame lt ∙ ap frame (sym is)) in
            let gone = filter_at made_of made l i (distinct made_of l (rising_frames 0 l h.in_order.rising)) within
            (λ e. rw (sym h.items_are) (ap made_of (get_or-map frame t.rows.items i d e lt) ∙ at d)) in
            ap (λ fs. count_by p fs + cond (p d.frame) 1 0) gone ∙ ap (λ f. count_by p (remove l i) + cond (p f) 1 0) (sym here)
            ∙ sum_by-remove (λ y. cond (p y) 1 0) l i d.frame within

        -- no child is counted where there is none
        left_alone : (is_gone d.frame.server && (d.children == 0)) ≡ is_abandoned l d.frame
        left_alone =
            let counted : d.children ≡ count_by (is_child_at d.frame.made) l =
            subst (λ (x : Row). x.children ≡ count_by (is_child_at (place x)) l) (sym is) (h.children_are i d lt) in
            ap (λ b. is_gone d.frame.server && b) (ap (λ n. n == 0) counted ∙ count_none (is_child_at d.frame.made) l)

        abbrev both : Frame → Bool
        both f = is_frame made f && is_abandoned l f

        -- it is found if it is abandoned
        pub abandoned : (b : Bool) → (is_gone d.frame.server && (d.children == 0)) ≡ b → find both l ≡ then_some b d.frame
        abandoned b e = by (find both l) refl b (sym left_alone ∙ e)
          where
            one : find (is_frame made) l ≡ Some d.frame
            one = found ∙ ap (λ (x : Row). Some x.frame) (sym is)

            by : (o : Option Frame) → find both l ≡ o → (b : Bool) → is_abandoned l d.frame ≡ b → o ≡ then_some b d.frame
            by None f true e =
                let no = found_has (is_frame made) (λ x. both x ≡ false) l d.frame one (none_found both l f) in
                absurd (grind (arith, no.0, no.1, e))
            by None f false e = refl
            by (Some y) f b e =
                let passes = found_passes both l y f in
                let made_there = eqb-true y.made made (first_of_both (is_frame made y) _ passes) in
                let same = sym one ∙ by_key made_of both l made (rising_frames 0 l h.in_order.rising)
                (ap (λ m. Some m) (sym made_there) ∙ ap (option_map made_of) (sym f)) ∙ f in
                let is : d.frame ≡ y = cc in
                let dead : is_abandoned l y ≡ true = grind (arith, passes) in
                rw (sym e ∙ ap (is_abandoned l) is ∙ dead) (sym same)
