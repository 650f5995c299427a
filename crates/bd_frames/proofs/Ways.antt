-- From the newest frame on: the way by parents, and the first that passes.
use Rattle.std.proofs.Common.{◌≡◌, ℕ, zero, suc, ◌<◌, ◌==◌, Bool, true, false, List, [], ◌∷◌, Some, None, All, find, take, length, get_or, refl, ◌∙◌, arith, eq-eqb}
use Rattle.std.proofs.lemmas.List.Elements.{All-head, All-tail}
use Rattle.std.specs.List.{AllWithin}
use mathlib.Core.List.{reverse_aux}
use Rattle.bd_space.specs.{declared.space.Frame.{Frame}, Frames.{ancestry}}
use Rattle.bd_keys.proofs.Rising.{pairs_tail, rest_differ, distinct}
use Rattle.bd_frames.specs.{declared.frame.Row.{Row}, Places.{frames_of, place, AreRising}}

-- ---- the newest one that passes, of these rows and of frames before them

module _ (q : Frame → Bool) where
  pub none_newer : (rs : List Row) (fs : List Frame) → All (λ r. q r.frame ≡ false) rs → find q (reverse_aux (frames_of rs) fs) ≡ find q fs
  none_newer [] fs none = refl
  none_newer (r ∷ rs) fs none =
      none_newer rs (r.frame ∷ fs) (All-tail (λ r. q r.frame ≡ false) r rs none) ∙ rw (All-head (λ r. q r.frame ≡ false) r rs none) refl

  pub newest : (rs : List Row) (i : ℕ) (d : Row) (fs : List Frame) → i < length rs → q (get_or rs i d).frame ≡ true
      → AllWithin (λ r. q r.frame ≡ false) rs (suc i) (length rs) → find q (reverse_aux (frames_of rs) fs) ≡ Some (get_or rs i d).frame
  newest [] i d fs lt is none = absurd (omega arith)
  newest (r ∷ rs) zero d fs lt is none = none_newer rs (r.frame ∷ fs) (λ k e h. none (suc k) e (omega arith) (omega arith)) ∙ rw is refl
  newest (r ∷ rs) (suc i) d fs lt is none = newest rs i d (r.frame ∷ fs) (omega arith) is (λ k e a b. none (suc k) e (omega arith) (omega arith))

-- ---- the way from a place

pub way_ended : (fs : List Frame) → ancestry None fs ≡ []
way_ended [] = refl
way_ended (f ∷ fs) = way_ended fs

module _ (made : ℕ) where
  pub way_none : (rs : List Row) (fs : List Frame) → All (λ r. (place r == made) ≡ false) rs
      → ancestry (Some made) (reverse_aux (frames_of rs) fs) ≡ ancestry (Some made) fs
  way_none [] fs none = refl
  way_none (r ∷ rs) fs none =
      way_none rs (r.frame ∷ fs) (All-tail (λ r. (place r == made) ≡ false) r rs none) ∙ rw (All-head (λ r. (place r == made) ≡ false) r rs none) refl

  pub way_found : (rs : List Row) (i : ℕ) (d : Row) (fs : List Frame) → AreRising rs → i < length rs → ((d : Row) → place (get_or rs i d) ≡ made)
      → ancestry (Some made) (reverse_aux (frames_of rs) fs)
      ≡ (get_or rs i d).frame ∷ ancestry (get_or rs i d).frame.parent (reverse_aux (frames_of (take i rs)) fs)
  way_found [] i d fs rises lt is = absurd (omega arith)
  way_found (r ∷ rs) zero d fs rises lt is =
      way_none rs (r.frame ∷ fs) (rest_differ place made r rs (distinct place (r ∷ rs) rises) (is r)) ∙ rw (eq-eqb (place r) made (is r)) refl
  way_found (r ∷ rs) (suc i) d fs rises lt is = way_found rs i d (r.frame ∷ fs) (pairs_tail (λ a b. place a < place b) r rs rises) (omega arith) is
