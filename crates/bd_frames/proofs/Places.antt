-- Frames in the order of their places, and where among the rows those are that are looked for.
use Rattle.std.proofs.Common.{◌≡◌, ℕ, suc, ◌≤◌, ◌<◌, Bool, true, false, cond, List, [], ◌∷◌, Some, None, map, length, get_or, set, take, ltb, refl, sym, ap, ◌∙◌, arith, inl, inr, All, ne_eqb}
use Rattle.std.proofs.{lemmas.Bool.{ltb-true, ltb-false, cases_lt}, lemmas.List.{get_or-map, get_or_default, length-map, get_or-take, length-take}}
use Rattle.std.proofs.{lemmas.List.Elements.{All-cons, All-weaker}, lemmas.List.Kept.{AllPairs-cons}}
use Rattle.std.specs.List.Sorted.{IsPartitionPoint}
use Rattle.bd_space.specs.{declared.space.Frame.{Frame}, declared.space.Server.TheVariants.{Pending}, Frames.{made_of}, Words.{changed}}
use Rattle.bd_space.proofs.Keyed.{changed_none, changed_at}
use Rattle.bd_keys.proofs.Rising.{Rising, has, distinct}
use Rattle.bd_frames.specs.{declared.frame.Row.{Row}, Places.{frames_of, place, IsRising, AreRising, IsAt, turned}}

-- what stands where a list has ended
abbrev pub no_row : Row
no_row = record { frame = record { made = 0; caller = None; server = Pending; parent = None }; caller = None; server = None; children = 0 }

-- ---- in the order of their places

pub rising_from : (m n : ℕ) (xs : List Frame) → m ≤ n → IsRising n xs → IsRising m xs
rising_from m n [] h r = tt
rising_from m n (x ∷ xs) h r = (omega (arith, h, r.0), r.1)

above : (m : ℕ) (xs : List Frame) → IsRising m xs → All (λ x. m ≤ x.made) xs
above m [] r = λ k d h. absurd (omega arith)
above m (x ∷ xs) r =
    let a = r.0 in
    All-cons (λ y. m ≤ y.made) x xs a
    (All-weaker (λ y. suc x.made ≤ y.made) (λ y. m ≤ y.made) (λ y h. omega (arith, a, h)) xs (above (suc x.made) xs r.1))

pub rising_frames : (m : ℕ) (xs : List Frame) → IsRising m xs → Rising made_of xs
rising_frames m [] r = λ i j d h k. absurd (omega arith)
rising_frames m (x ∷ xs) r = AllPairs-cons (λ a b. a.made < b.made) x xs (above (suc x.made) xs r.1) (rising_frames (suc x.made) xs r.1)

pub rising_rows : (rs : List Row) → IsRising 0 (frames_of rs) → AreRising rs
rising_rows rs r i j d h k =
    let f = λ (x : Row). x.frame in
    let up = rising_frames 0 (frames_of rs) r i j d.frame h (rw length-map k) in
    rw (get_or-map f rs i d d.frame (omega arith), get_or-map f rs j d d.frame k) at up

pub rising_take : (n : ℕ) (rs : List Row) → AreRising rs → AreRising (take n rs)
rising_take n rs r i j d h k =
    let low = length-take n rs in
    rw (get_or-take n rs i d (omega arith), get_or-take n rs j d (omega arith)) (r i j d h (omega arith))

-- where no frame was made there
pub none_there : (rs : List Row) (made i : ℕ) → AreRising rs
    → IsPartitionPoint (λ r. ltb (place r) made ≡ true) (λ r. ltb (place r) made ≡ false) rs i
    → (i < length rs → IsAt made rs (Some i) → ⊥) → IsAt made rs None
none_there rs made i rises p other = λ k d lt. ne_eqb (place (get_or rs k d)) made (λ same. elim (cases_lt k i) [
  | inl low ↦ let e = ltb-true (place (get_or rs k d)) made (p.0 k d (omega arith) low) in absurd (omega (arith, e, same))
  | inr high ↦ elim (cases_lt i k) [
    | inl up ↦
        let e = ltb-false (place (get_or rs i d)) made (p.1 i d (omega arith) (omega arith)) in
        let r = rises i k d up lt in
        absurd (omega (arith, e, r, same))
    | inr down ↦
        let is : k ≡ i = omega arith in
        absurd (other (omega arith) (λ e. ap place (get_or_default rs i e d (omega arith)) ∙ (rw is at same)))
  ]
])

-- ---- a row changes

pub changed_map : {A : Type 0} (p : A → Bool) (f : A → A) (xs : List A) → changed p f xs ≡ map (λ x. cond (p x) (f x) x) xs
changed_map p f [] = refl
changed_map p f (x ∷ xs) = ap (λ ys. cond (p x) (f x) x ∷ ys) (changed_map p f xs)

module _ (g : Row → Row) (made : ℕ) (rs : List Row) where
  pub turned_at : (i : ℕ) (d : Row) → AreRising rs → i < length rs → IsAt made rs (Some i)
      → set rs i (g (get_or rs i d)) ≡ map (turned (Some made) g) rs
  turned_at i d rises lt is = sym (changed_at place g made rs i d (distinct place rs rises) lt is) ∙ changed_map (has place made) g rs

  pub turned_nowhere : IsAt made rs None → rs ≡ map (turned (Some made) g) rs
  turned_nowhere none = sym (changed_none place g made rs none) ∙ changed_map (has place made) g rs
