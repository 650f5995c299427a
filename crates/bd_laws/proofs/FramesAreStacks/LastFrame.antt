-- In a stack of frames the innermost is found at the end. What the law FramesAreStacks knows of innermost frames.
use Rattle.bd_laws.proofs.words.Logic.{◌≡◌, ◌⊎◌, inl, inr, ℕ, ◌<◌, List, [], ◌∷◌, Option, Some, None, refl, ap, arith}
use Rattle.bd_laws.proofs.words.Types.{Frame}
use Rattle.bd_laws.proofs.words.Space.{takes_part, depth_in, innermost_in}
use Rattle.bd_laws.proofs.words.Laws.{In, LowerThan, Rising, last_of, frames_with}
use Rattle.bd_laws.proofs.Lists.{in_filter, filter_in}
use Rattle.bd_laws.proofs.OnPaths.Innermost.{innermost_is, none_innermost, part_true, true_part}

-- ---- a list that rises

in_last : (z : Frame) (fs : List Frame) → last_of fs ≡ Some z → In z fs
in_last z [] e = absurd (cc)
in_last z (f ∷ []) e = inl (cc)
in_last z (f ∷ g ∷ fs) e = inr (in_last z (g ∷ fs) e)

no_last : (f : Frame) (fs : List Frame) → last_of fs ≡ None → In f fs → ⊥
no_last f [] e l = l
no_last f (g ∷ []) e l = absurd (cc)
no_last f (g ∷ h ∷ fs) e l = no_last h (h ∷ fs) e (inl refl)

module _ (d : Frame → ℕ) (z : Frame) where
  last_greater : (k : ℕ) (fs : List Frame) → LowerThan d k fs → last_of fs ≡ Some z → k < d z
  last_greater k [] h e = absurd (cc)
  last_greater k (f ∷ []) h e = search arith
  last_greater k (f ∷ g ∷ fs) h e = last_greater k (g ∷ fs) h.1 e

  -- all others are below the last
  last_or_lower : (g : Frame) (fs : List Frame) → Rising d fs → last_of fs ≡ Some z → In g fs → (g ≡ z) ⊎ (d g < d z)
  last_or_lower g [] h e l = absurd l
  last_or_lower g (f ∷ []) h e l = search arith
  last_or_lower g (f ∷ f' ∷ fs) h e (inl is) = let lt = last_greater (d f) (f' ∷ fs) h.0 e in let same : d f ≡ d g = ap d is in inr (omega arith)
  last_or_lower g (f ∷ f' ∷ fs) h e (inr l) = last_or_lower g (f' ∷ fs) h.1 e l

-- ---- the innermost

module _ (frames : List Frame) (seat : ℕ) (h : Rising (depth_in frames) (frames_with frames seat)) where
  no_frame : (o : Option Frame) → last_of (frames_with frames seat) ≡ o → ((f : Frame) → In f (frames_with frames seat) → ⊥) → None ≡ o
  no_frame None e k = refl
  no_frame (Some z) e k = absurd (k z (in_last z (frames_with frames seat) e))

  one_frame : (f : Frame) (o : Option Frame) → last_of (frames_with frames seat) ≡ o → innermost_in frames seat ≡ Some f → Some f ≡ o
  one_frame f None e k = let i = innermost_is frames seat f k in absurd (no_last f (frames_with frames seat) e (filter_in (takes_part seat) f frames i.0 (part_true seat f i.1)))
  one_frame f (Some z) e k =
      let i = innermost_is frames seat f k in
      let last = in_filter (takes_part seat) z frames (in_last z (frames_with frames seat) e) in
      let le = i.2 z last.0 (true_part seat z last.1) in
      let there = filter_in (takes_part seat) f frames i.0 (part_true seat f i.1) in
      elim (last_or_lower (depth_in frames) z f (frames_with frames seat) h e there) [ inl is ↦ ap (λ x. Some x) is | inr lt ↦ absurd (omega arith) ]

  pub innermost_is_last : innermost_in frames seat ≡ last_of (frames_with frames seat)
  innermost_is_last = search (arith, no_frame, in_filter, none_innermost, one_frame)
