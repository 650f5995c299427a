-- The frames of a thread are a stack: the later one was made, the deeper it lies.
use Rattle.std.specs.Prelude.{◌≡◌, ◌⊎◌, ℕ, ◌<◌, List, [], ◌∷◌, filter, Option, Some, None}
use Rattle.bd_ways.specs.Words.{Frame}
use Rattle.bd_space.specs.Frames.{takes_part, depth_in}

-- x is one of these
abbrev pub Among : {A : Type 0} → A → List A → Type 0
Among x [] = ⊥
Among x (y ∷ ys) = (x ≡ y) ⊎ Among x ys

-- k is less than what d tells of each
abbrev pub LowerThan : (Frame → ℕ) → ℕ → List Frame → Type 0
LowerThan d k [] = Unit {0}
LowerThan d k (f ∷ fs) = (k < d f) × LowerThan d k fs

-- what d tells grows along the list
abbrev pub Rising : (Frame → ℕ) → List Frame → Type 0
Rising d [] = Unit {0}
Rising d (f ∷ fs) = LowerThan d (d f) fs × Rising d fs

abbrev pub last_of : List Frame → Option Frame
last_of [] = None
last_of (f ∷ []) = Some f
last_of (f ∷ g ∷ fs) = last_of (g ∷ fs)

-- The frames in which the thread of this seat takes part, as caller or server.
abbrev pub frames_with : List Frame → ℕ → List Frame
frames_with frames seat = filter (takes_part seat) frames

-- frames stand in the order in which they were made, and those of each thread in the order of their depth
pub record AreStacks (frames : List Frame) : Type 0 where
  pub rising : Rising (λ f. f.made) frames
  pub stacks : (seat : ℕ) → Rising (depth_in frames) (frames_with frames seat)
