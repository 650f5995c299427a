-- FramesAreStacks: the frames of a thread as a stack, with the hops from frame to parent that a table of frames
-- makes.
use Rattle.bd_laws.proofs.words.Logic.{◌≡◌, ℕ, zero, suc, ◌<◌, List, [], ◌∷◌, filter, reverse, Some, inl, inr, refl, ap, sym, ◌∙◌, arith, cases_lt}
use Rattle.bd_laws.proofs.words.Types.{Frame, Buffer, Work}
use Rattle.bd_laws.proofs.words.Space.{Space, depth_in, innermost_in, takes_part, served_innermost, History, space_after}
use Rattle.bd_laws.proofs.words.Laws.{LowerThan, Rising, last_of, frames_with, AreStacks, In, Pairs, Forest, Older, NoChild, IsTidy}
use Rattle.bd_laws.proofs.Lists.{in_filter, pairs_map, pairs_filter}
use Rattle.bd_laws.proofs.OnPaths.Forests.{one_frame}
use Rattle.bd_laws.proofs.OnPaths.Innermost.{child_depth, newest_first, reverse_in, true_part}
use Rattle.bd_laws.proofs.OnPaths.Paths.{served_childless}
use Rattle.bd_laws.proofs.FramesAreStacks.LastFrame.{innermost_is_last}
use Rattle.bd_laws.proofs.Always.{always_tidy}

pairs_rising : (d : Frame → ℕ) (fs : List Frame) → Pairs (λ f g. d f < d g) fs → Rising d fs
pairs_rising d [] h = tt
pairs_rising d (f ∷ fs) h = (low (d f) fs h.0, pairs_rising d fs h.1)
  where
    low : (k : ℕ) (gs : List Frame) → ((g : Frame) → In g gs → k < d g) → LowerThan d k gs
    low k [] l = tt
    low k (g ∷ gs) l = (l g (inl refl), low k gs (λ x i. l x (inr i)))

module _ (n : ℕ) (root : ℕ → ℕ) (fs : List Frame) (bs : List Buffer) (td : List Work) (h : Forest n root fs bs td) where
  -- of two frames on one path the later is deeper
  deeper : (k : ℕ) (f g : Frame) → In f fs → In g fs → root f.made ≡ root g.made → f.made < g.made → g.made < k → depth_in fs f < depth_in fs g
  deeper zero f g l m e lt b = absurd (omega arith)
  deeper (suc k) f g l m e lt b =
      let link = h.linked f g l m e lt in
      let u = h.parents g link.0 m link.1 in
      let made = u.made in
      let older = u.older in
      let le = link.2 in
      let d = child_depth (reverse fs) (newest_first fs h.sorted) u.frame g (reverse_in u.frame fs u.here) (reverse_in g fs m) (omega arith) (link.1 ∙ ap (λ j. Some j) (sym made)) in
      elim (cases_lt f.made link.0) [
        | inl less ↦ (let far = deeper k f u.frame l u.here (e ∙ u.same ∙ ap root (sym made)) (omega arith) (omega arith) in omega arith)
        | inr ge ↦ (
            let is = one_frame fs h.sorted f u.frame l u.here (omega arith) in
            let same : depth_in fs f ≡ depth_in fs u.frame = ap (λ (x : Frame). depth_in fs x) is in omega arith)
      ]

  tidy_frames : AreStacks fs
  tidy_frames = record {
    rising = pairs_rising (λ f. f.made) fs h.sorted;
    stacks = λ seat.
        pairs_rising (depth_in fs) (filter (takes_part seat) fs)
        (pairs_map Older (λ f g. depth_in fs f < depth_in fs g) (filter (takes_part seat) fs) (λ f g l m lt.
        let i = in_filter (takes_part seat) f fs l in
        let j = in_filter (takes_part seat) g fs m in
        deeper (suc g.made) f g i.0 j.0 (h.shared seat f g i.0 j.0 (true_part seat f i.1) (true_part seat g j.1)) lt (omega arith)) (pairs_filter Older (takes_part seat) fs h.sorted));
  }

-- ---- the laws of every history

pub tidy_stacks : (s : Space) → IsTidy s → AreStacks s.frames
tidy_stacks s h = search (arith, tidy_frames)

-- each thread's frames rise in depth, and all in place
pub always_stacks : (h : History) → AreStacks (space_after h).frames
always_stacks h = tidy_stacks (space_after h) (always_tidy h)

-- A thread's innermost frame is the last of its frames.
pub innermost_last : (s : Space) → IsTidy s → (seat : ℕ) → innermost_in s.frames seat ≡ last_of (frames_with s.frames seat)
innermost_last s h seat = innermost_is_last s.frames seat ((tidy_stacks s h).stacks seat)

-- a reply closes a leaf, the last that its server has
pub replied_childless : (s : Space) (seat : ℕ) (f : Frame) → IsTidy s → served_innermost s seat ≡ Some f → In f s.frames × NoChild s.frames f
replied_childless s seat f h e = served_childless s.steps s seat f h.on_paths e
