-- Open calls lie on paths.
use Rattle.std.specs.Prelude.{ℕ, ◌≡◌, ◌≤◌, Bool, true, not, ◌&&◌, ◌||◌, List, length, reverse, filter, Some}
use Rattle.bd_ways.specs.Words.{list_any, list_all, Frame}
use Rattle.bd_space.specs.Frames.{ancestry, takes_part, is_child_of, is_frame}
use Rattle.bd_space.specs.Histories.{History, IsHistory}
use Rattle.bd_audit.specs.Laws.{space_at}

-- f stands on the way from g by parents
abbrev pub is_on_way : List Frame → Frame → Frame → Bool
is_on_way frames f g = list_any (is_frame f.made) (ancestry (Some g.made) (reverse frames))

-- a thread that takes part in both has the one on the way from the other
abbrev pub is_one_path : List Frame → ℕ → Frame → Frame → Bool
is_one_path frames seat f g = not (takes_part seat f && takes_part seat g) || (is_on_way frames f g || is_on_way frames g f)

-- in the space of every beginning of a history, each frame has one open child at most, and the frames of each thread lie
-- on one path
abbrev pub FramesLieOnOnePath : Type 0
FramesLieOnOnePath = (h : History) → IsHistory h → (n : ℕ)
    → ((f : Frame) → length (filter (is_child_of f) (space_at h n).frames) ≤ 1)
    × ((seat : ℕ) → list_all (λ f. list_all (is_one_path (space_at h n).frames seat f) (space_at h n).frames) (space_at h n).frames ≡ true)
