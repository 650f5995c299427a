-- FollowingIsLocal: closing one frame can leave only its parent abandoned: so settling goes up from there.
use Rattle.bd_laws.proofs.words.Logic.{arith, ◌≡◌, ℕ, zero, suc, Bool, true, not, ◌&&◌, List, [], ◌∷◌, Option, Some, None, inr, refl, ap, sym, subst, ◌∙◌, filter, find, length, list_any, eqb-true, eq-eqb}
use Rattle.bd_laws.proofs.words.Types.{DeadReply, Frame, Verdict}
use Rattle.bd_laws.proofs.words.Space.{Space, is_gone, is_frame, is_child_of, closed, tell_caller, is_abandoned, settle_one, settle_step, settle_times, settle, close_up}
use Rattle.bd_laws.specs.Lists.{In}
use Rattle.bd_laws.proofs.Lists.{in_filter, filter_in, any_found, any_in, find_in}
use Rattle.bd_laws.proofs.Tests.{either_way, both, and_both, not_true, not_false, to_false}
use Rattle.bd_laws.proofs.Machine.Settled.{times_still}
use Rattle.bd_laws.proofs.Sending.{find_none, none_found}
use Rattle.bd_laws.proofs.Machine.Fields.{told_frames, closed_frames}

-- frames are told by where they were made
abbrev pub OneEach : List Frame → Type 0
OneEach fs = (f g : Frame) → In f fs → In g fs → f.made ≡ g.made → f ≡ g

-- only the frame made there may be abandoned
abbrev pub OnlyAt : Option ℕ → List Frame → Type 0
OnlyAt m fs = (f : Frame) → In f fs → is_abandoned fs f ≡ true → m ≡ Some f.made

-- ---- one step first

pub times_first : (n : ℕ) (z : Space) → settle_times (suc n) z ≡ settle_times n (settle_step z)
times_first zero z = refl
times_first (suc n) z = ap settle_step (times_first n z)

pub find_same : {A : Type 0} (p q : A → Bool) (xs : List A) → ((x : A) → In x xs → p x ≡ q x) → find p xs ≡ find q xs
find_same p q [] h = refl
find_same p q (x ∷ xs) h = search (arith, find_same p q xs (λ y l. h y (inr l)))

-- no other frame than its parent becomes abandoned when a frame closes
pub only_parent : (fs : List Frame) (f : Frame) → OneEach fs → In f fs → ((g : Frame) → In g fs → is_abandoned fs g ≡ true → g.made ≡ f.made)
    → OnlyAt f.parent (filter (λ g. not (is_frame f.made g)) fs)
only_parent fs f one l only g m abandoned =
    let keep = λ (g : Frame). not (is_frame f.made g) in
    let i = in_filter keep g fs m in
    let t = both (is_gone g.server) (not (list_any (is_child_of g) (filter keep fs))) abandoned in
    let none = not_true (list_any (is_child_of g) (filter keep fs)) t.1 in
    either_way (list_any (is_child_of g) fs)
    (λ e. let c = any_found (is_child_of g) fs e in either_way (is_frame f.made c.0)
    (λ k. let is = one c.0 f c.1 l (eqb-true c.0.made f.made k) in ap (λ (x : Frame). x.parent) (sym is) ∙ child c.0 c.2)
    (λ k. let still = any_in (is_child_of g) c.0 _ (filter_in keep c.0 fs c.1 (not_false _ k)) c.2 in absurd (cc)))
    (λ e. let same = eq-eqb g.made f.made (only g i.0 (and_both (is_gone g.server) _ t.0 (not_false _ e))) in let other = not_true (is_frame f.made g) i.1 in absurd (cc))
  where
    child : (h : Frame) → is_child_of g h ≡ true → h.parent ≡ Some g.made
    child h e = search (arith, eqb-true)

pub one_filter : (p : Frame → Bool) (fs : List Frame) → OneEach fs → OneEach (filter p fs)
one_filter p fs h f g l m = h f g (in_filter p f fs l).0 (in_filter p g fs m).0

-- settling goes up by parents
pub times_up : (n : ℕ) (m : Option ℕ) (z : Space) → OneEach z.frames → OnlyAt m z.frames → settle_times n z ≡ close_up n m z
times_up zero m z one only = refl
times_up (suc n) m z one only = times_first n z ∙ at m only (find (is_abandoned z.frames) z.frames) refl (λ k y o i. times_up n k y o i)
  where
    still : (m : Option ℕ) → find (is_abandoned z.frames) z.frames ≡ None → z ≡ close_up (suc n) m z
    still m e = search (arith, find_none, to_false, none_found)

    at : (m : Option ℕ) → OnlyAt m z.frames → (o : Option Frame) → find (is_abandoned z.frames) z.frames ≡ o
        → ((k : Option ℕ) (y : Space) → OneEach y.frames → OnlyAt k y.frames → settle_times n y ≡ close_up n k y)
        → settle_times n (settle_step z) ≡ close_up (suc n) m z
    at m only None e rest = ap (λ o. settle_times n (settle_one z o)) e ∙ times_still n z e ∙ still m e
    at None only (Some f) e rest = let l = find_in (is_abandoned z.frames) f z.frames e in let wrong = only f l.0 l.1 in absurd (cc)
    at (Some k) only (Some f) e rest =
        let l = find_in (is_abandoned z.frames) f z.frames e in
        let made : k ≡ f.made = (let w = only f l.0 l.1 in cc) in
        let y = tell_caller (closed z f.made) f (Verdict DeadReply) in
        let frames : y.frames ≡ filter (λ g. not (is_frame f.made g)) z.frames = told_frames (closed z f.made) f.caller (Verdict DeadReply) ∙ closed_frames z f.made in
        let found : find (λ (g : Frame). is_frame k g && is_abandoned z.frames g) z.frames ≡ Some f = find_same _ (is_abandoned z.frames) z.frames (λ g i. same_test g i (is_abandoned z.frames g) refl) ∙ e in
        ap (λ o. settle_times n (settle_one z o)) e
        ∙ rest f.parent y (subst OneEach (sym frames) (one_filter _ z.frames one))
        (subst (OnlyAt f.parent) (sym frames) (only_parent z.frames f one l.0 (λ g i t. (let w = only g i t in let v : k ≡ g.made = cc in sym v ∙ made))))
        ∙ ap (λ (o : Option Frame). elim o as (λ (o : Option Frame). Space) [ None ↦ z | Some f ↦ close_up n f.parent (tell_caller (closed z f.made) f (Verdict DeadReply)) ]) (sym found)
      where
        same_test : (g : Frame) → In g z.frames → (b : Bool) → is_abandoned z.frames g ≡ b → (is_frame k g && is_abandoned z.frames g) ≡ is_abandoned z.frames g
        same_test g i b t = search (arith, eq-eqb)

pub settle_up : (m : Option ℕ) (z : Space) → OneEach z.frames → OnlyAt m z.frames → settle z ≡ close_up (length z.frames) m z
unfolding settle
settle_up m z one only = times_up (length z.frames) m z one only
