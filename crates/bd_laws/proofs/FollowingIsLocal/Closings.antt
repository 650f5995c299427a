-- For FollowingIsLocal where a thread or a process ends: where only some frames can be abandoned, only they and their
-- parents have to be looked at.
use Rattle.bd_laws.proofs.words.Logic.{arith, ◌≡◌, ℕ, zero, suc, ◌==◌, Bool, true, false, not, ◌&&◌, ◌||◌, List, Option, Some, None, length, refl, ap, sym, subst, ◌∙◌, filter, find, list_any, eqb-true, eq-eqb}
use Rattle.bd_laws.proofs.words.Types.{DeadReply, Frame, Verdict}
use Rattle.bd_laws.proofs.words.Space.{is_some_and, Space, is_gone, is_child_of, is_frame, closed, tell_caller, is_abandoned, settle, settle_one, settle_step, settle_times, close_among}
use Rattle.bd_laws.specs.Lists.{In}
use Rattle.bd_laws.proofs.Lists.{in_filter, filter_in, any_found, any_in, find_in}
use Rattle.bd_laws.proofs.Tests.{both, and_both, not_true, not_false, or_left, or_right}
use Rattle.bd_laws.proofs.Machine.Settled.{times_still}
use Rattle.bd_laws.proofs.Abandoned.{OneEach, times_first, find_same, one_filter}
use Rattle.bd_laws.proofs.Machine.Fields.{told_frames, closed_frames}

-- every abandoned frame is one of these
abbrev pub Covered : (ℕ → Bool) → List Frame → Type 0
Covered c fs = (f : Frame) → In f fs → is_abandoned fs f ≡ true → c f.made ≡ true

abbrev or_parent : (ℕ → Bool) → Frame → ℕ → Bool
or_parent c f m = c m || is_some_and f.parent (λ p. p == m)

covered_after : (fs : List Frame) (f : Frame) (c : ℕ → Bool) → OneEach fs → In f fs → Covered c fs → Covered (or_parent c f) (filter (λ g. not (is_frame f.made g)) fs)
covered_after fs f c one l cov g m abandoned =
    let keep = λ (g : Frame). not (is_frame f.made g) in
    let i = in_filter keep g fs m in
    let t = both (is_gone g.server) (not (list_any (is_child_of g) (filter keep fs))) abandoned in
    at i.0 t.0 (not_true (list_any (is_child_of g) (filter keep fs)) t.1) (list_any (is_child_of g) fs) refl
  where
    at : In g fs → is_gone g.server ≡ true → list_any (is_child_of g) (filter (λ (g : Frame). not (is_frame f.made g)) fs) ≡ false
        → (b : Bool) → list_any (is_child_of g) fs ≡ b → (c g.made || is_some_and f.parent (λ p. p == g.made)) ≡ true
    at i gone none false e = or_left (c g.made) _ (cov g i (and_both (is_gone g.server) _ gone (not_false _ e)))
    at i gone none true e =
        let k = any_found (is_child_of g) fs e in
        parent k.0 k.1 (search (arith, eqb-true)) (is_frame f.made k.0) refl
      where
        parent : (h : Frame) → In h fs → h.parent ≡ Some g.made → (b : Bool) → is_frame f.made h ≡ b → (c g.made || is_some_and f.parent (λ p. p == g.made)) ≡ true
        parent h j k true e = let is = one h f j l (eqb-true h.made f.made e) in search (arith, or_right, eq-eqb)
        parent h j k false e = let stays = filter_in (λ (g : Frame). not (is_frame f.made g)) h fs j (not_false _ e) in search (arith, any_in, eq-eqb)

pub times_among : (n : ℕ) (c : ℕ → Bool) (z : Space) → OneEach z.frames → Covered c z.frames → settle_times n z ≡ close_among n c z
times_among zero c z one cov = refl
times_among (suc n) c z one cov = times_first n z ∙ at (find (is_abandoned z.frames) z.frames) refl (λ k y o i. times_among n k y o i)
  where
    agree : find (λ (f : Frame). c f.made && is_abandoned z.frames f) z.frames ≡ find (is_abandoned z.frames) z.frames
    agree = search (arith, find_same)

    go : Option Frame → Space
    go o = elim o as (λ (o : Option Frame). Space) [ None ↦ z | Some f ↦ close_among n (λ m. c m || is_some_and f.parent (λ p. p == m)) (tell_caller (closed z f.made) f (Verdict DeadReply)) ]

    at : (o : Option Frame) → find (is_abandoned z.frames) z.frames ≡ o
        → ((k : ℕ → Bool) (y : Space) → OneEach y.frames → Covered k y.frames → settle_times n y ≡ close_among n k y)
        → settle_times n (settle_step z) ≡ close_among (suc n) c z
    at None e rest = ap (λ o. settle_times n (settle_one z o)) e ∙ times_still n z e ∙ ap go (sym (agree ∙ e))
    at (Some f) e rest =
        let l = find_in (is_abandoned z.frames) f z.frames e in
        let y = tell_caller (closed z f.made) f (Verdict DeadReply) in
        let frames : y.frames ≡ filter (λ g. not (is_frame f.made g)) z.frames = told_frames (closed z f.made) f.caller (Verdict DeadReply) ∙ closed_frames z f.made in
        ap (λ o. settle_times n (settle_one z o)) e
        ∙ rest (or_parent c f) y (subst OneEach (sym frames) (one_filter _ z.frames one)) (subst (Covered (or_parent c f)) (sym frames) (covered_after z.frames f c one l.0 cov))
        ∙ ap go (sym (agree ∙ e))

-- Settling may look at the chosen frames alone, where they cover all that is abandoned.
pub settle_among : (c : ℕ → Bool) (z : Space) → OneEach z.frames → Covered c z.frames → settle z ≡ close_among (length z.frames) c z
unfolding settle
settle_among c z one cov = times_among (length z.frames) c z one cov
