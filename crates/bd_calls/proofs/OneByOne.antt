-- Frames that are changed one by one, along the calls among work items.
use Rattle.std.proofs.Common.{◌≡◌, ℕ, Bool, false, cond, ◌||◌, List, [], ◌∷◌, Some, refl, ap, sym, subst, ◌∙◌, map, fold, arith}
use Rattle.std.proofs.Math.Path.{fun_ext}
use Rattle.bd_ways.specs.Words.{Frame, Work, WorkKind, TodoList, OfThread, changed, list_any}
use Rattle.bd_keys.proofs.Lists.{eqb_turned}
use Rattle.bd_space.specs.{declared.space.WorkKind.TheVariants.{Call}, Frames.{is_frame}, Todo.{is_on, is_call, work_on}}
use Rattle.bd_space.specs.ThreadExits.{is_unread_on, unread_frame, frame_without}
use Rattle.bd_todo.proofs.OnList.{any_filter}
use Rattle.bd_frames.specs.{declared.table.FrameTable.{FrameTable}, Stands.{FramesAre, Makes}, Words.{lost_frame, left_frame}}

module _ (g : Frame → Frame) where
  -- the frame of this call changes, if it is one
  abbrev change_call : List Frame → WorkKind → List Frame
  change_call fs kind = changed (λ f. is_call f.made kind) g fs

  -- those of the calls among these, one after the other
  abbrev pub along : List Work → List Frame → List Frame
  along ws fs = fold (λ gs w. change_call gs w.kind) fs ws

  pub call_changed : (t u : FrameTable) (kind : WorkKind) (made : ℕ) → kind ≡ Call made → Makes t u (changed (is_frame made) g) → Makes t u (λ fs. change_call fs kind)
  call_changed t u kind made is makes = λ fs are.
      subst (λ p. FramesAre u (changed p g fs)) (fun_ext (λ f. eqb_turned f.made made ∙ ap (is_call f.made) (sym is))) (makes fs are)

  unchanged : (fs : List Frame) → changed (λ f. false) g fs ≡ fs
  unchanged [] = refl
  unchanged (f ∷ fs) = ap (λ l. f ∷ l) (unchanged fs)

  pub no_call_changed : (t : FrameTable) (kind : WorkKind) → ((made : ℕ) → kind ≡ Call made → ⊥) → Makes t t (λ fs. change_call fs kind)
  no_call_changed t kind other = λ fs are. subst (FramesAre t) (sym (ap (λ p. changed p g fs) (fun_ext (λ f. never kind other f.made)) ∙ unchanged fs)) are
    where
      never : (k : WorkKind) → ((made : ℕ) → k ≡ Call made → ⊥) → (made : ℕ) → is_call made k ≡ false
      never (Call b) none made = absurd (none b refl)
      never _ none made = refl

  -- where changing one twice is changing it once, they may change at once
  module _ (once : (f : Frame) → g (g f) ≡ g f) where
    changed_twice : (p q : Frame → Bool) (fs : List Frame) → ((f : Frame) → q (g f) ≡ q f) → changed q g (changed p g fs) ≡ changed (λ f. p f || q f) g fs
    changed_twice p q [] same = refl
    changed_twice p q (f ∷ fs) same = grind (arith, once f, same f, changed_twice p q fs same)

    pub along_at_once : ((f : Frame) → (g f).made ≡ f.made) → (ws : List Work) (fs : List Frame) → along ws fs ≡ changed (λ f. list_any (λ w. is_call f.made w.kind) ws) g fs
    along_at_once kept [] fs = sym (unchanged fs)
    along_at_once kept (w ∷ ws) fs = along_at_once kept ws (change_call fs w.kind)
        ∙ changed_twice (λ f. is_call f.made w.kind) (λ f. list_any (λ x. is_call f.made x.kind) ws) fs (λ f. ap (λ made. list_any (λ x. is_call made x.kind) ws) (kept f))

-- ---- the calls of a list have lost their server

lost_once : (f : Frame) → lost_frame (lost_frame f) ≡ lost_frame f
lost_once f = grind arith

lost_one : (todo : List Work) (list : TodoList) (f : Frame) → cond (is_unread_on todo list f.made) (lost_frame f) f ≡ unread_frame todo list f
lost_one todo list f = grind arith

pub lost_unread : (todo : List Work) (list : TodoList) (fs : List Frame) → along lost_frame (work_on todo (Some list)) fs ≡ map (unread_frame todo list) fs
lost_unread todo list fs = along_at_once lost_frame lost_once (λ f. refl) (work_on todo (Some list)) fs ∙ each fs
  where
    each : (gs : List Frame) → changed (λ f. list_any (λ w. is_call f.made w.kind) (work_on todo (Some list))) lost_frame gs ≡ map (unread_frame todo list) gs
    each [] = refl
    each (f ∷ gs) = grind (arith, any_filter (is_on list) (λ w. is_call f.made w.kind) todo, lost_one todo list f, each gs)

pub frames_left : (todo : List Work) (seat : ℕ) (fs : List Frame) → map (left_frame seat) (map (unread_frame todo (OfThread seat)) fs) ≡ map (frame_without todo seat) fs
frames_left todo seat [] = refl
frames_left todo seat (f ∷ fs) = ap (λ l. frame_without todo seat f ∷ l) (frames_left todo seat fs)
