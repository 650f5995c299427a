-- For SpacesAreTidy: the frames of every space after a history lie on paths.
use Rattle.bd_laws.proofs.words.Types.{Step, Entry, OfThread}
use Rattle.bd_laws.proofs.words.Space.{Space, opening, follow, refusal, change, counted, next}
use Rattle.std.proofs.Common.{arith, ◌≡◌, ℕ, ◌-◌, suc, refl, sym, subst}
use Rattle.bd_space.specs.declared.space.WorkKind.TheVariants as work
use Rattle.bd_laws.specs.Frames.{OnPaths}
use Rattle.bd_laws.proofs.Machine.EveryStep.{KeepsWhole, every_whole_step}
use Rattle.bd_laws.proofs.Machine.Steps.{next_steps}
use Rattle.bd_laws.proofs.IsInTurn.OneWay as one_way
use Rattle.bd_laws.proofs.IsInTurn.OneWay.{less_table, Less, HandsNothing, owe_less}
use Rattle.bd_laws.proofs.Machine.Table.{Table, SameFrames, Any, frames_table, table_both, set_up_by, changes_but}
use Rattle.bd_laws.proofs.OnPaths.Forests.{forest_more}
use Rattle.bd_laws.proofs.OnPaths.Paths.{calm, follow_frames, abandons, refuses_reply}
use Rattle.bd_laws.proofs.OnPaths.PathCalls.{transacts, replies}
use Rattle.bd_laws.proofs.OnPaths.PathReadings.{ripens, reads}
use Rattle.bd_laws.proofs.OnPaths.PathExits.{exits, ends}
use Rattle.bd_laws.proofs.Machine.Fields.{owe_frames}

-- ---- every step

-- The frames are the same in both spaces, and nothing more is handed over in the one than in the other.
abbrev Calm : Space → Space → Type 0
Calm z y = Less z y × SameFrames z y

calm_table : Table Calm (λ kind. HandsNothing kind × Any kind)
calm_table = table_both Less SameFrames HandsNothing Any less_table frames_table

module _ (s : Space) (h : OnPaths s.steps s) where
  abbrev After : Space → Type 0
  After z = OnPaths (suc s.steps) z

  now_on : After s
  now_on = (h.0, forest_more s.steps h.0 s.frames s.buffers s.todo h.1)

  calmly : (z : Space) → Less z s → z.frames ≡ s.frames → After z
  calmly z l e = calm (suc s.steps) z s l e now_on

  kept : (seat : ℕ) (x : Step) → KeepsWhole s seat x After After
  kept seat x = record {
    set_up = set_up_by Calm (λ kind. HandsNothing kind × Any kind) calm_table s seat x After (λ z c. calmly z c.0 c.1);
    changes = changes_but Calm (λ kind. HandsNothing kind × Any kind) calm_table s seat x After (λ z c. calmly z c.0 c.1) (record {
      transacts = λ a d parcel v e i t. transacts s h a d parcel v t;
      replies = λ a d parcel f v e i g t. replies s h a d parcel v f g;
      reads = λ a limit i e n. reads (suc s.steps) s now_on a.thread (limit - 4);
      ripens = λ z k. ripens (suc s.steps) z k;
    }) (λ a i. exits (suc s.steps) s now_on a.thread.seat) (λ a i. ends (suc s.steps) s a.process.made now_on);
    follows = λ z k. calm (suc s.steps) (follow z) z (one_way.follow_less z) (follow_frames z) k;
    refuses = λ t c. calmly _ (owe_less s (OfThread t) (work.Refusal (refusal c)) refl) (owe_frames s (OfThread t) (work.Refusal (refusal c)));
    fails = λ a d parcel f e i g. refuses_reply (suc s.steps) s a.thread.seat f g now_on;
    abandons = λ z f e k. abandons (suc s.steps) z f e k;
  }

pub next_on_paths : (s : Space) (e : Entry) → OnPaths s.steps s → OnPaths (next s e).steps (next s e)
unfolding counted
next_on_paths s e h =
    subst (λ n. OnPaths n (change s e.seat e.step).space) (sym (next_steps s e))
    (every_whole_step s e.seat e.step (OnPaths (suc s.steps)) (OnPaths (suc s.steps)) (kept s h e.seat e.step))

pub opening_on_paths : OnPaths 0 opening
opening_on_paths = (λ x. x, search arith)
