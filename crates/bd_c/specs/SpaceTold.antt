-- What C is told of a space.
use Rattle.std.specs.Prelude.{◌≡◌, ℕ, Bool, true, false, length, Option, Some, None, is_some}
use Rattle.bd_space.specs.Histories.{History, space_after}
use Rattle.bd_space.specs.declared.step.Identity.{Identity}
use Rattle.bd_space.specs.declared.space.Process.{Process}
use Rattle.bd_space.specs.declared.space.Thread.{Thread}
use Rattle.bd_space.specs.declared.space.Object.{Object}
use Rattle.bd_space.specs.declared.space.Buffer.{Buffer}
use Rattle.bd_space.specs.declared.space.DeathNotification.{DeathNotification}
use Rattle.bd_space.specs.declared.space.Phase.{Phase}
use Rattle.bd_space.specs.declared.space.Phase.TheVariants.{Armed, Queued, Told, Done}
use Rattle.bd_space.specs.declared.space.Work.{Work}
use Rattle.bd_space.specs.declared.space.WorkKind.{WorkKind}
use Rattle.bd_space.specs.declared.space.WorkKind.TheVariants.{Notice, Complete, Refusal, Call, Reply, Verdict, Death, Cleared}
use Rattle.bd_codec.specs.Spelling.{return_code}
use Rattle.bd_space.specs.Words.{Space}
use Rattle.bd_engine.specs.Follows.{Follows}
use Rattle.bd_c.specs.declared.live.OwnedLive.{OwnedLive}
use Rattle.bd_c.specs.declared.space_told.IdTold.{IdTold}
use Rattle.bd_c.specs.declared.space_told.ProcessTold.{ProcessTold}
use Rattle.bd_c.specs.declared.space_told.ThreadTold.{ThreadTold}
use Rattle.bd_c.specs.declared.space_told.ObjectTold.{ObjectTold}
use Rattle.bd_c.specs.declared.space_told.BufferTold.{BufferTold}
use Rattle.bd_c.specs.declared.space_told.FrameTold.{FrameTold}
use Rattle.bd_c.specs.declared.space_told.DeathTold.{DeathTold}
use Rattle.bd_c.specs.declared.space_told.WorkTold.{WorkTold}

abbrev pub id_told : Identity → IdTold
id_told o = record { place = o.place; index = o.index }

abbrev pub no_id : IdTold
no_id = record { place = 0; index = 0 }

abbrev pub process_told : Process → ProcessTold
process_told q = record { made = q.made; pid = q.pid; euid = q.euid; window = q.window; spam_detection = q.spam_detection }

abbrev pub thread_told : Thread → ThreadTold
thread_told t = record { made = t.made; process = t.process; looping = t.looping }

abbrev pub object_told : Object → ObjectTold
object_told x = record { owner = x.owner; ptr = x.ptr; cookie = x.cookie; told_weak = x.told_weak; told_strong = x.told_strong }

abbrev pub target_told : Option Identity → IdTold
target_told None = no_id
target_told (Some o) = id_told o

abbrev pub buffer_told : Buffer → BufferTold
buffer_told b = record {
  receiver = b.receiver;
  sender = b.sender;
  start = b.start;
  size = b.size;
  code = b.code;
  flags = b.flags.0;
  euid = b.euid;
  one_way = b.one_way;
  handed = b.handed;
  is_call = is_some b.target;
  target = target_told b.target;
  bytes = length b.bytes;
  offsets = length b.offsets;
}

abbrev pub frame_told : ℕ × Bool → FrameTold
frame_told f = record { made = f.0; serves = f.1 }

abbrev pub phase_number : Phase → ℕ
phase_number Armed = 0
phase_number Queued = 1
phase_number Told = 2
phase_number Done = 3

abbrev pub death_told : DeathNotification → DeathTold
death_told d = record { process = d.process; object = id_told d.object; cookie = d.cookie; phase = phase_number d.phase; cleared = d.cleared }

abbrev pub bare_work : Work → ℕ → WorkTold
bare_work w kind = record { place = w.id.place; index = w.id.index; kind = kind; object = no_id; spam = false; code = 0; made = 0; cookie = 0 }

abbrev pub work_of_kind : Work → WorkKind → WorkTold
work_of_kind w (Notice o) = record (bare_work w 1) { object = id_told o }
work_of_kind w (Complete spam) = record (bare_work w 2) { spam = spam }
work_of_kind w (Refusal r) = record (bare_work w 3) { code = return_code r }
work_of_kind w (Call made) = record (bare_work w 4) { made = made }
work_of_kind w (Reply made) = record (bare_work w 5) { made = made }
work_of_kind w (Verdict r) = record (bare_work w 6) { code = return_code r }
work_of_kind w (Death made) = record (bare_work w 7) { made = made }
work_of_kind w (Cleared cookie) = record (bare_work w 8) { cookie = cookie }

abbrev pub work_told : Work → WorkTold
work_told w = work_of_kind w w.kind

-- What was looked for is told, and the answer says that it is there; or it isn't, and nothing is written.
abbrev pub Finds : {A : Type 0} → Option A → A → A → Bool → Type 0
Finds None old new found = (found ≡ false) × (new ≡ old)
Finds (Some told) old new found = (found ≡ true) × (new ≡ told)

-- The same, where a statement says what is there, as of a least one, in place of a function that finds it.
abbrev pub FindsBy : {A : Type 0} → (Option A → Type 0) → A → A → Bool → Type 0
FindsBy Is old new true = Is (Some new)
FindsBy Is old new false = Is None × (new ≡ old)

-- P holds of the space after each history that the engine follows.
abbrev pub InSpace : OwnedLive → (Space → Type 0) → Type 0
InSpace x P = (h : History) → Follows x.bridge.engine.live h → P (space_after h)
