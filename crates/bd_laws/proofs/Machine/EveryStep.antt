-- For every law: what holds after every step, from what its parts keep.
use Rattle.bd_laws.proofs.words.Logic.{arith, ◌≡◌, ℕ, List, [], ◌∷◌, Option, Some, find}
use Rattle.bd_laws.proofs.words.Types.{TransactionData, Return, DeadReply, Cause, Parcel, Step, Command, Entry, Frame, Actor, OfThread}
use Rattle.bd_laws.proofs.words.Space.{Space, actor, served_innermost, closed, owe, tell_caller, settle, is_abandoned, refusal, reply_refused, follow, completed, change, after, next}
use Rattle.bd_uapi.specs.declared.command.Command.TheVariants as bc
use Rattle.bd_space.specs.declared.space.WorkKind.TheVariants as work
use Rattle.bd_laws.proofs.Machine.Adding.{told_keeps}
use Rattle.bd_laws.proofs.Machine.Deaths.{commands_both}
use Rattle.bd_laws.proofs.Machine.EveryEnding.{SetUp, Changes, Endings, every_ending_step}
use Rattle.bd_laws.proofs.Machine.Settled.{settle_keeps}

-- What the parts of a step by this seat keep: M up to what follows on, and F from there. A refusal is said with its cause,
-- and a frame closes together with what its caller is told.
pub record KeepsWhole (s : Space) (seat : ℕ) (x : Step) (M F : Space → Type 0) : Type 0 where
  pub set_up : SetUp s seat F
  pub changes : Changes s seat x M
  pub follows : (z : Space) → M z → F (follow z)
  pub refuses : (t : ℕ) (c : Cause) → F (owe s (OfThread t) (work.Refusal (refusal c)))
  pub fails : (a : Actor) (d : TransactionData) (parcel : Option Parcel) (f : Frame) → x ≡ Command (bc.Reply d) parcel → actor s seat ≡ Some a
      → served_innermost s a.thread.seat ≡ Some f → F (reply_refused s a.thread.seat f)
  pub abandons : (z : Space) (f : Frame) → find (is_abandoned z.frames) z.frames ≡ Some f → F z → F (tell_caller (closed z f.made) f (work.Verdict DeadReply))

module _ (s : Space) (seat : ℕ) (x : Step) (M F : Space → Type 0) (k : KeepsWhole s seat x M F) where
  settles : (z : Space) → F z → F (settle z)
  settles = settle_keeps F k.abandons

  completes : (z : Space) → M z → F (completed z)
  unfolding completed
  completes z h = search (arith, settles)

  kept_endings : Endings s seat x M F
  kept_endings = search (arith, completes, settles)

  -- what the parts keep, the step keeps
  pub every_whole_step : F (change s seat x).space
  every_whole_step = every_ending_step s seat x M F kept_endings

-- The same, where closing a frame and telling its caller keep F each by itself.
pub record Keeps (s : Space) (seat : ℕ) (x : Step) (M F : Space → Type 0) : Type 0 where
  pub set_up : SetUp s seat F
  pub changes : Changes s seat x M
  pub follows : (z : Space) → M z → F (follow z)
  pub closes : (z : Space) (made : ℕ) → F z → F (closed z made)
  pub refuses : (z : Space) (t : ℕ) (r : Return) → F z → F (owe z (OfThread t) (work.Refusal r))
  pub tells : (z : Space) (t : ℕ) (r : Return) → F z → F (owe z (OfThread t) (work.Verdict r))

module _ (s : Space) (seat : ℕ) (x : Step) (M F : Space → Type 0) (k : Keeps s seat x M F) where
  pub whole : KeepsWhole s seat x M F
  unfolding reply_refused
  whole = search (arith, told_keeps)

  pub every_step : F (change s seat x).space
  every_step = every_whole_step s seat x M F whole

-- What is kept beside what k keeps: the later parts may rest on both.
pub record KeepsBeside (s : Space) (seat : ℕ) (x : Step) (M F N G : Space → Type 0) : Type 0 where
  pub set_up : SetUp s seat G
  pub changes : Changes s seat x N
  pub follows : (z : Space) → M z → N z → G (follow z)
  pub refuses : (t : ℕ) (c : Cause) → G (owe s (OfThread t) (work.Refusal (refusal c)))
  pub fails : (a : Actor) (d : TransactionData) (parcel : Option Parcel) (f : Frame) → x ≡ Command (bc.Reply d) parcel → actor s seat ≡ Some a
      → served_innermost s a.thread.seat ≡ Some f → G (reply_refused s a.thread.seat f)
  pub abandons : (z : Space) (f : Frame) → find (is_abandoned z.frames) z.frames ≡ Some f → F z → G z → G (tell_caller (closed z f.made) f (work.Verdict DeadReply))

-- what is kept by itself
pub keeps_alone : (s : Space) (seat : ℕ) (x : Step) (M F N G : Space → Type 0) → KeepsWhole s seat x N G → KeepsBeside s seat x M F N G
keeps_alone s seat x M F N G k = search arith

pub keeps_both : (s : Space) (seat : ℕ) (x : Step) (M F N G : Space → Type 0) → KeepsWhole s seat x M F → KeepsBeside s seat x M F N G
    → KeepsWhole s seat x (λ z. M z × N z) (λ z. F z × G z)
keeps_both s seat x M F N G k l = search (arith, commands_both)

-- an invariant of every step is one of every list of steps
pub every_list : (P : Space → Type 0) → ((s : Space) (e : Entry) → P s → P (next s e)) → (es : List Entry) (s : Space) → P s → P (after s es)
every_list P k [] s h = h
every_list P k (e ∷ es) s h = every_list P k es (next s e) (k s e h)
