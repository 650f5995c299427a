-- What a step of the tables meets: the definition, on every space that they stand for.
use Rattle.std.specs.Prelude.{ℕ, ◌≡◌, Bool, true, Option, Some, None, Result, Ok, IfOk, IfErr, OnOk, OnErr}
use Rattle.bd_ways.specs.Words.{TransactionData, Identity, Parcel, StepAnswer, Actor, Space, Frame}
use Rattle.bd_space.specs.Seats.{actor}
use Rattle.bd_space.specs.Names.{has_number_past_limit}
use Rattle.bd_space.specs.Asking.{ask_check}
use Rattle.bd_space.specs.Outcomes.{Outcome}
use Rattle.bd_space.specs.Delivery.{Delivery}
use Rattle.bd_space.specs.Frames.{served_innermost}
use Rattle.bd_space.specs.Transactions.{transaction_check}
use Rattle.bd_space.specs.Replies.{reply_check}
use Rattle.bd_laws.specs.Tidy.{IsTidy}
use Rattle.bd_step.specs.declared.tables.Tables.{Tables}
use Rattle.bd_step.specs.declared.step_error.StepError.{StepError}
use Rattle.bd_step.specs.declared.answer.Plain.{Plain}
use Rattle.bd_step.specs.declared.answer.Brief.{Brief}
use Rattle.bd_step.specs.Plain.{answer_of, IsBrief}
use Rattle.bd_step.specs.Refusals.{FullOnly}
use Rattle.bd_step.specs.Stands.{Before, Within}

-- ---- what a step asks of the space before it: who makes it, and what holds between any two steps

-- the step's maker is this live thread, with its process
pub record IsBy (a : Actor) (s : Space) : Type 0 where
  pub acts : actor s a.thread.seat ≡ Some a
  pub tidy : IsTidy s

-- it is a seat without a live thread
pub record IsNobody (seat : ℕ) (s : Space) : Type 0 where
  pub nobody : actor s seat ≡ None
  pub tidy : IsTidy s

-- it may be anybody's
abbrev pub IsAny : Space → Type 0
IsAny s = IsTidy s

-- it is a transaction of this actor, by some parcel, that nothing stands against
pub record IsSending (a : Actor) (d : TransactionData) (v : Delivery) (s : Space) : Type 0 where
  pub tidy : IsTidy s
  pub checked : (parcel : Option Parcel) × (transaction_check s a d parcel ≡ Ok v)

-- it is this process's asking for this object, by some number, that nothing stands against
pub record IsAsking (p : ℕ) (o : Identity) (strong : Bool) (s : Space) : Type 0 where
  pub tidy : IsTidy s
  pub checked : (n : ℕ) × (ask_check s p n strong ≡ Ok o)

-- the thread of the seat serves this frame innermost
pub record IsServing (seat : ℕ) (f : Frame) (s : Space) : Type 0 where
  pub tidy : IsTidy s
  pub serves : served_innermost s seat ≡ Some f

-- and this is a reply of it, by some parcel, that nothing stands against
pub record IsReplying (a : Actor) (d : TransactionData) (f : Frame) (v : Delivery) (s : Space) : Type 0 where
  pub serving : IsServing a.thread.seat f s
  pub checked : (parcel : Option Parcel) × (reply_check s a d parcel f ≡ Ok v)

-- ---- how it ends

-- the step was taken: its answer and the space after it are those of the definition
pub record Meets (old new : Tables) (P : Space → Type 0) (f : Space → Outcome) (answer : StepAnswer) : Type 0 where
  pub answered : (s : Space) → Before old s → P s → answer ≡ (f s).answer
  pub stands : (s : Space) → Before old s → P s → Within new (f s).space

-- the step was not taken: a full history is the reason only where it would need a number past the limit
abbrev pub IsRefused : Tables → (Space → Type 0) → (Space → Outcome) → StepError → Type 0
IsRefused old P f why = (s : Space) → Before old s → P s → FullOnly why (has_number_past_limit (f s).space.names ≡ true)

-- it left all as it was
abbrev pub IsKept : Tables → Tables → Type 0
IsKept old new = (s : Space) → Before old s → Before new s

-- how a step of the definition f ends for such a maker: taken; or not taken, and then all is as it was
pub record IsStep (old new : Tables) (P : Space → Type 0) (f : Space → Outcome) (r : Result Plain StepError) : Type 0 where
  pub ok : IfOk r (λ x. Meets old new P f (answer_of x))
  pub err : OnErr r (IsKept old new)
  pub full : IfErr r (IsRefused old P f)

-- the same, with its answer written, of which this is kept by whoever had the step made
pub record IsStepWritten (old new : Tables) (kept : StepAnswer → Type 0) (P : Space → Type 0) (f : Space → Outcome) (answer : StepAnswer) (r : Result Brief StepError) : Type 0 where
  pub ok : OnOk r (Meets old new P f answer)
  pub brief : IfOk r (λ x. IsBrief x answer)
  pub held : OnOk r (kept answer)
  pub err : OnErr r (IsKept old new)
  pub full : IfErr r (IsRefused old P f)
