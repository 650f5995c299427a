-- Why a step is refused.
use Rattle.bd_step.proofs.Words.{FullOnly, HistoryFull, MemoryOnly, NoMemory, StepError}

pub memory_if : (why : StepError) (A : Type 0) → A → MemoryOnly why A
memory_if NoMemory A x = x
memory_if HistoryFull A x = tt

pub full_as : (why : StepError) (A B : Type 0) → (A → B) → FullOnly why A → FullOnly why B
full_as NoMemory A B f x = x
full_as HistoryFull A B f x = f x

pub full_if : (why : StepError) (A : Type 0) → A → FullOnly why A
full_if NoMemory A x = tt
full_if HistoryFull A x = x
