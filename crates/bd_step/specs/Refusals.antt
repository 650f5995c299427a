-- Why a step is refused.
use Rattle.bd_step.specs.declared.step_error.StepError.{StepError}
use Rattle.bd_step.specs.declared.step_error.StepError.TheVariants.{NoMemory, HistoryFull}

-- a full history is answered only where P holds
abbrev pub FullOnly : StepError → Type 0 → Type 0
FullOnly NoMemory P = Unit {0}
FullOnly HistoryFull P = P

-- want of memory is answered only where P holds
abbrev pub MemoryOnly : StepError → Type 0 → Type 0
MemoryOnly NoMemory P = P
MemoryOnly HistoryFull P = Unit {0}
