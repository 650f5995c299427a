-- What came of a request that the engine ran or refused.
use Rattle.std.specs.Prelude.{Result, Ok, Err}
use Rattle.bd_space.specs.{declared.step.Request.{Request}, declared.step.Answer.{Answer}}
use Rattle.bd_engine.specs.{declared.run.Span.{Span}, StepError.{StepError}, StepError.TheVariants.{NoMemory as Memory, HistoryFull as Full}}
use Rattle.bd_driver.specs.{declared.outcome.Outcome.{Outcome}, declared.outcome.Outcome.TheVariants.{Done, Back}, declared.outcome.Why.{Why}}
use Rattle.bd_driver.specs.declared.outcome.Why.TheVariants.{NoMemory, HistoryFull}

-- why a request comes back that the engine refused
abbrev pub reason_of : StepError → Why
reason_of Memory = NoMemory
reason_of Full = HistoryFull

-- what came of a request that was lent: it was answered so, and its steps stand at these places; or it comes back
abbrev pub outcome_of : Request → Answer → Result Span Why → Outcome
outcome_of request answer (Ok span) = Done answer span.from span.to
outcome_of request answer (Err why) = Back request why
