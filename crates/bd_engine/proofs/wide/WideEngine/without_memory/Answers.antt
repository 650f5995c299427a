use Rattle.bd_engine.proofs.{Keeping.{full_at_length}, Words.{sym, ◌∙◌}}
use Rattle.bd_engine.proofs.wide.WideEngine.without_memory.Goals as goal

pub returns-then-is_full-clause-full : goal.returns-then-is_full-clause-full
returns-then-is_full-clause-full c = λ seat x. full_at_length _ _ _ (sym c.is_full.ensures ∙ c.if-is_full.true)
