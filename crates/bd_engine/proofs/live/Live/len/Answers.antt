use Rattle.bd_engine.proofs.{Keeping.{place}, Words.{sym, ◌∙◌}}
use Rattle.bd_engine.proofs.live.Live.len.Goals as goal

pub returns : goal.returns
returns c = λ h follows. sym (c.tables.ensures h follows).own.steps_are ∙ place h
