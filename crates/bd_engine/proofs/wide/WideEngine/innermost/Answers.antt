use Rattle.bd_engine.proofs.{Short.{innermost_short}, Words.{sym, ◌∙◌}}
use Rattle.bd_engine.proofs.wide.WideEngine.innermost.Goals as goal

pub short-requires : goal.short-requires
short-requires c = innermost_short c.args.self.now c.args.seat _ _ (sym c.in-Some.is ∙ c.innermost.ensures)
