use Rattle.bd_engine.proofs.{Short.{manager_short}, Words.{Identity, IfSome, Option, length, subst, sym, ◌<◌}}
use Rattle.bd_engine.proofs.wide.WideEngine.manager.Goals as goal

pub short_id-requires : goal.short_id-requires
short_id-requires c = subst (λ (o : Option Identity). IfSome o (λ (o : Identity). o.place < length c.args.self.now.entries)) (sym c.manager.ensures) (manager_short c.args.self.now)
