use Rattle.bd_engine.proofs.{Short.{named_short}, Words.{Identity, IfSome, Option, length, subst, sym, ◌<◌}}
use Rattle.bd_engine.proofs.wide.WideEngine.named.Goals as goal

pub short_id-requires : goal.short_id-requires
short_id-requires c = subst (λ (o : Option Identity). IfSome o (λ (o : Identity). o.place < length c.args.self.now.entries)) (sym c.named.ensures) (named_short c.args.self.now c.args.pid c.args.number)
