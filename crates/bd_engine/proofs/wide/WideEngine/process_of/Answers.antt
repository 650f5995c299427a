use Rattle.bd_engine.proofs.{Short.{process_short}, Words.{IfSome, Option, length, subst, sym, ℕ, ◌<◌}}
use Rattle.bd_engine.proofs.wide.WideEngine.process_of.Goals as goal

pub short_place-requires : goal.short_place-requires
short_place-requires c = subst (λ (o : Option ℕ). IfSome o (λ (n : ℕ). n < length c.args.self.now.entries)) (sym c.process_of.ensures) (process_short c.args.self.now c.args.seat)
