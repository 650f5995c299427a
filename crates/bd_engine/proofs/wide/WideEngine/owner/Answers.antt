use Rattle.bd_engine.proofs.{Short.{owner_short}, Words.{IfSome, Option, length, subst, sym, ℕ, ◌<◌}}
use Rattle.bd_engine.proofs.wide.WideEngine.owner.Goals as goal

pub short_place-requires : goal.short_place-requires
short_place-requires c = subst (λ (o : Option ℕ). IfSome o (λ (n : ℕ). n < length c.args.self.now.entries)) (sym c.owner.ensures) (owner_short c.args.self.now _)
