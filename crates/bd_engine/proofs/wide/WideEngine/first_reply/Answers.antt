use Rattle.bd_engine.proofs.{Short.{first_reply_short}, Words.{IfSome, Option, length, subst, sym, ℕ, ◌<◌}}
use Rattle.bd_engine.proofs.wide.WideEngine.first_reply.Goals as goal

pub short_place-requires : goal.short_place-requires
short_place-requires c = subst (λ (o : Option ℕ). IfSome o (λ (n : ℕ). n < length c.args.self.now.entries)) (sym c.first_reply.ensures) (first_reply_short c.args.self.now c.args.seat)
