use Rattle.bd_engine.proofs.{Short.{receiver_short, target_short}, Words.{Identity, IfSome, Option, arith, length, subst, sym, ◌<◌}}
use Rattle.bd_engine.proofs.wide.WideEngine.buffer.Goals as goal

pub short-requires : goal.short-requires
short-requires c = omega (arith, receiver_short c.args.self.now c.in-Some.buffer _ c.in-Some.ensures, c.receiver.ensures)

pub short_id-requires : goal.short_id-requires
short_id-requires c =
    subst (λ (t : Option Identity). IfSome t (λ o. o.place < length c.args.self.now.entries)) (sym c.target.ensures) (target_short c.args.self.now c.in-Some.buffer _ c.in-Some.ensures)
