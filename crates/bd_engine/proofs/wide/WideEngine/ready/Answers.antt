use Rattle.bd_engine.proofs.Words.{History, ap, ready_below, ready_bits, space_after, ◌∙◌}
use Rattle.bd_engine.proofs.wide.WideEngine.ready.Goals as goal

pub returns-clause-page : goal.returns-clause-page
unfolding ready_bits
returns-clause-page c = c.ready_below.ensures.ready _ _ c.tables.ensures ∙ ap (λ (z : History). ready_below (space_after c.args.self.now) z.seats) c.self.view_is
