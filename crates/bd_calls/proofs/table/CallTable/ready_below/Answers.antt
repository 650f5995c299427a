use Rattle.std.proofs.Common.{sym, ◌∙◌}
use Rattle.bd_calls.proofs.Marked.{calm_bits, calm_word}
use Rattle.bd_calls.proofs.table.CallTable.ready_below.Goals as goal

pub returns-then-is_within-clause-ready : goal.returns-then-is_within-clause-ready
returns-then-is_within-clause-ready c = λ s stands.
    let r = c.args.self.now.ready in
    calm_word s r.seats.items r.marked r.known c.low-marked.result c.args.seats c.requires c.low-marked.type_inv c.low-marked.ensures.kept c.low-marked.ensures.no_more
    r.are_known r.are_marked stands.ready_are (sym (c.count.ensures.frames s.frames stands.frames_are) ∙ c.if-count-eq0.true) (c.is_within.ensures c.if-is_within.true)

pub returns-then-is_within-clause-bits : goal.returns-then-is_within-clause-bits
returns-then-is_within-clause-bits c = calm_bits c.low-marked.result c.args.seats c.requires c.low-marked.type_inv c.low-marked.ensures.no_more
