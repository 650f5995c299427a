use Rattle.std.proofs.Common.{◌≡◌, ◌<◌, ◌≤◌, ◌+◌, ◌*◌, ◌%◌, ◌∙◌, length, arith}
use Rattle.bd_uapi.specs.Bytes.{long_at}
use Rattle.bd_c.proofs.Walking.{at_end, at_next, within}
use Rattle.bd_c.proofs.walks.WalkInC.next.Goals as goal

pub returns-then-self-offsets-clause-next : goal.returns-then-self-offsets-clause-next
returns-then-self-offsets-clause-next c = at_end c.args.bytes.now c.args.offsets.now c.args.self.now (omega (arith, c.if-offsets-ne0.false)) (omega (arith, c.if-self-offsets.true))

pub returns-clause-next : goal.returns-clause-next
returns-clause-next c =
    let whole : length c.args.offsets.now % 8 ≡ 0 = omega (arith, c.if-offsets-ne0.false) in
    let le : 8 * c.args.self.now.index + 8 ≤ length c.args.offsets.now = omega (arith, c.if-self-offsets.false) in
    c.judge.ensures ∙ at_next c.args.bytes.now c.args.offsets.now c.args.self.now (long_at 0 c.offset_of.result.now) whole le c.offset_of.ensures.offset

pub returns-clause-within : goal.returns-clause-within
returns-clause-within c = within c.judge.result (c.args.self.now.index < length c.args.offsets.now) (omega (arith, c.if-self-offsets.false))
