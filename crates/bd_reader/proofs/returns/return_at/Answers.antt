use Rattle.std.proofs.Common.{arith}
use Rattle.bd_reader.proofs.Walks.{is_cut, is_first, one_way_of, not_one_way}
use Rattle.bd_reader.proofs.returns.return_at.Goals as goal

pub returns-then-returns-at : goal.returns-then-returns-at
returns-then-returns-at c =
    is_cut c.args.at c.u32_at-code.result c.args.returns.now c.u32_at-code.ensures c.requires (omega (arith, c.if-returns-at-lt4.false)) (omega (arith, c.size_of.ensures, c.if-returns-at.true))

pub returns-then-code : goal.returns-then-code
returns-then-code c =
    is_first c.args.at c.u32_at-code.result _ c.args.returns.now c.u32_at-code.ensures c.requires (omega (arith, c.if-returns-at-lt4.false)) (omega (arith, c.size_of.ensures, c.if-returns-at.false))
    (one_way_of c.args.at c.u32_at-code.result c.u32_at.result c.args.returns.now c.u32_at-code.ensures c.u32_at.ensures c.if-code.true)

pub returns-else-code : goal.returns-else-code
returns-else-code c =
    is_first c.args.at c.u32_at-code.result _ c.args.returns.now c.u32_at-code.ensures c.requires (omega (arith, c.if-returns-at-lt4.false)) (omega (arith, c.size_of.ensures, c.if-returns-at.false))
    (not_one_way c.args.at c.u32_at-code.result c.args.returns.now c.u32_at-code.ensures c.if-code.false)
