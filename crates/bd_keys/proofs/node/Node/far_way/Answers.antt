use Rattle.std.proofs.Common.{◌≡◌, ◌<◌, ◌≤◌, ◌+◌, ◌*◌, ◌/◌, ◌%◌, ◌^◌, arith}
use Rattle.std.proofs.Math.Nat.{div-lt_iff_lt-mul}
use Rattle.std.proofs.Math.Pow.{pow_mono}
use Rattle.bd_keys.specs.Keys.{spread}
use Rattle.bd_keys.proofs.node.Node.far_way.Goals as goal

pub returns-then-self-gt127 : goal.returns-then-self-gt127
returns-then-self-gt127 c =
    let bit = c.args.self.now.bit in
    let up : 2 ^ 128 ≤ 2 ^ bit = pow_mono c.if-self-gt127.true in
    let below : spread c.args.k < 2 ^ bit = omega (arith, up, c.spread-number.ensures, c.spread-number.type_inv) in
    let none : spread c.args.k / 2 ^ bit < 1 = (div-lt_iff_lt-mul {k = 2 ^ bit} {x = spread c.args.k} {y = 1} (omega (arith, up))).1 (omega (arith, below)) in
    omega (arith, none)
