use Rattle.std.proofs.Common.{◌≡◌, suc, ◌-◌, ◌*◌, ◌%◌, ◌^◌, ◌<◌, sym, ap, subst, ◌∙◌, arith, w32, bit_and, pow_pos, pow_mono}
use Rattle.std.proofs.lemmas.Nat.Bits.{bit_at_clear_same, bit_at_clear_other, and_pow}
use Rattle.std.proofs.lemmas.Nat.{and-not, and_comm}
use Rattle.std.proofs.Math.Nat.{two-pow-succ}
use Rattle.bd_calls.proofs.bits.without.Goals as goal

pub returns-clause-others : goal.returns-clause-others
returns-clause-others c i l apart = bit_at_clear_other w32 c.args.word c.args.at c.requires.bound i l apart

pub returns-clause-smaller : goal.returns-clause-smaller
returns-clause-smaller c =
    let m = c.args.word in
    let k = c.args.at in
    let small : 2 ^ k < 2 ^ 32 = omega (arith, two-pow-succ k, pow_pos k, pow_mono {i = suc k} {j = 32} (omega arith)) in
    let one : 1 * 2 ^ k % 2 ^ 32 ≡ 2 ^ k = omega arith in
    let parts = and-not 32 (2 ^ k) m small c.ranges.word.fits in
    let there : bit_and (2 ^ k) m ≡ 1 * 2 ^ k = and_comm _ _ ∙ and_pow m k ∙ ap (λ x. x * 2 ^ k) c.requires.set in
    subst (λ x. bit_and m (2 ^ 32 - 1 - x) < m) (sym one) (omega (arith, and_comm m (2 ^ 32 - 1 - 2 ^ k), pow_pos k))

pub returns-clause-cleared : goal.returns-clause-cleared
returns-clause-cleared c = bit_at_clear_same w32 c.args.word c.args.at c.requires.bound
