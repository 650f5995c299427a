use Rattle.std.proofs.Common.{sym, ◌∙◌, arith}
use Rattle.bd_script.proofs.Digits.{says_some, says_none, gives_up}
use Rattle.bd_script.proofs.numbers.number.Goals as goal

pub returns-in_err-value-clause-exact : goal.returns-in_err-value-clause-exact
returns-in_err-value-clause-exact c =
    c.from_residual.ensures ∙ gives_up c.args.word.now c.loop-byte.byte-index c.loop-byte.value c.args.most (omega arith) (omega arith) c.if-is_empty.ensures c.loop-byte-test.true
    (sym c.with_digit.ensures ∙ c.in_err-value.was) c.loop-byte.invariant

pub returns-then-value-most-clause-exact : goal.returns-then-value-most-clause-exact
returns-then-value-most-clause-exact c =
    says_none c.args.word.now c.loop-byte.byte-index c.args.most c.loop-byte.value (omega arith) (omega arith) c.if-is_empty.ensures c.loop-byte-test.false c.if-value-most.true c.loop-byte.invariant

pub returns-else-value-most-clause-exact : goal.returns-else-value-most-clause-exact
returns-else-value-most-clause-exact c =
    says_some c.args.word.now c.loop-byte.byte-index c.args.most c.loop-byte.value (omega arith) (omega arith) c.if-is_empty.ensures c.loop-byte-test.false c.if-value-most.false c.loop-byte.invariant
