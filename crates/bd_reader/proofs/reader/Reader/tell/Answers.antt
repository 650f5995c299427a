use Rattle.std.proofs.Common.{◌≡◌, ◌∙◌, drop, Some, None, refl, arith}
use Rattle.bd_reader.specs.Returns.{first_in, next_into}
use Rattle.bd_reader.proofs.Walks.{next, no_next, told_on, told_none, size_on, size_none, call_more, call_no_more, completion_more, completion_no_more}
use Rattle.bd_reader.proofs.reader.Reader.tell.Goals as goal

pub loop-code-preserved : goal.loop-code-preserved
loop-code-preserved c =
    let is : next_into c.loop-code.left (first_in (drop c.loop-code.at c.args.returns.now)) ≡ Some c.in-Some.code = cc in
    let n = next c.loop-code.at c.loop-code.left c.in-Some.code c.args.returns.now c.loop-code.invariant.within is in
    rw (c.size_of-at.ensures, c.size_of.ensures, c.told.ensures, c.either-has_call.ensures, c.is_call.ensures, c.either-has_completion.ensures, c.is_completion.ensures) (record {
      within = n.3;
      room = omega (arith, n.2, c.loop-code.invariant.room);
      told = told_on c.in-Some.code n.0 _ _ c.loop-code.self _ n.1 c.loop-code.invariant.told;
      size = size_on c.in-Some.code c.loop-code.at _ n.0 _ _ n.1 c.loop-code.invariant.size;
      call = call_more c.in-Some.code n.0 c.loop-code.has_call _ _ _ n.1 c.loop-code.invariant.call;
      completion = completion_more c.in-Some.code n.0 c.loop-code.has_completion _ _ _ n.1 c.loop-code.invariant.completion;
    })

pub returns-clause-told : goal.returns-clause-told
returns-clause-told c =
    let is : next_into c.loop-code.left (first_in (drop c.loop-code.at c.args.returns.now)) ≡ None = cc in
    told_none _ c.loop-code.self _ (no_next c.loop-code.at c.loop-code.left c.args.returns.now is) c.loop-code.invariant.told

pub returns-clause-size : goal.returns-clause-size
returns-clause-size c =
    let is : next_into c.loop-code.left (first_in (drop c.loop-code.at c.args.returns.now)) ≡ None = cc in
    size_none c.loop-code.at _ _ (no_next c.loop-code.at c.loop-code.left c.args.returns.now is) c.loop-code.invariant.size

pub returns-clause-call : goal.returns-clause-call
returns-clause-call c =
    let is : next_into c.loop-code.left (first_in (drop c.loop-code.at c.args.returns.now)) ≡ None = cc in
    call_no_more c.loop-code.has_call _ _ (no_next c.loop-code.at c.loop-code.left c.args.returns.now is) c.loop-code.invariant.call

pub returns-clause-all : goal.returns-clause-all
returns-clause-all c =
    let is : next_into c.loop-code.left (first_in (drop c.loop-code.at c.args.returns.now)) ≡ None = cc in
    let some = completion_no_more c.loop-code.has_completion _ _ (no_next c.loop-code.at c.loop-code.left c.args.returns.now is) c.loop-code.invariant.completion in
    c.is_all_told.ensures ∙ rw some refl
