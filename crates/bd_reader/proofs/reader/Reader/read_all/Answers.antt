use Rattle.std.proofs.Common.{◌≡◌, ℕ, ◌∙◌, Bool, drop, Some, None, sym}
use Rattle.bd_reader.specs.Returns.{first_in}
use Rattle.bd_reader.proofs.Walks.{first_fits, read_on, read_last, read_none, call_on, call_here}
use Rattle.bd_reader.proofs.reader.Reader.read_all.Goals as goal

pub returns-then-is_call-clause-read : goal.returns-then-is_call-clause-read
returns-then-is_call-clause-read c =
    let is : first_in (drop c.loop-code.at c.args.returns.now) ≡ Some (c.in-Some.code, c.in-Some.is_one_way) = cc in
    c.read.ensures
    ∙ read_last c.loop-code.at c.args.returns.now (c.in-Some.code, c.in-Some.is_one_way) c.loop-code.self _ is (sym c.is_call.ensures ∙ c.if-is_call.true) c.loop-code.invariant.read

pub returns-then-is_call-clause-call : goal.returns-then-is_call-clause-call
returns-then-is_call-clause-call c =
    let is : first_in (drop c.loop-code.at c.args.returns.now) ≡ Some (c.in-Some.code, c.in-Some.is_one_way) = cc in
    call_here c.loop-code.at c.args.returns.now (c.in-Some.code, c.in-Some.is_one_way) _ is (sym c.is_call.ensures ∙ c.if-is_call.true) c.loop-code.invariant.call

pub loop-code-preserved : goal.loop-code-preserved
loop-code-preserved c =
    let r : ℕ × Bool = (c.in-Some.code, c.in-Some.is_one_way) in
    let is : first_in (drop c.loop-code.at c.args.returns.now) ≡ Some r = cc in
    let other = sym c.is_call.ensures ∙ c.if-is_call.false in
    rw (c.size_of-at.ensures, c.read.ensures) (record {
      within = first_fits c.loop-code.at c.args.returns.now r c.loop-code.invariant.within is;
      read = read_on c.loop-code.at c.args.returns.now r c.loop-code.self _ is other c.loop-code.invariant.read;
      call = call_on c.loop-code.at c.args.returns.now r _ is other c.loop-code.invariant.call;
    })

pub returns-clause-read : goal.returns-clause-read
returns-clause-read c =
    let is : first_in (drop c.loop-code.at c.args.returns.now) ≡ None = cc in
    read_none c.loop-code.at c.args.returns.now c.loop-code.self _ is c.loop-code.invariant.read
