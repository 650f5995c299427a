use Rattle.std.proofs.Common.{◌++◌, ◌∙◌, length, Result, Ok, Err, OnErr, ap, arith}
use Rattle.std.proofs.lemmas.List.{length-append}
use Rattle.bd_spelling.specs.Logged.{entries_of}
use Rattle.bd_spelling.proofs.Logs.{nothing}
use Rattle.bd_spelling.proofs.log.LogReader.next.Goals as goal

on_err : {T E P Q : Type 0} (r : Result T E) → (P → Q) → OnErr r P → OnErr r Q
on_err (Ok x) then h = tt
on_err (Err e) then h = then h

pub returns-clause-grown : goal.returns-clause-grown
returns-clause-grown c = on_err c.next.result
    (λ some none.
    let here = c.loop-next.self-inside.here in
    let rest = entries_of c.loop-next.self-inside.rest.now ++ entries_of c.loop-next.self-inside.last.now in
    some (nothing here (omega (arith, ap length (c.loop-next.invariant ∙ c.self.view_is ∙ none), length-append here rest))))
    c.next.ensures.grown
