use Rattle.std.proofs.Common.{◌≡◌, ◌≤◌, List, Result, Ok, Err, OnErr, take, length, get_or, arith, ap, ◌∙◌}
use Rattle.std.proofs.lemmas.List.{take_all, length-append}
use Rattle.bd_spelling.specs.Logged.{LogView, entries_of}
use Rattle.bd_spelling.proofs.Logs.{none_in, nothing}
use Rattle.bd_spelling.proofs.log.Log.copied.Goals as goal

on_err : {T E P : Type 0} (r : Result T E) → P → OnErr r P
on_err (Ok x) h = tt
on_err (Err e) h = h

-- what stands at this place of the chunks has no entry where the log has none
pub returns-in_err-append-clause-grown : goal.returns-in_err-append-clause-grown
returns-in_err-append-clause-grown c = on_err c.from_residual.result (λ none.
    let full = c.self.inside.full.items in
    let here = c.chunk-item.result in
    let at = c.loop-chunk.chunk-index in
    let few : length (entries_of full) ≡ 0 = omega (arith, ap length none, ap (λ (v : LogView). length v.entries) c.self.view_is, length-append (entries_of full) c.self.inside.last.entries) in
    let is : length here.entries ≡ 0 = ap (λ (v : LogView). length v.entries) c.chunk-item.is
    ∙ ap (λ (xs : List LogView). length (get_or xs at here).entries) c.deref-chunk-items.ensures.value
    ∙ none_in full at here (omega (arith, c.loop-chunk-test.true, ap length c.deref-chunk-items.ensures.value)) few in
    c.in_err-append.ensures.grown (c.reader.ensures ∙ nothing here.entries is))

pub returns-clause-copied : goal.returns-clause-copied
returns-clause-copied c =
    let full = c.self.inside.full.items in
    let past : length full ≤ c.loop-chunk.chunk-index = omega (arith, ap length c.deref-chunk-items.ensures.value) in
    let all : take c.loop-chunk.chunk-index full ≡ full = take_all c.loop-chunk.chunk-index full past in
    rw (c.in_ok-append-2.ensures.all, c.reader-2.ensures, c.loop-chunk.invariant, all) (ap (λ (v : LogView). v.entries) c.self.view_is)
