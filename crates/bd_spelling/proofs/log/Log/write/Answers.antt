use Rattle.std.proofs.Common.{◌≡◌, ◌≤◌, List, take, length, arith, ap, ◌∙◌, subst, get_or}
use Rattle.std.specs.List.{flat_map}
use Rattle.std.specs.Io.KnownBytes.{Appends}
use Rattle.std.proofs.lemmas.List.{take_all}
use Rattle.bd_spelling.specs.Spelling.{entry_bytes}
use Rattle.bd_spelling.specs.Logged.{LogView}
use Rattle.bd_spelling.proofs.Logs.{piece, spelled_all}
use Rattle.bd_spelling.proofs.Pieces.{begins_first, begins_next, sends_part, sends_both, sends_same}
use Rattle.bd_spelling.specs.Writing.{Begins}
use Rattle.bd_spelling.proofs.log.Log.write.Goals as goal

pub returns-in_err-send : goal.returns-in_err-send
returns-in_err-send g c =
    let at = g.W.Write.contents in
    let full = c.self.inside.full.items in
    sends_part c.from_residual.result (at c.args.out.now) (at c.send.new.out) _ _ (spelled_all full c.self.inside.last ∙ ap (λ (v : LogView). flat_map entry_bytes v.entries) c.self.view_is) c.from_residual.ensures.0
    (begins_first (at c.args.out.now) (at c.send.new.out) (flat_map piece full) (piece c.self.inside.last)
    (begins_next piece full c.loop-chunk.chunk-index c.chunk-item.result (at c.args.out.now) (at c.loop-chunk.out) (at c.send.new.out) (omega (arith, c.loop-chunk-test.true, ap length c.deref-chunk-items.ensures.value)) c.loop-chunk.invariant
    (subst (Begins (at c.loop-chunk.out) (at c.send.new.out)) (c.bytes.ensures ∙ ap piece c.chunk-item.is ∙ ap (λ (xs : List LogView). piece (get_or xs c.loop-chunk.chunk-index c.chunk-item.result)) c.deref-chunk-items.ensures.value) c.in_err-send.ensures)))

pub returns : goal.returns
returns g c =
    let at = g.W.Write.contents in
    let full = c.self.inside.full.items in
    let past : length full ≤ c.loop-chunk.chunk-index = omega (arith, ap length c.deref-chunk-items.ensures.value) in
    let all : take c.loop-chunk.chunk-index full ≡ full = take_all c.loop-chunk.chunk-index full past in
    let before : Appends (at c.args.out.now) (at c.loop-chunk.out) (flat_map piece full) = subst (λ (xs : List LogView). Appends (at c.args.out.now) (at c.loop-chunk.out) (flat_map piece xs)) all c.loop-chunk.invariant in
    sends_both c.send-2.result (at c.args.out.now) (at c.loop-chunk.out) (at c.send-2.new.out) (flat_map piece full) _ _ (spelled_all full c.self.inside.last ∙ ap (λ (v : LogView). flat_map entry_bytes v.entries) c.self.view_is) before (sends_same c.send-2.result (at c.loop-chunk.out) (at c.send-2.new.out) _ _ c.bytes-2.ensures c.send-2.ensures)
