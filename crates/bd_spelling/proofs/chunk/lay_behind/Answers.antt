use Rattle.std.proofs.Common.{◌≡◌, ◌++◌, List, ℕ, length, drop, take, sym, ap, subst, ◌∙◌}
use Rattle.bd_spelling.specs.{Laid.{IsLaid}, Spelling.{entry_bytes}}
use Rattle.bd_spelling.proofs.Laying.{written_back}
use Rattle.bd_spelling.proofs.chunk.lay_behind.Goals as goal

pub returns-clause-laid : goal.returns-clause-laid
returns-clause-laid c =
    let old = c.args.bytes.now.items in
    let out = c.lay_whole.new.out in
    let laid = subst (λ (t : List ℕ). IsLaid c.args.used (entry_bytes c.args.entry.now) t out c.lay_whole.result) c.deref_mut.ensures.value c.lay_whole.ensures in
    let all : c.args.bytes.now.len ≡ length old = sym c.deref_mut.ensures.len ∙ ap length c.deref_mut.ensures.value in
    subst (λ (t : List ℕ). IsLaid c.args.used (entry_bytes c.args.entry.now) old t c.lay_whole.result) (sym (written_back c.args.bytes.now.len old out all laid.same)) laid
