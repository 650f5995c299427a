use Rattle.bd_buffers.proofs.Words.{List, Record, ap, arith, eqb-true, length, live, refl, sym, [], ◌∙◌, ◌∷◌, ◌≡◌}
use Rattle.bd_buffers.proofs.window.Window.clear_empty.Goals as goal
use Rattle.bd_buffers.proofs.window.Window.clear_empty.Goals.{After-clear}

none : (c : After-clear) → c.self.inside.buffers.records ≡ []
none c = sym c.as_slice.ensures.live ∙ ap live (none_of c.as_slice.result.now (eqb-true _ 0 (sym c.is_empty.ensures ∙ c.if-is_empty.true)))
  where
    none_of : (rows : List Record) → length rows ≡ 0 → rows ≡ []
    none_of [] is = refl
    none_of (r ∷ rows) is = absurd (omega arith)

pub invariant_of-self : goal.invariant_of-self
invariant_of-self c = rw (none c) (c.clear.ensures.kept (rw (none c) at c.self.invariant))

pub returns-then-len-gt-MOST_KEPT-clause-buffers : goal.returns-then-len-gt-MOST_KEPT-clause-buffers
returns-then-len-gt-MOST_KEPT-clause-buffers c = rw (← c.self.view_is, none c) refl
