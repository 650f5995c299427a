use Rattle.std.proofs.Common.{ℕ, Option, ap, sym, subst, ◌∙◌}
use Rattle.bd_frames.specs.{Places.{frames_of}, Children.{AreChildren}, Linked.{IsStack, top_in}}
use Rattle.bd_frames.proofs.table.FrameTable.reserve.Goals as goal

pub returns-clause-stands : goal.returns-clause-stands
returns-clause-stands c = λ l h.
    let items = c.reserve-2.ensures.items in
    record {
      items_are = ap frames_of items ∙ h.items_are;
      in_order = h.in_order;
      children_are = subst (AreChildren l) (sym items) h.children_are;
      stacks_are = λ s.
          subst (λ (o : Option ℕ). IsStack s o c.reserve-2.new.self.items) (sym (c.reserve.ensures s))
          (subst (IsStack s (top_in c.args.self.now.stacks s)) (sym items) (h.stacks_are s));
    }
