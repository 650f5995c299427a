use Rattle.std.proofs.Common.{◌==◌, Option, ℕ, ap, subst, cond}
use Rattle.bd_space.specs.Words.{is_some_and}
use Rattle.bd_frames.specs.Linked.{Covers, top_in, popped_top}
use Rattle.bd_frames.proofs.Stacking.{gone_from_both}
use Rattle.bd_frames.proofs.stacks.Stacks.pop.Goals as goal

pub returns : goal.returns
returns c = λ s rows there st.
    let r = c.args.row.now in
    let mid = top_in c.lower.new.self s in
    let then = subst (λ (o : Option ℕ). Covers (cond (is_some_and o (λ t. t == s)) (popped_top s r mid) mid) (top_in c.lower-2.new.self s))
    c.other_server.ensures (c.lower-2.ensures s) in
    gone_from_both s r rows (top_in c.args.self.now s) mid (top_in c.lower-2.new.self s) there st (c.lower.ensures s) then
