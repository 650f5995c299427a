use Rattle.std.proofs.Common.{◌≡◌, true, None, is_ok, inr, subst, sym, ◌∙◌, refl, rules}
use Rattle.std.proofs.Math.Logic.{∥∥₁_map}
use Rattle.bd_ring.specs.declared.nodes.Node.{Node}
use Rattle.bd_ring.specs.Rings.{Stands}
use Rattle.bd_ring.proofs.Setting.{kept}
use Rattle.bd_ring.proofs.Standing.{fresh, lent, lent_stands, lent_used, wrote, pushed}
use Rattle.bd_ring.proofs.Back.{back_there, back_nobodys, back_nowhere, all_used, none_or, grown_sound, longer, again_sound}
use Rattle.bd_ring.proofs.rings.Rings.add.Goals as goal

-- ---- one that was given back

pub returns-clause-stands : goal.returns-clause-stands
returns-clause-stands c = λ f h.
    let s = c.args.self.now in let ns = s.nodes.items in let us = c.write.new.nodes.items in let x = c.in-Some.n in
    lent_stands ns us x true None None
    (wrote ns us x (lent true None None) c.look_at-node.result c.look_at-node.ensures c.write.ensures.writes)
    f h (back_nowhere ns s.free x s.sound c.in-Some.is) (λ no. absurd cc)

pub returns-clause-fresh : goal.returns-clause-fresh
returns-clause-fresh c = let s = c.args.self.now in back_nobodys s.nodes.items s.free c.in-Some.n s.sound c.in-Some.is

pub returns-clause-alone : goal.returns-clause-alone
returns-clause-alone c =
    let s = c.args.self.now in let ns = s.nodes.items in let us = c.write.new.nodes.items in let x = c.in-Some.n in
    kept ns us x _
    (wrote ns us x (lent true None None) c.look_at-node.result c.look_at-node.ensures c.write.ensures.writes)
    (λ (q : Node). q.ring) refl x ∙ back_nowhere ns s.free x s.sound c.in-Some.is

pub returns-clause-used : goal.returns-clause-used
returns-clause-used c =
    let s = c.args.self.now in let ns = s.nodes.items in let us = c.write.new.nodes.items in let x = c.in-Some.n in
    lent_used ns us x true None None
    (wrote ns us x (lent true None None) c.look_at-node.result c.look_at-node.ensures c.write.ensures.writes)
    (back_there ns s.free x s.sound c.in-Some.is)

pub invariant_of-self-2 : goal.invariant_of-self-2
invariant_of-self-2 c =
    let s = c.args.self.now in let ns = s.nodes.items in let us = c.write.new.nodes.items in let x = c.in-Some.n in
    let writes = wrote ns us x (lent true None None) c.look_at-node.result c.look_at-node.ensures c.write.ensures.writes in
    record {
      sound = ∥∥₁_map s.sound
          (again_sound ns us s.free x c.look_at-node.result c.in-Some.is c.look_at-node.ensures
          (λ f h. lent_stands ns us x true None None writes f h (back_nowhere ns s.free x s.sound c.in-Some.is) (λ no. absurd cc))
          c.write.ensures.len writes);
    }

-- ---- a new one

pub returns-in_default-clause-stands : goal.returns-in_default-clause-stands
returns-in_default-clause-stands c = λ f h.
    let items : c.push.new.self.items ≡ _ = search rules in
    subst (λ ns. Stands ns f) (sym items) (pushed c.args.self.now.nodes.items f h)

pub returns-in_default-clause-again : goal.returns-in_default-clause-again
returns-in_default-clause-again c =
    let s = c.args.self.now in
    let items : c.push.new.self.items ≡ _ = search rules in
    inr (all_used s.nodes.items s.free s.sound c.in_default.is, longer s.nodes.items c.push.new.self.items fresh items)

pub invariant_of-self : goal.invariant_of-self
invariant_of-self c =
    let s = c.args.self.now in
    record { sound = ∥∥₁_map s.sound (grown_sound s.nodes.items c.push.new.self.items s.free (is_ok c.push.result) c.push.ensures.items c.in_default.is) }

pub returns-in_err-n-clause-all : goal.returns-in_err-n-clause-all
returns-in_err-n-clause-all c = let s = c.args.self.now in none_or c.from_residual.result (all_used s.nodes.items s.free s.sound c.in_default.is)

pub returns-in_err-ok-clause-all : goal.returns-in_err-ok-clause-all
returns-in_err-ok-clause-all c = let s = c.args.self.now in none_or c.from_residual-in_err-ok.result (all_used s.nodes.items s.free s.sound c.in_default.is)
