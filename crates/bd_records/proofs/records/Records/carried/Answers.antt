use Rattle.bd_records.proofs.Words.{Asked, Carried, Handshake, Holder, Manager, Reference, Target, ap, carried_in, is_carried_by, is_of_buffer, map, true, ℕ, ◌∙◌, ◌≡◌}
use Rattle.bd_records.proofs.Lists.{filter_within}
use Rattle.bd_records.proofs.records.Records.carried.Goals as goal

-- what a buffer carries lies in it
carried_of : (b : ℕ) (h : Holder) → is_carried_by b h ≡ true → is_of_buffer b h ≡ true
carried_of b (Asked q) e = absurd cc
carried_of b (Carried c q) e = e
carried_of b (Target c q) e = absurd cc
carried_of b Handshake e = absurd cc
carried_of b Manager e = absurd cc

pub returns : goal.returns
returns c = λ objects l h.
    ap (λ rs. carried_in rs c.args.b) (c.of.ensures l h.held)
    ∙ ap (map (λ (r : Reference). r.object)) (filter_within (λ r. is_carried_by c.args.b r.holder) (λ r. is_of_buffer c.args.b r.holder) (λ x e. carried_of c.args.b x.holder e) l)
