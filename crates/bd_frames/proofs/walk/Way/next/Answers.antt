use Rattle.std.proofs.{Common.{◌<◌, Option, ℕ, take, sym, ap, subst, ◌∙◌, arith, rules}, lemmas.List.{length-take, take-take, get_or-take}}
use Rattle.std.specs.Option.{option_and}
use Rattle.bd_frames.specs.{declared.frame.Row.{Row}, Linked.{below_of, IsStack}}
use Rattle.bd_frames.proofs.{Places.{no_row}, Stacking.{way_on}}
use Rattle.bd_frames.proofs.walk.Way.next.Goals as goal

pub returns : goal.returns
returns c =
    let way = c.args.self.now in
    let seat = c.args.seat in
    let rs = c.args.rows.now in
    let i = c.in_ok-i.i in
    let low : i < way.end = omega (arith, c.in_ok-i.ensures.within, length-take way.end rs) in
    record {
      end = (low, search rules);
      newest = c.in_ok-i.ensures.newest;
      rest = λ r st.
          let next = way_on seat way.bound (take way.end rs) i no_row r c.in_ok-i.ensures.within ((c.in_ok-i.ensures.newest r st).0 no_row) st in
          subst (λ (o : Option ℕ). IsStack seat o (take i rs))
          (ap (λ (x : Row). option_and way.bound (below_of seat x)) (get_or-take way.end rs i no_row low)
          ∙ ap (option_and way.bound) (sym c.below_of.ensures) ∙ sym c.and-self.ensures)
          (rw (take-take i way.end rs (omega (arith, low))) at next);
    }
