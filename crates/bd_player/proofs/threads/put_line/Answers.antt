use Rattle.std.proofs.Common.{◌≡◌, ◌<◌, ◌++◌, ◌∷◌, [], length, get_or, refl, rules}
use Rattle.bd_player.proofs.Piles.{as_first, is_put}
use Rattle.bd_player.proofs.threads.put_line.Goals as goal

pub returns : goal.returns
returns c =
    let vs = c.args.piles.now.items in let i = c.args.line.seat in let v = c.in-Some.pile.now in
    let lt : i < length vs = search rules in
    let at : get_or vs i v ≡ v = search rules in
    let grown : c.push.new.self.items ≡ v.items ++ as_first c.args.line ∷ [] = search rules in
    is_put (λ p. p.items) vs _ c.args.line i v c.push.new.self refl refl lt at grown
