-- Those who wait, by process.
use Rattle.std.specs.Prelude.{ℕ, List, [], nat_eq, unwrap_or, option_map}
use Rattle.std.specs.HashMap as hash
use Rattle.bd_bridge.specs.declared.groups.Groups.{Groups}

-- their seats
abbrev pub seats_of : Groups → ℕ → List ℕ
seats_of g p = unwrap_or (option_map (λ v. v.items) (hash.get nat_eq g.lists p)) []
