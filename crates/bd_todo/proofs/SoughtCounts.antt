-- The counts of what is looked up, as entries and work items come and go.
use Rattle.std.proofs.Common.{◌≡◌, ◌+◌, nat_lt, Bool, not, cond, List, [], ◌∷◌, length, filter, count_by, Option, Some, None, option_map, unwrap_or, refl, arith}
use Rattle.std.proofs.lemmas.List.Sums.{sum_by-cons}
use Rattle.std.specs.{List.{list_any}, Map.{lookup}}
use Rattle.bd_space.specs.declared.space.Work.{Work}
use Rattle.bd_todo.specs.declared.spots.Spot.{Spot}

-- nothing is found where there is nothing
pub none_in : {K X : Type 0} (p : K → Bool) (entries : List (K × X)) → length entries ≡ 0 → None ≡ lookup p entries
none_in p [] e = refl
none_in p (x ∷ entries) e = absurd (omega arith)

-- the count of what stands there, or of what is put there
pub count_or : (o : Option Spot) (new : Spot) → (unwrap_or o new).count ≡ unwrap_or (option_map (λ (s : Spot). s.count) o) new.count
count_or None new = refl
count_or (Some s) new = refl

pub count_cons : (p : Work → Bool) (w : Work) (ws : List Work) → count_by p (w ∷ ws) ≡ cond (p w) 1 0 + count_by p ws
count_cons p w ws = sum_by-cons (λ v. cond (p v) 1 0) w ws

-- all pass where the count of those that don't is 0
pub all_pass : (p q : Work → Bool) (ws : List Work) → ((w : Work) → q w ≡ not (p w)) → count_by q ws ≡ 0 → filter p ws ≡ ws
all_pass p q [] turned e = refl
all_pass p q (w ∷ ws) turned e = grind (arith, all_pass p q ws turned, count_cons q w ws, turned w)

-- some passes where the count isn't
pub any_counted : (p : Work → Bool) (ws : List Work) → nat_lt 0 (count_by p ws) ≡ list_any p ws
any_counted p [] = refl
any_counted p (w ∷ ws) = grind (arith, any_counted p ws, count_cons p w ws)
