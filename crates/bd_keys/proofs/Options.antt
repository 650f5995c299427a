-- What an option has.
use Rattle.std.proofs.Common.{◌≡◌, ℕ, Bool, true, false, cond, Option, Some, None, IsSome, is_some, unwrap_or, option_map, refl, ap, sym, ◌∙◌, subst}
use Rattle.std.specs.Option.{option_or}

pub is_there : {A : Type 0} {r : Option A} (x : A) (o : Option A) → r ≡ Some x → r ≡ o → IsSome o
is_there x o h e = subst IsSome (sym h ∙ e) refl

pub none_is : {A : Type 0} (o : Option A) → is_some o ≡ false → o ≡ None
none_is None h = refl
none_is (Some x) h = absurd (cc)

pub none_mapped : {A B : Type 0} (f : A → B) (o : Option A) → option_map f o ≡ None → o ≡ None
none_mapped f None e = refl
none_mapped f (Some x) e = cc

pub or_none : {A : Type 0} (o : Option A) → option_or o None ≡ o
or_none None = refl
or_none (Some x) = refl

-- what isn't there is 0
pub updated : (b : Bool) (w old new : Option ℕ) → new ≡ cond b w old → unwrap_or new 0 ≡ cond b (unwrap_or w 0) (unwrap_or old 0)
updated true w old new h = ap (λ o. unwrap_or o 0) h
updated false w old new h = ap (λ o. unwrap_or o 0) h
