-- What a look finds is told.
use Rattle.std.proofs.Common.{◌≡◌, Option, Some, None, true, false, refl}
use Rattle.std.specs.Prelude.{option_map}
use Rattle.bd_c.specs.SpaceTold.{Finds}

pub finds_some : {A B : Type 0} (o : Option A) (f : A → B) (x : A) (old new : B) → Some x ≡ o → new ≡ f x → Finds (option_map f o) old new true
finds_some o f x old new is told = rw (← is) (refl, told)

pub finds_none : {A B : Type 0} (o : Option A) (f : A → B) (old : B) → None ≡ o → Finds (option_map f o) old old false
finds_none o f old is = rw (← is) (refl, refl)

pub as_it_is : {A : Type 0} (o : Option A) → o ≡ option_map (λ x. x) o
as_it_is None = refl
as_it_is (Some x) = refl

pub finds_this : {A : Type 0} (o : Option A) (x old : A) → o ≡ Some x → Finds o old x true
finds_this o x old is = rw is (refl, refl)

pub finds_nothing : {A : Type 0} (o : Option A) (old : A) → o ≡ None → Finds o old old false
finds_nothing o old is = rw is (refl, refl)
