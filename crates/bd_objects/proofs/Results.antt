-- What holds of a result by what it is.
use Rattle.bd_objects.proofs.Words.{Err, Ok, OnErr, OnOk, Result, false, is_err, true, ◌≡◌}

pub on_err : {T E : Type 0} (r : Result T E) {P : Type 0} → P → OnErr r P
on_err (Ok x) h = tt
on_err (Err e) h = h

pub of_ok : {T E : Type 0} {P : Type 0} (r : Result T E) → is_err r ≡ false → OnOk r P → P
of_ok (Ok x) e h = h
of_ok (Err x) e h = absurd (cc)

pub of_err : {T E : Type 0} {P : Type 0} (r : Result T E) → is_err r ≡ true → OnErr r P → P
of_err (Ok x) e h = absurd (cc)
of_err (Err x) e h = h

pub then_ok : {T E : Type 0} {P Q : Type 0} (r : Result T E) → (P → Q) → OnOk r P → OnOk r Q
then_ok (Ok x) f h = f h
then_ok (Err x) f h = tt

pub then_err : {T E : Type 0} {P Q : Type 0} (r : Result T E) → (P → Q) → OnErr r P → OnErr r Q
then_err (Ok x) f h = tt
then_err (Err x) f h = f h
