-- A death notification that is to be cleared is there.
use Rattle.bd_step.proofs.Words.{DeathNotification, Identity, In, NoSuchNumber, NoneAsked, Ok, Space, and_then, and_then_ok, clear_check, find_in, found_ok, is_uncleared_on, named, not, ok_or, subst, uncleared_in, unless, unless_ok, when, ℕ, ◌==◌, ◌≡◌}

pub cleared_there : (s : Space) (p n cookie : ℕ) (x : DeathNotification) → clear_check s p n cookie ≡ Ok x → In x s.deaths
unfolding clear_check
cleared_there s p n cookie x e =
    let with_cookie = λ (y : DeathNotification). unless (when (not (y.cookie == cookie)) NoneAsked) y in
    let o = and_then_ok (ok_or (named s p n) NoSuchNumber) (λ (o : Identity). and_then (ok_or (uncleared_in s.deaths p o) NoneAsked) with_cookie) x e in
    let y = and_then_ok (ok_or (uncleared_in s.deaths p o.0) NoneAsked) with_cookie x o.2 in
    let is = (unless_ok (when (not (y.0.cookie == cookie)) NoneAsked) y.0 x y.2).1 in
    let here = (find_in (is_uncleared_on p o.0) y.0 s.deaths (found_ok (uncleared_in s.deaths p o.0) NoneAsked y.0 y.1)).0 in
    subst (λ (z : DeathNotification). In z s.deaths) is here
