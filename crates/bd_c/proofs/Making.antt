-- What was made is behind a handle, or nothing is, and it is told why.
use Rattle.std.proofs.Common.{◌≡◌, ℕ, Result, Ok, Err, Some, None, Option, refl, sym, subst, inl, inr}
use Rattle.std.specs.Prelude.{IfOk, IfErr, MatchResult}
use Rattle.bd_c.specs.declared.held.Held.{Held}
use Rattle.bd_c.specs.declared.status.Status.{Status}
use Rattle.bd_c.specs.declared.status.Status.TheVariants.{Done}
use Rattle.bd_c.specs.Behind.{IsMade}
use Rattle.bd_c.specs.Status.{number_of, Reports}

pub made : {B : Type 0} (r : Result B Status) (held : B → Held) (n : ℕ) (h : Option Held) (IsThis : Option Held → Type 0) (IsRefused : Status → Type 0)
    → IfOk r (λ b. IsThis (Some (held b))) → IfErr r IsRefused
    → MatchResult r (λ b. (n ≡ number_of Done) × (h ≡ Some (held b))) (λ s. (n ≡ number_of s) × (h ≡ None))
    → Reports n (IsMade IsThis IsRefused h)
made (Ok b) held n h IsThis IsRefused is refused put = (Done, put.0, inl (refl, subst IsThis (sym put.1) is))
made (Err s) held n h IsThis IsRefused is refused put = (s, put.0, inr (put.1, refused))
