-- Whether reports of flooding are to be set, as C gives it: by a number.
use Rattle.std.specs.Prelude.{◌≡◌, ◌==◌, ◌⊎◌, ℕ, Bool, true, false, Option, Some, None, if◌then◌else◌}
use Rattle.bd_c.specs.declared.answers.Told.{Told}
use Rattle.bd_c.specs.declared.held.Held.{Held}
use Rattle.bd_c.specs.declared.status.Status.{Status}
use Rattle.bd_c.specs.declared.status.Status.TheVariants.{NoSuchRequest}

-- What a switch of C says: 0 is no, 1 is yes, and no other number says either.
abbrev pub flag_of : ℕ → Option Bool
flag_of n = if n == 0 then Some false else (if n == 1 then Some true else None)

abbrev pub IsNoFlag : ℕ → Status → Type 0
IsNoFlag n s = (s ≡ NoSuchRequest) × (flag_of n ≡ None)

-- what is asked for with a flag was done with the one that the number says, or it says none, and nothing was done
abbrev pub ByFlag : ℕ → (Bool → Told → Told → Status → Type 0) → Option Held → Option Held → Told → Told → Status → Type 0
ByFlag n Does h k a b s =
    (IsNoFlag n s × (k ≡ h) × (b ≡ a))
    ⊎ ((on : Bool) × (flag_of n ≡ Some on) × Does on a b s)
