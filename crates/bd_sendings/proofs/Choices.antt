-- What is done where a test fails.
use Rattle.std.proofs.Common.{◌≡◌, Bool, true, false, List, ap, ◌∙◌}
use Rattle.std.specs.Prelude.{if◌then◌else◌}
use Rattle.bd_sendings.specs.declared.sent.Sent.{Sent}

pub otherwise : (b c o p : Bool) (x n : List Sent) (f : Bool → List Sent) → c ≡ b → c ≡ false → n ≡ f o → o ≡ p → n ≡ (if b then x else f p)
otherwise b true o p x n f e t is same = absurd cc
otherwise true false o p x n f e t is same = absurd cc
otherwise false false o p x n f e t is same = is ∙ ap f same
