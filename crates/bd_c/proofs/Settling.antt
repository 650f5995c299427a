-- What is told of whether somebody is left to be looked at.
use Rattle.std.proofs.Common.{◌≡◌, ◌∙◌, Bool, true, false, not, refl, ap}

pub settled_if : (b left : Bool) → left ≡ not b → left ≡ false → b ≡ true
settled_if true left is none = refl
settled_if false left is none = cc

pub left_if : (b left : Bool) → left ≡ not b → b ≡ true → left ≡ false
left_if b left is so = is ∙ ap not so
