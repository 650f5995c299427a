-- What is copied lies within the area.
use Rattle.std.proofs.Common.{◌≡◌, ◌+◌, ◌*◌, Bool, true, false, Some, None, refl, subst, arith}
use Rattle.std.specs.Prelude.{nat_le, ◌==◌, ◌%◌, ◌&&◌, if◌then◌else◌}
use Rattle.std.proofs.lemmas.Bool.{leb-true}
use Rattle.bd_wrapping.specs.declared.parts.{Parts.{Parts}}
use Rattle.bd_wrapping.specs.Areas.{is_inside, buffers_from, buffers_to, are_inside, the_parts, IsCopied, PartsAreCopied}

some_of : (c : Bool) (x p : Parts) → (if c then Some x else None) ≡ Some p → (c ≡ true) × (x ≡ p)
some_of true x p e = (refl, cc)
some_of false x p e = absurd cc

last_of : (a b c : Bool) → (a && b && c) ≡ true → c ≡ true
last_of true true c e = e
last_of true false c e = absurd cc
last_of false b c e = absurd cc

all_of : (a b c d : Bool) → (a && b && c && d) ≡ true → (a ≡ true) × (b ≡ true) × (c ≡ true) × (d ≡ true)
all_of true true true d e = (refl, refl, refl, e)
all_of true true false d e = absurd cc
all_of true false c d e = absurd cc
all_of false b c d e = absurd cc

pub copied : PartsAreCopied
copied a area objects p e =
    let s = some_of (nat_le a.offsets_size (8 * objects) && (a.buffers_size % 8 == 0) && are_inside a area) (the_parts a) p e in
    let inside = last_of (nat_le a.offsets_size (8 * objects)) (a.buffers_size % 8 == 0) (are_inside a area) s.0 in
    let i = all_of (is_inside a.body a.body_size area) (is_inside a.offsets a.offsets_size area) (is_inside (buffers_from a) a.buffers_size area) (nat_le (buffers_to a + a.buffers_size) area) inside in
    subst (IsCopied area) s.1 (record {
      body = leb-true _ _ i.0;
      offsets = leb-true _ _ i.1;
      buffers = leb-true _ _ i.2;
      first = omega arith;
      second = omega arith;
      third = leb-true _ _ i.3;
    })
