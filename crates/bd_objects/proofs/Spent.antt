-- What changes of the records take of their room, one after the other.
use Rattle.bd_objects.proofs.Words.{Records, Uses, arith, ℕ, ◌+◌, ◌≤◌}

pub none_used : (t : Records) (objects references names : ℕ) → Uses t t objects references names
none_used t objects references names = record { objects_fit = omega arith; references_fit = omega arith; names_fit = λ p. omega arith }

pub then_uses : (a b c : Records) (o r n p s m : ℕ) → Uses a b o r n → Uses b c p s m → Uses a c (o + p) (r + s) (n + m)
then_uses a b c o r n p s m u v = record {
  objects_fit = (let x = u.objects_fit in let y = v.objects_fit in omega (arith, x, y));
  references_fit = (let x = u.references_fit in let y = v.references_fit in omega (arith, x, y));
  names_fit = λ q. (let x = u.names_fit q in let y = v.names_fit q in omega (arith, x, y));
}

-- room for more references would do too
pub widened : (a b : Records) (o r n s : ℕ) → r ≤ s → Uses a b o r n → Uses a b o s n
widened a b o r n s le u = record {
  objects_fit = u.objects_fit;
  references_fit = (let x = u.references_fit in omega (arith, x, le));
  names_fit = u.names_fit;
}
