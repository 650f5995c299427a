-- Lists whose elements have keys, and maps that find their first ones.
use Rattle.std.specs.Prelude.{◌≡◌, Bool, List, [], ◌∷◌, Option, None, find, option_map}

-- No two elements of the list have one key.
abbrev pub AreDistinct : {A K : Type 0} → (A → K) → (K → K → Bool) → List A → Type 0
AreDistinct key eq [] = Unit {0}
AreDistinct key eq (x ∷ xs) = (find (λ y. eq (key y) (key x)) xs ≡ None) × AreDistinct key eq xs

-- A map, given by what a look at each key finds, has at each key what is shown of the list's first element with that key.
abbrev pub Finds : {A K V : Type 0} → (K → K → Bool) → (A → K) → (A → V) → (K → Option V) → List A → Type 0
Finds {K = K} eq key shown m xs = (k : K) → m k ≡ option_map shown (find (λ x. eq (key x) k) xs)
