-- A field that is read is the field that was written, and what was written is read again.
use Rattle.std.proofs.Common.{◌≡◌, ℕ, suc, ◌^◌, ◌<◌, ◌≤◌, Bool, true, false, cond, ltb, List, [], ◌∷◌, ◌++◌, length, take, drop, Option, Some, None, refl, sym, ap, subst, ◌∙◌, append_assoc, arith}
use Rattle.std.proofs.lemmas.Bool.{ltb-false, le-ltb}
use Rattle.std.proofs.lemmas.List.{take_at, drop_at, take-append-drop, length-append, length-take}
use Rattle.bd_uapi.specs.Bytes.{IsBytes, word, long, word_at, long_at}
use Rattle.bd_uapi.proofs.Pieces.{IsBytes_take, IsBytes_drop, word_takes, word_fits, word_again, long_takes, long_fits, long_again}
use Rattle.bd_spelling.specs.Spelling.{block, IsBlock}
use Rattle.bd_spelling.specs.Reading.{◌>>=◌, byte_from, word_from, long_from, block_from}

-- the value of a step that did not fail
pub bind_some : {A B : Type 0} (r : Option A) (f : A → Option B) (y : B) → (r >>= f) ≡ Some y → (x : A) × (r ≡ Some x) × (f x ≡ Some y)
bind_some (Some x) f y e = (x, refl, e)
bind_some None f y e = absurd cc

-- a test that did not fail
pub guard_some : {A : Type 0} (b : Bool) (x y : A) → cond b None (Some x) ≡ Some y → (b ≡ false) × (x ≡ y)
guard_some true x y e = absurd cc
guard_some false x y e = (refl, cc)

pub demand_some : {A : Type 0} (b : Bool) (r : Option A) (y : A) → cond b r None ≡ Some y → (b ≡ true) × (r ≡ Some y)
demand_some true r y e = (refl, e)
demand_some false r y e = absurd cc

abbrev pub known : {A : Type 0} → A → Option A
known x = Some x

pub some_is : {A : Type 0} (x y : A) → known x ≡ known y → x ≡ y
some_is x y e = cc

-- what a reader took from the front
pub record Takes (bytes text rest : List ℕ) : Type 0 where
  pub parts : bytes ≡ text ++ rest
  pub rest_fits : IsBytes rest

pub Takes_then : (a x b y c : List ℕ) → Takes a x b → Takes b y c → Takes a (x ++ y) c
Takes_then a x b y c p q = record { parts = p.parts ∙ ap (λ (t : List ℕ). x ++ t) q.parts ∙ sym (append_assoc x y c); rest_fits = q.rest_fits }

pub Takes_behind : (tag : ℕ) (bytes text rest : List ℕ) → Takes bytes text rest → Takes (tag ∷ bytes) (tag ∷ text) rest
Takes_behind tag bytes text rest t = record { parts = ap (λ (w : List ℕ). tag ∷ w) t.parts; rest_fits = t.rest_fits }

pub IsBytes_rest : (b : ℕ) (bytes : List ℕ) → IsBytes (b ∷ bytes) → IsBytes bytes
IsBytes_rest b bytes h i = h (suc i)

-- a reader reads exactly what has this spelling
pub record Reads {V : Type 0} (read : List ℕ → Option (V × List ℕ)) (spell : V → List ℕ) (Fits : V → Type 0) : Type 0 where
  pub takes : (bytes : List ℕ) (x : V × List ℕ) → IsBytes bytes → read bytes ≡ Some x → Takes bytes (spell x.0) x.1 × Fits x.0
  pub again : (v : V) (rest : List ℕ) → Fits v → read (spell v ++ rest) ≡ Some (v, rest)

-- ---- bytes

pub byte_takes : (bytes : List ℕ) (x : ℕ × List ℕ) → byte_from bytes ≡ Some x → bytes ≡ x.0 ∷ x.1
unfolding byte_from
byte_takes [] x e = absurd cc
byte_takes (b ∷ rest) x e = ap (λ (p : ℕ × List ℕ). p.0 ∷ p.1) (some_is (b, rest) x e)

-- ---- numbers

word_takes_front : (bytes : List ℕ) (x : ℕ × List ℕ) → IsBytes bytes → word_from bytes ≡ Some x → Takes bytes (word x.0) x.1 × (x.0 < 2 ^ 32)
unfolding word_from
word_takes_front bytes x fits e =
    let g = guard_some (ltb (length bytes) 4) (word_at 0 bytes, drop 4 bytes) x e in
    let long : 4 ≤ length bytes = ltb-false _ _ g.0 in
    let front : word (word_at 0 bytes) ≡ take 4 bytes = word_takes 0 bytes fits long in
    let made : Takes bytes (word (word_at 0 bytes)) (drop 4 bytes) × (word_at 0 bytes < 2 ^ 32) =
    (record { parts = sym (ap (λ (t : List ℕ). t ++ drop 4 bytes) front ∙ take-append-drop 4 bytes); rest_fits = IsBytes_drop 4 bytes fits }, word_fits 0 bytes fits) in
    subst (λ (p : ℕ × List ℕ). Takes bytes (word p.0) p.1 × (p.0 < 2 ^ 32)) g.1 made

word_read : (n : ℕ) (rest : List ℕ) → n < 2 ^ 32 → word_at 0 (word n ++ rest) ≡ n
unfolding word_at
word_read n rest lt = word_again n rest lt

word_front_again : (n : ℕ) (rest : List ℕ) → n < 2 ^ 32 → word_from (word n ++ rest) ≡ Some (n, rest)
unfolding word_from
word_front_again n rest lt =
    let long : ltb (length (word n ++ rest)) 4 ≡ false = le-ltb _ _ (omega (arith, length-append (word n) rest)) in
    rw (long, word_read n rest lt) refl

pub words : Reads word_from word (λ n. n < 2 ^ 32)
words = record { takes = word_takes_front; again = word_front_again }

-- A number that is read from eight bytes takes them, and fits into 64 bits.
long_takes_front : (bytes : List ℕ) (x : ℕ × List ℕ) → IsBytes bytes → long_from bytes ≡ Some x → Takes bytes (long x.0) x.1 × (x.0 < 2 ^ 64)
unfolding long_from
long_takes_front bytes x fits e =
    let g = guard_some (ltb (length bytes) 8) (long_at 0 bytes, drop 8 bytes) x e in
    let enough : 8 ≤ length bytes = ltb-false _ _ g.0 in
    let front : long (long_at 0 bytes) ≡ take 8 bytes = long_takes 0 bytes fits enough in
    let made : Takes bytes (long (long_at 0 bytes)) (drop 8 bytes) × (long_at 0 bytes < 2 ^ 64) =
    (record { parts = sym (ap (λ (t : List ℕ). t ++ drop 8 bytes) front ∙ take-append-drop 8 bytes); rest_fits = IsBytes_drop 8 bytes fits }, long_fits 0 bytes fits) in
    subst (λ (p : ℕ × List ℕ). Takes bytes (long p.0) p.1 × (p.0 < 2 ^ 64)) g.1 made

long_read : (n : ℕ) (rest : List ℕ) → n < 2 ^ 64 → long_at 0 (long n ++ rest) ≡ n
unfolding long_at
long_read n rest lt = long_again n rest lt

long_front_again : (n : ℕ) (rest : List ℕ) → n < 2 ^ 64 → long_from (long n ++ rest) ≡ Some (n, rest)
unfolding long_from
long_front_again n rest lt =
    let enough : ltb (length (long n ++ rest)) 8 ≡ false = le-ltb _ _ (omega (arith, length-append (long n) rest)) in
    rw (enough, long_read n rest lt) refl

pub longs : Reads long_from long (λ n. n < 2 ^ 64)
longs = record { takes = long_takes_front; again = long_front_again }

-- ---- blocks

block_takes : (bytes : List ℕ) (x : List ℕ × List ℕ) → IsBytes bytes → block_from bytes ≡ Some x → Takes bytes (block x.0) x.1 × IsBlock x.0 × IsBytes x.0
unfolding block_from
block_takes bytes x fits e =
    let b = bind_some (word_from bytes) (λ n. cond (ltb (length n.1) n.0) None (Some (take n.0 n.1, drop n.0 n.1))) x e in
    let n = b.0 in
    let t = words.takes bytes n fits b.1 in
    let g = guard_some (ltb (length n.1) n.0) (take n.0 n.1, drop n.0 n.1) x b.2 in
    let long : n.0 ≤ length n.1 = ltb-false _ _ g.0 in
    let len : length (take n.0 n.1) ≡ n.0 = omega (arith, length-take n.0 n.1) in
    let second : Takes n.1 (take n.0 n.1) (drop n.0 n.1) = record { parts = sym (take-append-drop n.0 n.1); rest_fits = IsBytes_drop n.0 n.1 t.0.rest_fits } in
    let both = Takes_then bytes (word n.0) n.1 (take n.0 n.1) (drop n.0 n.1) t.0 second in
    let all : Takes bytes (block (take n.0 n.1)) (drop n.0 n.1) = subst (λ (k : ℕ). Takes bytes (word k ++ take n.0 n.1) (drop n.0 n.1)) (sym len) both in
    subst (λ (p : List ℕ × List ℕ). Takes bytes (block p.0) p.1 × IsBlock p.0 × IsBytes p.0) g.1 (all, omega (arith, t.1), IsBytes_take n.0 n.1 t.0.rest_fits)

-- What is read as a block out of bytes is made of bytes, too: of numbers below 256.
pub block_bytes : (bytes : List ℕ) (x : List ℕ × List ℕ) → IsBytes bytes → block_from bytes ≡ Some x → IsBytes x.0
block_bytes bytes x fits e = (block_takes bytes x fits e).2

block_again : (text rest : List ℕ) → IsBlock text → block_from (block text ++ rest) ≡ Some (text, rest)
unfolding block_from
block_again text rest lt =
    let long : ltb (length (text ++ rest)) (length text) ≡ false = le-ltb _ _ (omega (arith, length-append text rest)) in
    rw (words.again (length text) (text ++ rest) lt, long, take_at text rest (length text) refl, drop_at text rest (length text) refl) refl

pub blocks : Reads block_from block IsBlock
blocks = record { takes = λ bytes x fits e. let t = block_takes bytes x fits e in (t.0, t.1); again = block_again }
