-- The driver's variables and the buffers that may be written to say the same.
use Rattle.std.proofs.Common.{◌≡◌, ℕ, ◌+◌, ◌*◌, ◌%◌, ◌<◌, ◌⊎◌, inl, inr, Bool, true, false, List, [], ◌∷◌, ◌++◌, length, Option, Some, None, refl, sym, ap, ◌∙◌, subst, arith}
use Rattle.std.specs.Prelude.{is_some, ◌==◌, ◌&&◌, ◌||◌, nat_le, if◌then◌else◌}
use Rattle.std.proofs.lemmas.Bool.{eqb-true, eq-eqb}
use Rattle.bd_uapi.specs.Bytes.{word_at, long_at}
use Rattle.bd_parcel.specs.Parcels.{offsets_in, is_placed}
use Rattle.bd_layout.specs.declared.buffer.OpenBuffer.{OpenBuffer}
use Rattle.bd_layout.specs.declared.fixup.Fixup.{Fixup}
use Rattle.bd_layout.specs.declared.fixup.Fixup.TheVariants.{Pointer}
use Rattle.bd_layout.specs.Writable.{outward_from, takes, Claim, claimed_first, claimed}
use Rattle.bd_layout.specs.Plans.{Plan, begun, with_buffer, with_fixup, with_claim, pointed, then_writable, pointer, numbers_at, array, object, then_object, planned_from, is_whole, plan_of}
use Rattle.bd_layout.specs.Linux.{Seen, Driver, Level, climb, climb_from, may_take, may_fix, after_pointer, sees_pointer, sees_array, sees, then_sees, sees_all, driver_takes}

-- ---- the way up from the last buffer

abbrev levels_of : List OpenBuffer → List Level
levels_of [] = []
levels_of (b ∷ bs) = (record { index = b.index; length = b.length; least = b.least }) ∷ levels_of bs

abbrev way_up : List Seen → ℕ → ℕ → List Level
way_up [] last least = []
way_up (x ∷ xs) last least =
    if x.index == last then (record { index = last; length = x.length; least = least }) ∷ (if x.has_parent then way_up xs x.parent (x.offset + 8) else [])
    else way_up xs last least

abbrev way_from : List Seen → Option ℕ → ℕ → List Level
way_from seen None least = []
way_from seen (Some last) least = way_up seen last least

abbrev from_level : ℕ → List Level → List Level
from_level p [] = []
from_level p (l ∷ ls) = if l.index == p then l ∷ ls else from_level p ls

abbrev first_of : List Level → Option Level
first_of [] = None
first_of (l ∷ ls) = Some l

-- each is older than the one before it
abbrev Fall : ℕ → List Seen → Type 0
Fall n [] = Unit {0}
Fall n (x ∷ xs) = (x.index < n) × Fall x.index xs

fall_more : (n m : ℕ) (seen : List Seen) → n < m → Fall n seen → Fall m seen
fall_more n m [] lt f = tt
fall_more n m (x ∷ xs) lt f = (omega (arith, f.0, lt), f.1)

-- ---- the climb finds the first level of that way

either : (c : Bool) (x y : Option Level) (m n : List Level) (p : ℕ) → x ≡ first_of (from_level p m) → y ≡ first_of (from_level p n)
    → (if c then x else y) ≡ first_of (from_level p (if c then m else n))
either true x y m n p a b = a
either false x y m n p a b = b

here : (c : Bool) (l : Level) (ls : List Level) (x : Option Level) (p : ℕ) → x ≡ first_of (from_level p ls) → (if c then Some l else x) ≡ first_of (if c then l ∷ ls else from_level p ls)
here true l ls x p e = refl
here false l ls x p e = e

climb_is : (seen : List Seen) (last least p : ℕ) → climb seen last least p ≡ first_of (from_level p (way_up seen last least))
climb_is [] last least p = refl
climb_is (x ∷ xs) last least p =
    let l : Level = record { index = last; length = x.length; least = least } in
    let ls : List Level = if x.has_parent then way_up xs x.parent (x.offset + 8) else [] in
    let up : Option Level = if x.has_parent then climb xs x.parent (x.offset + 8) p else None in
    either (x.index == last) (if last == p then Some l else up) (climb xs last least p) (l ∷ ls) (way_up xs last least) p
    (here (last == p) l ls up p (either x.has_parent (climb xs x.parent (x.offset + 8) p) None (way_up xs x.parent (x.offset + 8)) [] p (climb_is xs x.parent (x.offset + 8) p) refl))
    (climb_is xs last least p)

climb_from_is : (seen : List Seen) (last : Option ℕ) (least p : ℕ) → climb_from seen last least p ≡ first_of (from_level p (way_from seen last least))
climb_from_is seen None least p = refl
climb_from_is seen (Some last) least p = climb_is seen last least p

levels_if : (c : Bool) (a b : List OpenBuffer) (m n : List Level) → levels_of a ≡ m → levels_of b ≡ n → levels_of (if c then a else b) ≡ (if c then m else n)
levels_if true a b m n x y = x
levels_if false a b m n x y = y

levels_outward : (p : ℕ) (bs : List OpenBuffer) → levels_of (outward_from p bs) ≡ from_level p (levels_of bs)
levels_outward p [] = refl
levels_outward p (b ∷ bs) =
    levels_if (b.index == p) (b ∷ bs) (outward_from p bs) ((record { index = b.index; length = b.length; least = b.least }) ∷ levels_of bs) (from_level p (levels_of bs)) refl (levels_outward p bs)

-- ---- from a level of the way the way goes on as before

abbrev with_least : ℕ → Level → Level
with_least m l = record { index = l.index; length = l.length; least = m }

older : (seen : List Seen) (n p m : ℕ) (l : Level) (ls : List Level) → Fall n seen → way_up seen p m ≡ l ∷ ls → p < n
older [] n p m l ls f e = absurd cc
older (x ∷ xs) n p m l ls f e = by (x.index == p) refl (λ rest. older xs x.index p m l ls f.1 rest) e
  where
    by : (c : Bool) → (x.index == p) ≡ c → (way_up xs p m ≡ l ∷ ls → p < x.index)
        → (if c then (record { index = p; length = x.length; least = m }) ∷ (if x.has_parent then way_up xs x.parent (x.offset + 8) else []) else way_up xs p m) ≡ l ∷ ls → p < n
    by true is later h = let same = eqb-true x.index p is in omega (arith, same, f.0)
    by false is later h = let lt = later h in omega (arith, lt, f.0)

not_here : (x p : ℕ) → p < x → (x == p) ≡ false
not_here x p lt = by (x == p) refl
  where
    by : (c : Bool) → (x == p) ≡ c → (x == p) ≡ false
    by true is = let same = eqb-true x p is in absurd (omega (arith, same, lt))
    by false is = is

skip : (x : Seen) (xs : List Seen) (p m : ℕ) (to : List Level) → (x.index == p) ≡ false → way_up xs p m ≡ to → way_up (x ∷ xs) p m ≡ to
skip x xs p m to apart e = rw apart e

not_both : (a b c : ℕ) → (a == b) ≡ true → (b == c) ≡ false → (a == c) ≡ false
not_both a b c is apart = let same = eqb-true a b is in rw same apart

goes_on : (seen : List Seen) (n last least p m : ℕ) (l : Level) (ls : List Level) → Fall n seen → from_level p (way_up seen last least) ≡ l ∷ ls → way_up seen p m ≡ with_least m l ∷ ls
goes_on [] n last least p m l ls f e = absurd cc
goes_on (x ∷ xs) n last least p m l ls f e = by (x.index == last) refl (λ h. goes_on xs x.index last least p m l ls f.1 h) (λ h. goes_on xs x.index x.parent (x.offset + 8) p m l ls f.1 h) e
  where
    rest : List Level
    rest = if x.has_parent then way_up xs x.parent (x.offset + 8) else []

    own : ℕ → ℕ → Level
    own i k = record { index = i; length = x.length; least = k }

    inside : (c : Bool) → (from_level p (way_up xs x.parent (x.offset + 8)) ≡ l ∷ ls → way_up xs p m ≡ with_least m l ∷ ls)
        → from_level p (if c then way_up xs x.parent (x.offset + 8) else []) ≡ l ∷ ls → way_up xs p m ≡ with_least m l ∷ ls
    inside true up h = up h
    inside false up h = absurd cc

    at : (d : Bool) → (last == p) ≡ d → (x.index == last) ≡ true → (from_level p (way_up xs x.parent (x.offset + 8)) ≡ l ∷ ls → way_up xs p m ≡ with_least m l ∷ ls)
        → (if d then own last least ∷ rest else from_level p rest) ≡ l ∷ ls → way_up (x ∷ xs) p m ≡ with_least m l ∷ ls
    at true is here' up h =
        let same : last ≡ p = eqb-true last p is in
        let it : x.index ≡ p = eqb-true x.index last here' ∙ same in
        let first : own last least ≡ l = cc in
        let tail : rest ≡ ls = cc in
        let named : own p m ≡ with_least m l = ap (λ (k : ℕ). own k m) (sym same) ∙ ap (with_least m) first in
        rw (eq-eqb x.index p it) (ap (λ (k : Level). k ∷ rest) named ∙ ap (λ (ks : List Level). with_least m l ∷ ks) tail)
    at false is here' up h = skip x xs p m (with_least m l ∷ ls) (not_both x.index last p here' is) (inside x.has_parent up h)

    by : (c : Bool) → (x.index == last) ≡ c → (from_level p (way_up xs last least) ≡ l ∷ ls → way_up xs p m ≡ with_least m l ∷ ls)
        → (from_level p (way_up xs x.parent (x.offset + 8)) ≡ l ∷ ls → way_up xs p m ≡ with_least m l ∷ ls)
        → from_level p (if c then own last least ∷ rest else way_up xs last least) ≡ l ∷ ls → way_up (x ∷ xs) p m ≡ with_least m l ∷ ls
    by true is later up h = at (last == p) refl is up h
    by false is later up h =
        let there = later h in
        skip x xs p m (with_least m l ∷ ls) (not_here x.index p (older xs x.index p m (with_least m l) ls f.1 there)) there

goes_on_from : (seen : List Seen) (n : ℕ) (last : Option ℕ) (least p m : ℕ) (l : Level) (ls : List Level) → Fall n seen → from_level p (way_from seen last least) ≡ l ∷ ls → way_up seen p m ≡ with_least m l ∷ ls
goes_on_from seen n None least p m l ls f e = absurd cc
goes_on_from seen n (Some last) least p m l ls f e = goes_on seen n last least p m l ls f e

-- ---- claims

-- both find no place
record Neither (parent offset size : ℕ) (ws : List OpenBuffer) (d : Driver) : Type 0 where
  pub none : claimed parent offset size ws ≡ None
  pub no : may_fix parent offset size d ≡ false

-- both find one, and the way up is alike after that
record Both (parent offset size : ℕ) (ws : List OpenBuffer) (d : Driver) : Type 0 where
  pub claim : Claim
  pub some : claimed parent offset size ws ≡ Some claim
  pub yes : may_fix parent offset size d ≡ true
  pub way : levels_of claim.writable ≡ way_up d.seen parent (offset + size)

claim_alike : (n parent offset size : ℕ) (ws : List OpenBuffer) (d : Driver) → levels_of ws ≡ way_from d.seen d.last d.least → Fall n d.seen
    → Neither parent offset size ws d ⊎ Both parent offset size ws d
claim_alike n parent offset size ws d same f = at (outward_from parent ws) refl
  where
    found : (os : List OpenBuffer) → outward_from parent ws ≡ os → from_level parent (way_from d.seen d.last d.least) ≡ levels_of os
    found os e = sym (ap (from_level parent) same) ∙ sym (levels_outward parent ws) ∙ ap levels_of e

    climbs : (os : List OpenBuffer) → outward_from parent ws ≡ os → may_fix parent offset size d ≡ may_take offset size (first_of (levels_of os))
    climbs os e = ap (may_take offset size) (climb_from_is d.seen d.last d.least parent ∙ ap first_of (found os e))

    claims : (os : List OpenBuffer) → outward_from parent ws ≡ os → claimed parent offset size ws ≡ claimed_first offset size os
    claims os e = ap (claimed_first offset size) e

    into : (b : OpenBuffer) (bs : List OpenBuffer) → outward_from parent ws ≡ b ∷ bs → (c : Bool) → takes offset size b ≡ c → Neither parent offset size ws d ⊎ Both parent offset size ws d
    into b bs e true is = inr (record {
      claim = record { place = b.place; writable = (record b { least = offset + size }) ∷ bs };
      some = claims (b ∷ bs) e ∙ rw is refl;
      yes = climbs (b ∷ bs) e ∙ is;
      way = sym (goes_on_from d.seen n d.last d.least parent (offset + size) (record { index = b.index; length = b.length; least = b.least }) (levels_of bs) f (found (b ∷ bs) e));
    })
    into b bs e false is = inl (record { none = claims (b ∷ bs) e ∙ rw is refl; no = climbs (b ∷ bs) e ∙ is })

    at : (os : List OpenBuffer) → outward_from parent ws ≡ os → Neither parent offset size ws d ⊎ Both parent offset size ws d
    at [] e = inl (record { none = claims [] e; no = climbs [] e })
    at (b ∷ bs) e = into b bs e (takes offset size b) refl

-- ---- plans and drivers

-- what both have of the objects below n
record Alike (n : ℕ) (s : Plan) (d : Driver) : Type 0 where
  pub reach : d.reach ≡ s.reach
  pub used : d.used ≡ s.used
  pub taken : d.taken ≡ s.taken
  pub way : levels_of s.writable ≡ way_from d.seen d.last d.least
  pub fall : Fall n d.seen

AreAlike : ℕ → Option Plan → Option Driver → Type 0
AreAlike n None None = Unit {0}
AreAlike n (Some s) (Some d) = Alike n s d
AreAlike n None (Some d) = ⊥
AreAlike n (Some s) None = ⊥

none_alike : (n : ℕ) → AreAlike n None None
unfolding AreAlike
none_alike n = tt

some_alike : (n : ℕ) (s : Plan) (d : Driver) → Alike n s d → AreAlike n (Some s) (Some d)
unfolding AreAlike
some_alike n s d a = a

alike_if : (n : ℕ) (c : Bool) (m : Option Plan) (k : Option Driver) → (c ≡ true → AreAlike n m k) → AreAlike n (if c then m else None) (if c then k else None)
alike_if n true m k a = a refl
alike_if n false m k a = none_alike n

alike_either : (n : ℕ) (c : Bool) (m m' : Option Plan) (k k' : Option Driver) → (c ≡ true → AreAlike n m k) → (c ≡ false → AreAlike n m' k') → AreAlike n (if c then m else m') (if c then k else k')
alike_either n true m m' k k' a b = a refl
alike_either n false m m' k k' a b = b refl

-- a claim, whatever comes of it
alike_claim : (n parent offset size : ℕ) (ws : List OpenBuffer) (d d' : Driver) (f : ℕ → List Fixup) (s : Plan) (m : Option Claim → Option Plan)
    → Neither parent offset size ws d ⊎ Both parent offset size ws d → (m None ≡ None)
    → ((c : Claim) → levels_of c.writable ≡ way_up d.seen parent (offset + size) → AreAlike n (m (Some c)) (Some d'))
    → AreAlike n (m (claimed parent offset size ws)) (if may_fix parent offset size d then Some d' else None)
alike_claim n parent offset size ws d d' f s m (inl x) none some = rw (x.none, x.no, none) (none_alike n)
alike_claim n parent offset size ws d d' f s m (inr x) none some = rw (x.some, x.yes) (some x.claim x.way)

-- ---- objects

module _ (body room : List ℕ) (count i o : ℕ) (s : Plan) (seen : List Seen) (last : Option ℕ) (least : ℕ) (way : levels_of s.writable ≡ way_from seen last least) (falls : Fall i seen) where
  abbrev driver : Driver
  driver = record { reach = s.reach; used = s.used; taken = s.taken; seen = seen; last = last; least = least }

  abbrev n : ℕ
  n = long_at (o + 16) body

  abbrev has_parent : Bool
  has_parent = word_at (o + 4) body % 2 == 1

  abbrev parent : ℕ
  parent = long_at (o + 24) body

  abbrev offset : ℕ
  offset = long_at (o + 32) body

  abbrev own : OpenBuffer
  own = record { index = i; place = length s.bytes; length = n; least = 0 }

  abbrev with_own : Plan
  with_own = with_fixup (Pointer (o + 8) (length s.bytes)) (with_buffer n room (record s { reach = o + 40 }))

  still_falls : Fall (i + 1) seen
  still_falls = fall_more i (i + 1) seen (omega arith) falls

  -- the newest object is on the way, unless it lies at 0
  own_way : (hp : Bool) (ws : List OpenBuffer) → levels_of ws ≡ (if hp then way_up seen parent (offset + 8) else [])
      → levels_of (if o == 0 then [] else own ∷ ws)
      ≡ way_from ((record { index = i; length = n; has_parent = hp; parent = parent; offset = offset }) ∷ seen) (if o == 0 then None else Some i) 0
  own_way hp ws rest = by (o == 0)
    where
      by : (c : Bool) → levels_of (if c then [] else own ∷ ws)
          ≡ way_from ((record { index = i; length = n; has_parent = hp; parent = parent; offset = offset }) ∷ seen) (if c then None else Some i) 0
      by true = refl
      by false = rw (eq-eqb i i refl, rest) refl

  own_alike : (hp : Bool) (ws : List OpenBuffer) (fixups : List Fixup) → levels_of ws ≡ (if hp then way_up seen parent (offset + 8) else [])
      → Alike (i + 1) (record with_own { writable = if o == 0 then [] else own ∷ ws; fixups = fixups }) (after_pointer i o n hp parent offset driver)
  own_alike hp ws fixups rest = record { reach = refl; used = refl; taken = refl; way = own_way hp ws rest; fall = (omega arith, falls) }

  pointed_alike : (hp : Bool) → AreAlike (i + 1) (then_writable o own (pointed hp parent offset (length s.bytes) with_own))
      (if hp then (if offset % 4 == 0 then (if may_fix parent offset 8 driver then Some (after_pointer i o n hp parent offset driver) else None) else None)
      else Some (after_pointer i o n hp parent offset driver))
  pointed_alike false = some_alike (i + 1) _ _ (own_alike false [] with_own.fixups refl)
  pointed_alike true = by (offset % 4 == 0)
    where
      f : ℕ → List Fixup
      f = λ place. Pointer (place + offset) (length s.bytes) ∷ []

      by : (c : Bool) → AreAlike (i + 1) (then_writable o own (if c then with_claim (claimed parent offset 8 s.writable) f with_own else None))
          (if c then (if may_fix parent offset 8 driver then Some (after_pointer i o n true parent offset driver) else None) else None)
      by false = none_alike (i + 1)
      by true = alike_claim (i + 1) parent offset 8 s.writable driver (after_pointer i o n true parent offset driver) f with_own (λ x. then_writable o own (with_claim x f with_own))
          (claim_alike i parent offset 8 s.writable driver way falls) refl (λ c up. some_alike (i + 1) _ _ (own_alike true c.writable (with_own.fixups ++ f c.place) up))

  pointer_alike : AreAlike (i + 1) (pointer body room i o (record s { reach = o + 40 })) (sees_pointer i o n has_parent parent offset room driver)
  pointer_alike = alike_if (i + 1) (nat_le (s.used + n) (length room)) _ _ (λ _. pointed_alike has_parent)

  array_alike : (k p at : ℕ) → AreAlike (i + 1) (array k p at count (record s { reach = o + 32 })) (sees_array o k p at count driver)
  array_alike k p at = alike_if (i + 1) (nat_le (s.taken + k) count && (k == 0 || at % 4 == 0)) _ _ (λ _.
      alike_claim (i + 1) p at (4 * k) s.writable driver (record driver { reach = o + 32; taken = s.taken + k; last = Some p; least = at + 4 * k })
      (λ place. numbers_at (place + at) k) (record s { reach = o + 32; taken = s.taken + k }) (λ x. with_claim x (λ place. numbers_at (place + at) k) (record s { reach = o + 32; taken = s.taken + k }))
      (claim_alike i p at (4 * k) s.writable driver way falls) refl
      (λ c up. some_alike (i + 1) _ _ (record { reach = refl; used = refl; taken = refl; way = up; fall = still_falls })))

  placed_alike : AreAlike (i + 1) (object body room count i o s) (sees body room count i o driver)
  placed_alike = alike_if (i + 1) (is_placed body s.reach o) _ _ (λ _.
      alike_either (i + 1) (word_at o body == 0x70742a85) _ _ _ _
      (λ _. alike_if (i + 1) (nat_le (o + 40) (length body)) _ _ (λ _. pointer_alike))
      (λ _. alike_either (i + 1) (word_at o body == 0x66646185) _ _ _ _
      (λ _. alike_if (i + 1) (nat_le (o + 32) (length body)) _ _ (λ _. array_alike (long_at (o + 8) body) (long_at (o + 16) body) (long_at (o + 24) body)))
      (λ _. alike_either (i + 1) (word_at o body == 0x66642a85) _ _ _ _
      (λ _. alike_if (i + 1) (nat_le (s.taken + 1) count) _ _ (λ _. some_alike (i + 1) _ _ (record { reach = refl; used = refl; taken = refl; way = way; fall = still_falls })))
      (λ _. some_alike (i + 1) _ _ (record { reach = refl; used = refl; taken = refl; way = way; fall = still_falls })))))

object_alike : (body room : List ℕ) (count i o : ℕ) (s : Plan) (d : Driver) → Alike i s d → AreAlike (i + 1) (object body room count i o s) (sees body room count i o d)
object_alike body room count i o s d a =
    let placed = placed_alike body room count i o s d.seen d.last d.least a.way a.fall in
    let one = subst (λ (r : ℕ). AreAlike (i + 1) (object body room count i o s) (sees body room count i o (record { reach = r; used = s.used; taken = s.taken; seen = d.seen; last = d.last; least = d.least }))) (sym a.reach) placed in
    let two = subst (λ (r : ℕ). AreAlike (i + 1) (object body room count i o s) (sees body room count i o (record { reach = d.reach; used = r; taken = s.taken; seen = d.seen; last = d.last; least = d.least }))) (sym a.used) one in
    subst (λ (r : ℕ). AreAlike (i + 1) (object body room count i o s) (sees body room count i o (record { reach = d.reach; used = d.used; taken = r; seen = d.seen; last = d.last; least = d.least }))) (sym a.taken) two

-- ---- parcels

next_alike : (body room : List ℕ) (count i o : ℕ) (m : Option Plan) (k : Option Driver) → AreAlike i m k → AreAlike (i + 1) (then_object body room count i o m) (then_sees body room count i o k)
unfolding AreAlike
next_alike body room count i o None None a = none_alike (i + 1)
next_alike body room count i o (Some s) (Some d) a = object_alike body room count i o s d a
next_alike body room count i o None (Some d) a = absurd a
next_alike body room count i o (Some s) None a = absurd a

as_many : (n : ℕ) (m : Option Plan) (k : Option Driver) → AreAlike n m k → is_some m ≡ is_some k
unfolding AreAlike
as_many n None None a = refl
as_many n (Some s) (Some d) a = refl
as_many n None (Some d) a = absurd a
as_many n (Some s) None a = absurd a

all_alike : (body room : List ℕ) (count i : ℕ) (os : List ℕ) (m : Option Plan) (k : Option Driver) → AreAlike i m k → is_some (planned_from body room count i os m) ≡ is_some (sees_all body room count i os k)
all_alike body room count i [] m k a = as_many i m k a
all_alike body room count i (o ∷ os) m k a = all_alike body room count (i + 1) os (then_object body room count i o m) (then_sees body room count i o k) (next_alike body room count i o m k a)

whole_alike : (c : Bool) (m : Option Plan) (b : Bool) → is_some m ≡ b → is_some (if c then m else None) ≡ (c && b)
whole_alike true m b e = e
whole_alike false m b e = refl

pub takes_the_same : (body offsets room : List ℕ) (count : ℕ) → is_some (plan_of body offsets room count) ≡ driver_takes body offsets room count
takes_the_same body offsets room count =
    whole_alike (is_whole offsets room) (planned_from body room count 0 (offsets_in offsets) (Some (begun body offsets)))
    (is_some (sees_all body room count 0 (offsets_in offsets) (Some (record { reach = 0; used = 0; taken = 0; seen = []; last = None; least = 0 }))))
    (all_alike body room count 0 (offsets_in offsets) (Some (begun body offsets)) (Some (record { reach = 0; used = 0; taken = 0; seen = []; last = None; least = 0 }))
    (some_alike 0 (begun body offsets) (record { reach = 0; used = 0; taken = 0; seen = []; last = None; least = 0 }) (record { reach = refl; used = refl; taken = refl; way = refl; fall = tt })))
