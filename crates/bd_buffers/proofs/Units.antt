-- What is free of a window, by bytes and by units of eight.
use Rattle.bd_buffers.proofs.Words.{All, All-cons, All-weaker, AllPairs, AllPass-from_list_all, Begins, Bool, Buffer, Covered, IsApart, IsFree, IsHoles, IsIn, IsLeastFree, IsLeastRun, IsOut, IsPlaced, IsRun, IsWindow, IsWithout, List, None, Some, Spaced, Spans, Tiles, and-false, and-true, and_assoc, arith}
use Rattle.bd_buffers.proofs.Words.{begins_of_least, cases_Bool, changed, common_steps, false, get_or, hand_out, in_bytes, in_or_out, inl, inr, is_free_byte, is_free_unit, is_in, is_in_false, is_in_true, length, list_all, list_all-from_AllPass, map, not, pairs_head, pairs_tail, refl, remove, start_in, suc, sym}
use Rattle.bd_buffers.proofs.Words.{tiles_same, true, with_span, without, zero, ℕ, [], ◌%◌, ◌&&◌, ◌*◌, ◌++◌, ◌+◌, ◌-◌, ◌/◌, ◌<◌, ◌∷◌, ◌≡◌, ◌≤◌}
use Rattle.bd_buffers.proofs.Places.{no_start_at, start_at}
use Rattle.bd_ground.specs.Holes as units

-- ---- a byte that no buffer has

abbrev pub IsOutOf : ℕ → Buffer → Type 0
IsOutOf q b = IsOut b.start b.size q

pub free_out : (bs : List Buffer) (q : ℕ) → is_free_byte bs q ≡ true → All (IsOutOf q) bs
free_out bs q t = search (arith, All-weaker, AllPass-from_list_all)

pub out_free : (bs : List Buffer) (q : ℕ) → All (IsOutOf q) bs → is_free_byte bs q ≡ true
out_free bs q all = search (arith, list_all-from_AllPass, All-weaker)

-- a buffer has all of a unit or nothing
pub to_byte : (size q : ℕ) (b : Buffer) → IsPlaced size b → IsOutOf (8 * (q / 8)) b → IsOutOf q b
to_byte size q b is out = search arith

pub to_unit : (size q : ℕ) (b : Buffer) → IsPlaced size b → IsOutOf q b → IsOutOf (8 * (q / 8)) b
to_unit size q b is out = search arith

unit_in : (size u : ℕ) (b : Buffer) → IsPlaced size b → is_in (b.start / 8) (b.size / 8) u ≡ is_in b.start b.size (8 * u)
unit_in size u b is = search arith

-- ---- room

pub filled : (size : ℕ) (b : Buffer) → IsPlaced size b → 8 ≤ b.size
filled size b is = omega arith

-- bytes that are free keep a span apart from a buffer
apart_from : (n s : ℕ) (b : Buffer) → 0 < n → 0 < b.size → ((q : ℕ) → s ≤ q → q < s + n → IsOutOf q b) → IsApart s n b
apart_from n s b pos filled free = let at = free s in let from = free b.start in grind arith

module _ (size m : ℕ) (bs : List Buffer) (whole : size ≡ 8 * m) (placed : All (IsPlaced size) bs) where
  -- a run of free units is room for as many bytes
  run_is_free : (n k : ℕ) → 0 < n → IsRun (is_free_unit bs) m n k → IsFree size bs (8 * n) (8 * k)
  run_is_free n k pos run = record {
    aligned = omega arith;
    inside = omega (arith, whole);
    free = λ i d lt. (let b = get_or bs i d in let is = placed i d lt in
        apart_from (8 * n) (8 * k) b (omega (arith, pos)) (omega (arith, filled size b is)) (λ q a c.
        to_byte size q b is (free_out bs (8 * (q / 8)) (run.all_free (q / 8) (omega (arith, a)) (omega (arith, c))) i d lt)));
  }

  free_is_run : (n k : ℕ) → IsFree size bs (8 * n) (8 * k) → IsRun (is_free_unit bs) m n k
  free_is_run n k room = grind (arith, out_free)

  at_whole : (n q : ℕ) → IsFree size bs n q → IsFree size bs n (8 * (q / 8))
  at_whole n q room = search arith

  least_in_bytes : (n k : ℕ) → 0 < n → IsLeastRun (is_free_unit bs) m n k → IsLeastFree size bs (8 * n) (8 * k)
  least_in_bytes n k pos is =
      record { room = run_is_free n k pos is.run; least = λ q room. (let le = is.least (q / 8) (free_is_run n (q / 8) (at_whole (8 * n) q room)) in omega (arith, le)) }

  least_in_units : (n k : ℕ) → 0 < n → IsLeastFree size bs (8 * n) (8 * k) → IsLeastRun (is_free_unit bs) m n k
  least_in_units n k pos is = record { run = free_is_run n k is.room; least = λ q run. (let le = is.least (8 * q) (run_is_free n q pos run) in omega (arith, le)) }

  -- where the least run begins, there is the place
  pub start_found : (n k : ℕ) → 8 ≤ n → n % 8 ≡ 0 → IsLeastRun (is_free_unit bs) m (n / 8) k → Some (k * 8) ≡ start_in size bs n
  start_found n k full aligned is =
      let same : 8 * (n / 8) ≡ n = omega (arith, aligned) in
      let there = start_at size bs n (8 * k) _ refl full (rw same at (least_in_bytes (n / 8) k (omega (arith, full)) is)) in
      grind arith

  pub start_missed : (n : ℕ) → n % 8 ≡ 0 → ((p : ℕ) → IsRun (is_free_unit bs) m (n / 8) p → ⊥) → None ≡ start_in size bs n
  start_missed n aligned none =
      let same : n ≡ 8 * (n / 8) = omega (arith, aligned) in
      sym (no_start_at size bs n _ refl (λ p room. none (p / 8) (free_is_run (n / 8) (p / 8) (rw same at (at_whole n p room)))))

  -- and there a hole begins that has the room, or the tail
  pub begins_there : (t : Spans) (n p : ℕ) → t.size ≡ m → Tiles (is_free_unit bs) t → 8 ≤ n → n % 8 ≡ 0 → IsLeastFree size bs n p → Begins t (n / 8) (p / 8)
  begins_there t n p e tiles full aligned is =
      let room : n ≡ 8 * (n / 8) = omega (arith, aligned) in
      let place : p ≡ 8 * (p / 8) = omega arith in
      let least = least_in_units (n / 8) (p / 8) (omega (arith, full)) (rw (← room, ← place) is) in
      begins_of_least (is_free_unit bs) t tiles (n / 8) (p / 8) (omega (arith, full)) (rw e least)

-- ---- one buffer more

free_more : (bs : List Buffer) (b : Buffer) (q : ℕ) → is_free_byte bs q && not (is_in b.start b.size q) ≡ is_free_byte (bs ++ b ∷ []) q
free_more [] b q = sym (and-true (not (is_in b.start b.size q)))
free_more (x ∷ bs) b q = grind (arith, and_assoc, free_more bs b q)

pub tiles_more : (size : ℕ) (bs : List Buffer) (b : Buffer) (t : Spans) → IsPlaced size b → Tiles (without (b.start / 8) (b.size / 8) (is_free_unit bs)) t → Tiles (is_free_unit (bs ++ b ∷ [])) t
tiles_more size bs b t is tiles = grind (arith, common_steps, tiles_same, unit_in, free_more)

-- ---- one less

-- what all others have towards the one at an index
others : {A : Type 0} (R : A → A → Type 0) → ((x y : A) → R x y → R y x) → (xs : List A) (i : ℕ) (x : A) → i < length xs → ((d : A) → x ≡ get_or xs i d) → AllPairs R xs → All (R x) (remove xs i)
others R turned [] i x lt at pairs = absurd (omega arith)
others R turned (y ∷ xs) zero x lt at pairs = rw (at x) (pairs_head R y xs pairs)
others R turned (y ∷ xs) (suc i) x lt at pairs =
    All-cons (R x) y (remove xs i) (turned y x (rw (at x) (pairs_head R y xs pairs i x (omega arith)))) (others R turned xs i x (omega arith) at (pairs_tail R y xs pairs))

-- a byte of one buffer is of no other
others_out : (size i q : ℕ) (bs : List Buffer) (b : Buffer) → IsWindow size bs → i < length bs → ((d : Buffer) → b ≡ get_or bs i d) → IsIn b.start b.size q → All (IsOutOf q) (remove bs i)
others_out size i q bs b is lt at own =
    All-weaker (λ x. IsApart x.start x.size b) (IsOutOf q) (λ x apart. elim apart [ inl far ↦ inr (omega (arith, far, own.1)) | inr far ↦ inl (omega (arith, far, own.0)) ]) (remove bs i)
    (others (λ x y. IsApart y.start y.size x) (λ x y apart. elim apart [ inl far ↦ inr far | inr far ↦ inl far ]) bs i b lt at is.apart)

-- all pass where the one at an index does, and all others
all_removed : {A : Type 0} (p : A → Bool) (xs : List A) (i : ℕ) (d : A) → i < length xs → list_all p xs ≡ (p (get_or xs i d) && list_all p (remove xs i))
all_removed p [] i d lt = absurd (omega arith)
all_removed p (x ∷ xs) i d lt = let rest = all_removed p xs in grind (arith, and-false)

free_less : (size u : ℕ) (b : Buffer) (bs new : List Buffer) → IsWindow size bs → IsWithout b bs new → with_span (b.start / 8) (b.size / 8) (is_free_unit bs) u ≡ is_free_unit new u
free_less size u b bs new window gone =
    let placed : IsPlaced size b = rw (gone.at b) (window.placed gone.index b gone.within) in
    let both = all_removed (λ x. not (is_in x.start x.size (8 * u))) bs gone.index b gone.within in
    let in_unit = unit_in size u b placed in let here = gone.at b in let rest = gone.left in
    elim (in_or_out b.start b.size (8 * u)) [
      | inl own ↦ (
          let all = out_free (remove bs gone.index) (8 * u) (others_out size gone.index (8 * u) bs b window gone.within gone.at own) in
          let t = is_in_true b.start b.size (8 * u) own in
          grind arith)
      | inr out ↦ (let t = is_in_false b.start b.size (8 * u) out in grind arith)
    ]

pub tiles_less : (size : ℕ) (b : Buffer) (bs new : List Buffer) (t : Spans) → IsWindow size bs → IsWithout b bs new → Tiles (with_span (b.start / 8) (b.size / 8) (is_free_unit bs)) t → Tiles (is_free_unit new) t
tiles_less size b bs new t window gone tiles = search (arith, tiles_same, free_less)

-- none of a buffer's units is free
pub taken_units : (size u : ℕ) (b : Buffer) (bs new : List Buffer) → IsWindow size bs → IsWithout b bs new → b.start / 8 ≤ u → u < b.start / 8 + b.size / 8 → is_free_unit bs u ≡ false
taken_units size u b bs new window gone from to = grind (arith, cases_Bool, free_out)

-- so they lie before the tail
pub before_tail : (size : ℕ) (b : Buffer) (bs new : List Buffer) (t : Spans) → IsWindow size bs → IsWithout b bs new → Tiles (is_free_unit bs) t → b.start / 8 + b.size / 8 ≤ t.tail
before_tail size b bs new t window gone tiles =
    let full = filled size b (rw (gone.at b) (window.placed gone.index b gone.within)) in
    let taken = taken_units size (b.start / 8 + b.size / 8 - 1) b bs new window gone in
    let behind = tiles.behind (b.start / 8 + b.size / 8 - 1) in grind arith

-- ---- one handed out

free_handed : (p : Buffer → Bool) (bs : List Buffer) (q : ℕ) → is_free_byte bs q ≡ is_free_byte (changed p hand_out bs) q
free_handed p [] q = refl
free_handed p (x ∷ bs) q = grind (arith, free_handed p bs q)

pub tiles_handed : (p : Buffer → Bool) (bs : List Buffer) (t : Spans) → Tiles (is_free_unit bs) t → Tiles (is_free_unit (changed p hand_out bs)) t
tiles_handed p bs t tiles = tiles_same (is_free_unit bs) (is_free_unit (changed p hand_out bs)) t (λ u. free_handed p bs (8 * u)) tiles

-- ---- the holes

low_below : (tail low : ℕ) (hs : List units.Hole) → units.Spaced tail low hs → low ≤ tail
low_below tail low [] sp = sp
low_below tail low (h ∷ hs) sp = let rest = low_below tail (h.end + 1) hs sp.2 in omega (arith, sp.0, sp.1, rest)

spaced_bytes : (tail low from : ℕ) (hs : List units.Hole) → units.Spaced tail low hs → from ≤ 8 * low → Spaced (8 * tail) from (map in_bytes hs)
spaced_bytes tail low from [] sp le = grind arith
spaced_bytes tail low from (h ∷ hs) sp le = let rest = spaced_bytes tail (h.end + 1) (8 * h.end + 1) hs in grind arith

module _ (size m tail : ℕ) (whole : size ≡ 8 * m) where
  covered_unit : (hs : List units.Hole) (q : ℕ) → Covered size (8 * tail) (map in_bytes hs) q → units.Covered m tail hs (q / 8)
  covered_unit [] q c = (omega (arith, c.0), omega (arith, c.1, whole))
  covered_unit (h ∷ hs) q c = elim c [ inl here ↦ inl (omega (arith, here.0), omega (arith, here.1)) | inr there ↦ inr (covered_unit hs q there) ]

  covered_byte : (hs : List units.Hole) (q : ℕ) → units.Covered m tail hs (q / 8) → Covered size (8 * tail) (map in_bytes hs) q
  covered_byte [] q c = (omega (arith, c.0), omega (arith, c.1, whole))
  covered_byte (h ∷ hs) q c = elim c [ inl here ↦ inl (omega (arith, here.0), omega (arith, here.1)) | inr there ↦ inr (covered_byte hs q there) ]

  covered_inside : (low : ℕ) (hs : List units.Hole) (u : ℕ) → units.Spaced tail low hs → tail ≤ m → units.Covered m tail hs u → u < m
  covered_inside low [] u sp le c = c.1
  covered_inside low (h ∷ hs) u sp le c = let up = low_below tail (h.end + 1) hs in let rest = covered_inside (h.end + 1) hs u in grind arith

  -- the holes of the free units are those of the bytes that no buffer has
  pub holes_are : (bs : List Buffer) (hs : List units.Hole) → All (IsPlaced size) bs → units.AreHoles (is_free_unit bs) m tail hs → IsHoles size bs (8 * tail) (map in_bytes hs)
  holes_are bs hs placed is = grind (arith, spaced_bytes, covered_unit, covered_inside, free_out, to_byte, out_free, to_unit, covered_byte)
