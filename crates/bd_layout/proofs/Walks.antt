-- One object more of a walk.
use Rattle.std.proofs.Common.{◌≡◌, ℕ, ◌+◌, ◌*◌, ◌<◌, ◌≤◌, Bool, true, false, List, [], ◌∷◌, length, drop, Option, Some, None, refl, sym, ap, ◌∙◌, subst, arith}
use Rattle.std.specs.Prelude.{if◌then◌else◌}
use Rattle.std.proofs.lemmas.List.{length-drop}
use Rattle.bd_uapi.specs.Bytes.{long_at}
use Rattle.bd_parcel.specs.Parcels.{offsets_in}
use Rattle.bd_parcel.proofs.Offsets.{offsets_more}
use Rattle.bd_layout.specs.Plans.{Plan, IsNext, object, planned_from}

pub none_stays : (body room : List ℕ) (count i : ℕ) (os : List ℕ) → planned_from body room count i os None ≡ None
none_stays body room count i [] = refl
none_stays body room count i (o ∷ os) = none_stays body room count (i + 1) os

-- the walk from object i on, with that object's outcome
step_planned : (body offsets room : List ℕ) (count i o : ℕ) (s : Plan) → 8 * i + 8 ≤ length offsets → o ≡ long_at (8 * i) offsets
    → planned_from body room count i (offsets_in (drop (8 * i) offsets)) (Some s)
    ≡ planned_from body room count (i + 1) (offsets_in (drop (8 * (i + 1)) offsets)) (object body room count i o s)
step_planned body offsets room count i o s le is =
    let front : offsets_in (drop (8 * i) offsets) ≡ o ∷ offsets_in (drop (8 * (i + 1)) offsets) = offsets_more i offsets le ∙ rw (← is) refl in
    ap (λ (os : List ℕ). planned_from body room count i os (Some s)) front

pub more_planned : (body offsets room : List ℕ) (count i o : ℕ) (s t : Plan) (total : Option Plan) → 8 * i + 8 ≤ length offsets → o ≡ long_at (8 * i) offsets
    → object body room count i o s ≡ Some t → planned_from body room count i (offsets_in (drop (8 * i) offsets)) (Some s) ≡ total
    → planned_from body room count (i + 1) (offsets_in (drop (8 * (i + 1)) offsets)) (Some t) ≡ total
more_planned body offsets room count i o s t total le is more so_far =
    sym (ap (λ (x : Option Plan). planned_from body room count (i + 1) (offsets_in (drop (8 * (i + 1)) offsets)) x) more)
    ∙ sym (step_planned body offsets room count i o s le is) ∙ so_far

pub refused : (body offsets room : List ℕ) (count i o : ℕ) (s : Plan) (total : Option Plan) → 8 * i + 8 ≤ length offsets → o ≡ long_at (8 * i) offsets
    → object body room count i o s ≡ None → planned_from body room count i (offsets_in (drop (8 * i) offsets)) (Some s) ≡ total → None ≡ total
refused body offsets room count i o s total le is none so_far =
    sym (none_stays body room count (i + 1) (offsets_in (drop (8 * (i + 1)) offsets)))
    ∙ sym (ap (λ (x : Option Plan). planned_from body room count (i + 1) (offsets_in (drop (8 * (i + 1)) offsets)) x) none)
    ∙ sym (step_planned body offsets room count i o s le is) ∙ so_far

-- fewer than eight bytes are no offset
short : (xs : List ℕ) → length xs < 8 → offsets_in xs ≡ []
short [] lt = refl
short (a ∷ []) lt = refl
short (a ∷ b ∷ []) lt = refl
short (a ∷ b ∷ c ∷ []) lt = refl
short (a ∷ b ∷ c ∷ d ∷ []) lt = refl
short (a ∷ b ∷ c ∷ d ∷ e ∷ []) lt = refl
short (a ∷ b ∷ c ∷ d ∷ e ∷ f ∷ []) lt = refl
short (a ∷ b ∷ c ∷ d ∷ e ∷ f ∷ g ∷ []) lt = refl
short (a ∷ b ∷ c ∷ d ∷ e ∷ f ∷ g ∷ h ∷ xs) lt = absurd (omega arith)

pub all_planned : (body offsets room : List ℕ) (count i : ℕ) (s : Plan) (total : Option Plan) → length offsets < 8 * i + 8
    → planned_from body room count i (offsets_in (drop (8 * i) offsets)) (Some s) ≡ total → Some s ≡ total
all_planned body offsets room count i s total lt so_far =
    sym (ap (λ (os : List ℕ). planned_from body room count i os (Some s)) (short (drop (8 * i) offsets) (omega (arith, length-drop (8 * i) offsets)))) ∙ so_far

pub is_some : (b : Bool) (s : Plan) (m : Option Plan) → IsNext b s m → b ≡ true → m ≡ Some s
is_some true s m h e = h
is_some false s m h e = absurd cc

pub is_none : (b : Bool) (s : Plan) (m : Option Plan) → IsNext b s m → b ≡ false → m ≡ None
is_none true s m h e = absurd cc
is_none false s m h e = h

-- ---- what holds of all that comes of objects holds of plans

planned_step : (P : Plan → Type 0) (body room : List ℕ) (count i : ℕ) (os : List ℕ) (t : Plan) (m : Option Plan)
    → ((u : Plan) → m ≡ Some u → planned_from body room count (i + 1) os (Some u) ≡ Some t → P t) → planned_from body room count (i + 1) os m ≡ Some t → P t
planned_step P body room count i os t None more e = let none = none_stays body room count (i + 1) os in absurd cc
planned_step P body room count i os t (Some u) more e = more u refl e

pub planned_by : (P : Plan → Type 0) (body room : List ℕ) (count : ℕ)
    → ((i o : ℕ) (s u : Plan) → P s → object body room count i o s ≡ Some u → P u)
    → (i : ℕ) (os : List ℕ) (s t : Plan) → P s → planned_from body room count i os (Some s) ≡ Some t → P t
planned_by P body room count step i [] s t so e = let is : s ≡ t = cc in subst P is so
planned_by P body room count step i (o ∷ os) s t so e =
    planned_step P body room count i os t (object body room count i o s) (λ u h more. planned_by P body room count step (i + 1) os u t (step i o s u so h) more) e

pub whole_plan : (c : Bool) (m : Option Plan) (s : Plan) → (if c then m else None) ≡ Some s → m ≡ Some s
whole_plan true m s e = e
whole_plan false m s e = absurd cc
