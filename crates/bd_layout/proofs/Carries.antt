-- A parcel that is laid out has what was sent.
use Rattle.std.proofs.Common.{◌≡◌, ℕ, ◌+◌, Bool, true, false, List, [], ◌∷◌, ◌++◌, take, drop, Option, Some, None, refl, sym, ap, ◌∙◌, append_assoc}
use Rattle.std.specs.Prelude.{◌==◌, if◌then◌else◌}
use Rattle.std.proofs.lemmas.List.{append-nil}
use Rattle.bd_uapi.specs.Bytes.{word_at, long_at}
use Rattle.bd_parcel.specs.Parcels.{offsets_in}
use Rattle.bd_layout.specs.Plans.{Plan, padding, aligned, begun, object, planned_from, is_whole, plan_of}
use Rattle.bd_layout.specs.Carried.{own_bytes}
use Rattle.bd_layout.proofs.Walks.{none_stays, whole_plan}
use Rattle.bd_layout.proofs.Objects.{by_object}

-- what an object adds: n bytes of the room, or nothing
Adds : Bool → List ℕ → ℕ → Plan → Plan → Type 0
Adds true room n s u = (u.bytes ≡ s.bytes ++ aligned (take n (drop s.used room))) × (u.used ≡ s.used + n + padding n)
Adds false room n s u = (u.bytes ≡ s.bytes) × (u.used ≡ s.used)

adds_own : (a : Bool) (room : List ℕ) (n : ℕ) (s u : Plan) → a ≡ true → u.bytes ≡ s.bytes ++ aligned (take n (drop s.used room)) → u.used ≡ s.used + n + padding n → Adds a room n s u
unfolding Adds
adds_own true room n s u is bytes used = (bytes, used)
adds_own false room n s u is bytes used = absurd cc

adds_none : (a : Bool) (room : List ℕ) (n : ℕ) (s u : Plan) → a ≡ false → u.bytes ≡ s.bytes → u.used ≡ s.used → Adds a room n s u
unfolding Adds
adds_none true room n s u is bytes used = absurd cc
adds_none false room n s u is bytes used = (bytes, used)

object_adds : (body room : List ℕ) (count i o : ℕ) (s u : Plan) → object body room count i o s ≡ Some u → Adds (word_at o body == 0x70742a85) room (long_at (o + 16) body) s u
object_adds body room count i o s u e =
    by_object body room count i o s (Adds (word_at o body == 0x70742a85) room (long_at (o + 16) body) s) u e (λ _. record {
      known = λ is. adds_none (word_at o body == 0x70742a85) room (long_at (o + 16) body) s _ is refl refl;
      descriptor = λ is _. adds_none (word_at o body == 0x70742a85) room (long_at (o + 16) body) s _ is refl refl;
      array = λ is _ _. adds_none (word_at o body == 0x70742a85) room (long_at (o + 16) body) s _ is refl refl;
      orphan = λ is _. adds_own (word_at o body == 0x70742a85) room (long_at (o + 16) body) s _ is refl refl;
      child = λ is _ _ _. adds_own (word_at o body == 0x70742a85) room (long_at (o + 16) body) s _ is refl refl;
    })

own_more : (a : Bool) (body room : List ℕ) (n : ℕ) (os : List ℕ) (s u t : Plan) → Adds a room n s u → t.bytes ≡ u.bytes ++ own_bytes body room u.used os
    → t.bytes ≡ s.bytes ++ (if a then aligned (take n (drop s.used room)) ++ own_bytes body room (s.used + n + padding n) os else own_bytes body room s.used os)
unfolding Adds
own_more true body room n os s u t adds so_far = so_far ∙ rw (adds.0, adds.1) (append_assoc s.bytes (aligned (take n (drop s.used room))) (own_bytes body room (s.used + n + padding n) os))
own_more false body room n os s u t adds so_far = so_far ∙ rw (adds.0, adds.1) refl

own_step : (body room : List ℕ) (count i o : ℕ) (os : List ℕ) (s t : Plan) (m : Option Plan)
    → ((u : Plan) → planned_from body room count (i + 1) os (Some u) ≡ Some t → t.bytes ≡ u.bytes ++ own_bytes body room u.used os)
    → object body room count i o s ≡ m → planned_from body room count (i + 1) os m ≡ Some t → t.bytes ≡ s.bytes ++ own_bytes body room s.used (o ∷ os)
own_step body room count i o os s t None more e so_far = let none = none_stays body room count (i + 1) os in absurd cc
own_step body room count i o os s t (Some u) more e so_far =
    own_more (word_at o body == 0x70742a85) body room (long_at (o + 16) body) os s u t (object_adds body room count i o s u e) (more u so_far)

own_from : (body room : List ℕ) (count i : ℕ) (os : List ℕ) (s t : Plan) → planned_from body room count i os (Some s) ≡ Some t → t.bytes ≡ s.bytes ++ own_bytes body room s.used os
own_from body room count i [] s t e = let is : s ≡ t = cc in ap (λ (x : Plan). x.bytes) (sym is) ∙ sym (append-nil s.bytes)
own_from body room count i (o ∷ os) s t e =
    own_step body room count i o os s t (object body room count i o s) (λ u h. own_from body room count (i + 1) os u t h) refl e

pub carries_what_was_sent : (body offsets room : List ℕ) (count : ℕ) (s : Plan) → plan_of body offsets room count ≡ Some s
    → s.bytes ≡ (aligned body ++ aligned offsets) ++ own_bytes body room 0 (offsets_in offsets)
carries_what_was_sent body offsets room count s e = own_from body room count 0 (offsets_in offsets) (begun body offsets) s (whole_plan (is_whole offsets room) _ s e)
