-- No byte of a parcel is put right twice.
use Rattle.std.proofs.Common.{◌≡◌, ℕ, zero, suc, ◌+◌, ◌*◌, ◌≤◌, ◌<◌, ◌⊎◌, inl, inr, Bool, true, false, List, [], ◌∷◌, ◌++◌, length, take, drop, Some, None, refl, sym, ap, subst, arith, length-append, length-drop}
use Rattle.std.specs.Prelude.{◌==◌, ◌||◌, nat_le, if◌then◌else◌}
use Rattle.std.proofs.lemmas.Bool.{leb-true, eqb-true}
use Rattle.std.proofs.lemmas.List.{length-take-le, append-nil}
use Rattle.bd_uapi.specs.Bytes.{long_at}
use Rattle.bd_parcel.specs.Parcels.{offsets_in, is_placed}
use Rattle.bd_layout.specs.declared.buffer.OpenBuffer.{OpenBuffer}
use Rattle.bd_layout.specs.declared.fixup.Fixup.{Fixup}
use Rattle.bd_layout.specs.declared.fixup.Fixup.TheVariants.{Pointer, Descriptor, Descriptors}
use Rattle.bd_layout.specs.Writable.{outward_from, takes, Claim, claimed_first, claimed}
use Rattle.bd_layout.specs.Plans.{Plan, padding, eight_zeros, aligned, begun, numbers_at, object, is_whole, plan_of}
use Rattle.bd_layout.specs.Landed.{landed}
use Rattle.bd_layout.specs.Apart.{start_of, size_of, Each, IsClearOf, AllApart, HasLanded}
use Rattle.bd_layout.proofs.Walks.{planned_by, whole_plan}
use Rattle.bd_layout.proofs.Objects.{both, by_object, and_buffer, Shows, array_count, array_offset, own_length, own_offset, own_parent, own_buffer, as_orphan, as_child}
use Rattle.bd_layout.proofs.Lands.{EndsWithin, has_landed}

-- ---- each of a list

each_map : (P Q : Fixup → Type 0) (fs : List Fixup) → ((f : Fixup) → P f → Q f) → Each P fs → Each Q fs
each_map P Q [] h all = tt
each_map P Q (f ∷ fs) h all = (h f all.0, each_map P Q fs h all.1)

each_and : (P : Fixup → Type 0) (fs : List Fixup) (f : Fixup) → Each P fs → P f → Each P (fs ++ f ∷ [])
each_and P [] f all one = (one, tt)
each_and P (g ∷ fs) f all one = (all.0, each_and P fs f all.1 one)

apart_and : (fs : List Fixup) (f : Fixup) → AllApart fs → Each (λ g. IsClearOf (start_of g) (size_of g) f) fs → AllApart (fs ++ f ∷ [])
apart_and [] f all clear = (tt, tt)
apart_and (g ∷ fs) f all clear = (each_and (IsClearOf (start_of g) (size_of g)) fs f all.0 clear.0, apart_and fs f all.1 clear.1)

-- ---- what stands between two objects: d bytes of data, of which r were gone through, and n bytes in all

abbrev end_of : Fixup → ℕ
end_of f = start_of f + size_of f

-- it lies in the data, before what is still to be gone through, or behind the data
record Done (d r n : ℕ) (f : Fixup) : Type 0 where
  pub where' : (end_of f ≤ r) ⊎ (d ≤ start_of f)
  pub ends : end_of f ≤ n

-- it meets nothing of a buffer that may still be put right
abbrev Spares : OpenBuffer → Fixup → Type 0
Spares b f = (end_of f ≤ b.place + b.least) ⊎ (b.place + b.length ≤ start_of f)

-- buffers that may be written to lie behind the data, an outer one before its inner ones
abbrev Open : ℕ → ℕ → List Fixup → List OpenBuffer → Type 0
Open d n fs [] = Unit {0}
Open d n fs (b ∷ bs) = (d ≤ b.place) × (b.place + b.length ≤ n) × Each (Spares b) fs × Open d b.place fs bs

record Clear (d r n : ℕ) (fs : List Fixup) (ws : List OpenBuffer) : Type 0 where
  pub apart : AllApart fs
  pub done : Each (Done d r n) fs
  pub open' : Open d n fs ws

open_more : (d n m : ℕ) (fs : List Fixup) (ws : List OpenBuffer) → n ≤ m → Open d n fs ws → Open d m fs ws
open_more d n m fs [] le all = tt
open_more d n m fs (b ∷ bs) le all = (all.0, omega (arith, le, all.1), all.2, all.3)

open_and : (d n : ℕ) (fs : List Fixup) (f : Fixup) (ws : List OpenBuffer) → Open d n fs ws → ((b : OpenBuffer) → d ≤ b.place → b.place + b.length ≤ n → Spares b f) → Open d n (fs ++ f ∷ []) ws
open_and d n fs f [] all spares = tt
open_and d n fs f (b ∷ bs) all spares =
    (all.0, all.1, each_and (Spares b) fs f all.2 (spares b all.0 all.1), open_and d b.place fs f bs all.3 (λ x le ends. spares x le (omega (arith, ends, all.1))))

further : (d r n r' n' : ℕ) (fs : List Fixup) (ws : List OpenBuffer) → r ≤ r' → n ≤ n' → Clear d r n fs ws → Clear d r' n' fs ws
further d r n r' n' fs ws le le' so = record {
  apart = so.apart;
  done = each_map (Done d r n) (Done d r' n') fs (λ f is. record { where' = later f is.where'; ends = omega (arith, is.ends, le') }) so.done;
  open' = open_more d n n' fs ws le' so.open';
}
  where
    later : (f : Fixup) → (end_of f ≤ r) ⊎ (d ≤ start_of f) → (end_of f ≤ r') ⊎ (d ≤ start_of f)
    later f (inl h) = inl (omega (arith, h, le))
    later f (inr h) = inr h

-- one more in the data, which was not gone through so far
in_data : (d r n r' : ℕ) (fs : List Fixup) (f : Fixup) (ws : List OpenBuffer) → r ≤ start_of f → end_of f ≤ r' → r ≤ r' → end_of f ≤ d → d ≤ n → Clear d r n fs ws → Clear d r' n (fs ++ f ∷ []) ws
in_data d r n r' fs f ws from to le inside room so =
    let so' = further d r n r' n fs ws le (omega arith) so in record {
      apart = apart_and fs f so.apart (each_map (Done d r n) (λ g. IsClearOf (start_of g) (size_of g) f) fs (λ g is. clear g is.where') so.done);
      done = each_and (Done d r' n) fs f so'.done (record { where' = inl to; ends = omega (arith, inside, room) });
      open' = open_and d n fs f ws so'.open' (λ b behind _. inl (omega (arith, inside, behind)));
    }
  where
    clear : (g : Fixup) → (end_of g ≤ r) ⊎ (d ≤ start_of g) → IsClearOf (start_of g) (size_of g) f
    clear g (inl h) = inl (omega (arith, h, from))
    clear g (inr h) = inr (omega (arith, h, inside))

-- ---- claims

record Found (d n : ℕ) (fs : List Fixup) (offset size : ℕ) (c : Claim) : Type 0 where
  pub buffer : OpenBuffer
  pub rest : List OpenBuffer
  pub place : c.place ≡ buffer.place
  pub left : c.writable ≡ (record buffer { least = offset + size }) ∷ rest
  pub behind : d ≤ buffer.place
  pub ends : buffer.place + buffer.length ≤ n
  pub spared : Each (Spares buffer) fs
  pub outer : Open d buffer.place fs rest
  pub least : buffer.least ≤ offset
  pub fits : 0 < size → offset + size ≤ buffer.length

either : (a b : Bool) → (a || b) ≡ true → (a ≡ true) ⊎ (b ≡ true)
either true b e = inl refl
either false b e = inr e

fits_if : (size offset n : ℕ) → (size == 0 ≡ true) ⊎ (nat_le (offset + size) n ≡ true) → 0 < size → offset + size ≤ n
fits_if size offset n (inl zero') lt = let none = eqb-true size 0 zero' in absurd (omega arith)
fits_if size offset n (inr le) lt = leb-true _ _ le

found_first : (d n : ℕ) (fs : List Fixup) (offset size : ℕ) (c : Claim) (b : OpenBuffer) (bs : List OpenBuffer) → Open d n fs (b ∷ bs) → claimed_first offset size (b ∷ bs) ≡ Some c → Found d n fs offset size c
found_first d n fs offset size c b bs all e = by (takes offset size b) refl e
  where
    by : (t : Bool) → takes offset size b ≡ t
        → (if t then Some (record { place = b.place; writable = (record b { least = offset + size }) ∷ bs }) else None) ≡ Some c → Found d n fs offset size c
    by false is h = absurd cc
    by true is h =
        let same : (record { place = b.place; writable = (record b { least = offset + size }) ∷ bs }) ≡ c = cc in
        let two = both (nat_le b.least offset) (size == 0 || nat_le (offset + size) b.length) is in record {
          buffer = b;
          rest = bs;
          place = ap (λ (x : Claim). x.place) (sym same);
          left = ap (λ (x : Claim). x.writable) (sym same);
          behind = all.0;
          ends = all.1;
          spared = all.2;
          outer = all.3;
          least = leb-true _ _ two.0;
          fits = fits_if size offset b.length (either (size == 0) (nat_le (offset + size) b.length) two.1);
        }

found : (d n : ℕ) (fs : List Fixup) (parent offset size : ℕ) (c : Claim) (ws : List OpenBuffer) → Open d n fs ws → claimed parent offset size ws ≡ Some c → Found d n fs offset size c
found d n fs parent offset size c [] all e = absurd cc
found d n fs parent offset size c (b ∷ bs) all e =
    by (b.index == parent) (λ h. found d n fs parent offset size c bs (open_more d b.place n fs bs (omega (arith, all.1)) all.3) h) e
  where
    by : (t : Bool) → (claimed_first offset size (outward_from parent bs) ≡ Some c → Found d n fs offset size c)
        → claimed_first offset size (if t then b ∷ bs else outward_from parent bs) ≡ Some c → Found d n fs offset size c
    by true further_out h = found_first d n fs offset size c b bs all h
    by false further_out h = further_out h

-- nothing is put there
claim_none : (d r n : ℕ) (fs : List Fixup) (offset size : ℕ) (c : Claim) (ws : List OpenBuffer) → Found d n fs offset size c → Clear d r n fs ws → Clear d r n fs c.writable
claim_none d r n fs offset size c ws x so = record {
  apart = so.apart;
  done = so.done;
  open' = subst (Open d n fs) (sym x.left) (x.behind, x.ends, each_map (Spares x.buffer) (Spares (record x.buffer { least = offset + size })) fs (λ f is. spares f is) x.spared, x.outer);
}
  where
    spares : (f : Fixup) → Spares x.buffer f → Spares (record x.buffer { least = offset + size }) f
    spares f (inl h) = inl (omega (arith, h, x.least))
    spares f (inr h) = inr h

-- something is
claim_one : (d r n : ℕ) (fs : List Fixup) (f : Fixup) (offset size : ℕ) (c : Claim) (ws : List OpenBuffer) → Found d n fs offset size c → 0 < size → start_of f ≡ c.place + offset → size_of f ≡ size
    → Clear d r n fs ws → Clear d r n (fs ++ f ∷ []) c.writable
claim_one d r n fs f offset size c ws x some start' size' so =
    let so' = claim_none d r n fs offset size c ws x so in
    let fits = x.fits some in
    let starts : start_of f ≡ x.buffer.place + offset = omega (arith, start', x.place) in record {
      apart = apart_and fs f so.apart (each_map (Spares x.buffer) (λ g. IsClearOf (start_of g) (size_of g) f) fs (λ g is. clear g starts fits is) x.spared);
      done = each_and (Done d r n) fs f so.done (record { where' = inr (omega (arith, starts, x.behind)); ends = omega (arith, starts, size', fits, x.ends) });
      open' = subst (Open d n (fs ++ f ∷ [])) (sym x.left) (
        x.behind,
        x.ends,
        each_and (Spares (record x.buffer { least = offset + size })) fs f (each_map (Spares x.buffer) (Spares (record x.buffer { least = offset + size })) fs (λ g is. spares g is) x.spared) (inl (omega (arith, starts, size'))),
        open_and d x.buffer.place fs f x.rest x.outer (λ b behind ends. inr (omega (arith, ends, starts))),
      );
    }
  where
    clear : (g : Fixup) → start_of f ≡ x.buffer.place + offset → offset + size ≤ x.buffer.length → Spares x.buffer g → IsClearOf (start_of g) (size_of g) f
    clear g starts fits (inl h) = inl (omega (arith, h, starts, x.least))
    clear g starts fits (inr h) = inr (omega (arith, h, starts, size', fits))

    spares : (g : Fixup) → Spares x.buffer g → Spares (record x.buffer { least = offset + size }) g
    spares g (inl h) = inl (omega (arith, h, x.least))
    spares g (inr h) = inr h

-- a buffer is opened behind all that there is
opened : (d r n n' o : ℕ) (fs : List Fixup) (b : OpenBuffer) (ws : List OpenBuffer) → d ≤ n → b.place ≡ n → b.least ≡ 0 → b.place + b.length ≤ n' → Clear d r n fs ws → Clear d r n' fs (and_buffer o b ws)
opened d r n n' o fs b ws le place least ends so = by (o == 0)
  where
    wide : Clear d r n' fs ws
    wide = further d r n r n' fs ws (omega arith) (omega (arith, place, ends)) so

    by : (t : Bool) → Clear d r n' fs (if t then [] else b ∷ ws)
    by true = record { apart = wide.apart; done = wide.done; open' = tt }
    by false = record {
      apart = wide.apart;
      done = wide.done;
      open' = (omega (arith, le, place), ends, each_map (Done d r n) (Spares b) fs (λ f is. inl (omega (arith, is.ends, place, least))) so.done, subst (λ (k : ℕ). Open d k fs ws) (sym place) so.open');
    }

-- ---- objects

record IsClear (d : ℕ) (s : Plan) : Type 0 where
  pub room : d ≤ length s.bytes
  pub clear : Clear d s.reach (length s.bytes) s.fixups s.writable

record Placed (body : List ℕ) (reach o : ℕ) : Type 0 where
  pub after : reach ≤ o
  pub inside : o + 24 ≤ length body

placed_from : (body : List ℕ) (reach o : ℕ) → is_placed body reach o ≡ true → Placed body reach o
placed_from body reach o e =
    let a = both _ _ e in
    let b = both _ _ a.0 in
    record { after = leb-true _ _ b.1; inside = leb-true _ _ a.1 }

array_clear : (d r n o offset k : ℕ) (fs : List Fixup) (ws : List OpenBuffer) (parent : ℕ) (c : Claim) → claimed parent offset (4 * k) ws ≡ Some c → Clear d r n fs ws
    → Clear d r n (fs ++ numbers_at (c.place + offset) k) c.writable
array_clear d r n o offset k fs ws parent c is so = by (k == 0) refl
  where
    there : Found d n fs offset (4 * k) c
    there = found d n fs parent offset (4 * k) c ws so.open' is

    by : (t : Bool) → (k == 0) ≡ t → Clear d r n (fs ++ (if t then [] else Descriptors (c.place + offset) k ∷ [])) c.writable
    by true zero' = subst (λ (gs : List Fixup). Clear d r n gs c.writable) (sym (append-nil fs)) (claim_none d r n fs offset (4 * k) c ws there so)
    by false some = claim_one d r n fs (Descriptors (c.place + offset) k) offset (4 * k) c ws there (omega (arith, positive k some)) refl refl so
      where
        positive : (k : ℕ) → (k == 0) ≡ false → 0 < k
        positive zero e = absurd cc
        positive (suc k) e = omega arith

longer : (n : ℕ) (bytes room : List ℕ) (used : ℕ) → used + n ≤ length room → length bytes + n ≤ length (bytes ++ aligned (take n (drop used room)))
longer n bytes room used le =
    omega (
      arith,
      length-append bytes (aligned (take n (drop used room))),
      length-append (take n (drop used room)) (take (padding (length (take n (drop used room)))) eight_zeros),
      length-take-le n (drop used room) (omega (arith, length-drop used room)),
    )

object_clear : (body room : List ℕ) (count i o : ℕ) (s u : Plan) → IsClear (length body) s → object body room count i o s ≡ Some u → IsClear (length body) u
object_clear body room count i o s u so e = by_object body room count i o s (IsClear (length body)) u e (λ placed. shows (placed_from body s.reach o placed))
  where
    d : ℕ
    d = length body

    n : ℕ
    n = length s.bytes

    shows : Placed body s.reach o → Shows body room count i o s (IsClear (length body))
    shows at =
        let pointing : o + 40 ≤ d → Clear d (o + 40) n (s.fixups ++ Pointer (o + 8) n ∷ []) s.writable =
        λ le. in_data d s.reach n (o + 40) s.fixups (Pointer (o + 8) n) s.writable (omega (arith, at.after)) (omega arith) (omega (arith, at.after)) (omega (arith, le)) so.room so.clear in
        record {
          known = λ _. record { room = so.room; clear = further d s.reach n (o + 24) n s.fixups s.writable (omega (arith, at.after)) (omega arith) so.clear };
          descriptor = λ _ _. record {
            room = so.room;
            clear = in_data d s.reach n (o + 24) s.fixups (Descriptor (o + 8)) s.writable (omega (arith, at.after)) (omega arith) (omega (arith, at.after)) (omega (arith, at.inside)) so.room so.clear;
          };
          array = λ _ c is. record {
            room = so.room;
            clear = array_clear d (o + 32) n o (array_offset body room count i o s) (array_count body room count i o s) s.fixups s.writable (long_at (o + 16) body) c is.claim
                (further d s.reach n (o + 32) n s.fixups s.writable (omega (arith, at.after)) (omega arith) so.clear);
          };
          orphan = λ _ is.
              let grows = longer (own_length body room count i o s) s.bytes room s.used (leb-true _ _ is.fits) in
              let with_it = pointing (leb-true _ _ is.whole) in record {
                room = omega (arith, so.room, grows);
                clear = opened d (o + 40) n (length (as_orphan body room count i o s).bytes) o (s.fixups ++ Pointer (o + 8) n ∷ []) (own_buffer body room count i o s) [] so.room refl refl grows
                    (record { apart = with_it.apart; done = with_it.done; open' = tt });
              };
          child = λ _ is c inside.
              let grows = longer (own_length body room count i o s) s.bytes room s.used (leb-true _ _ is.fits) in
              let with_it = pointing (leb-true _ _ is.whole) in
              let there = found d n (s.fixups ++ Pointer (o + 8) n ∷ []) (own_parent body room count i o s) (own_offset body room count i o s) 8 c s.writable with_it.open' inside.claim in record {
                room = omega (arith, so.room, grows);
                clear = opened d (o + 40) n (length (as_child body room count i o s c).bytes) o ((s.fixups ++ Pointer (o + 8) n ∷ []) ++ Pointer (c.place + own_offset body room count i o s) n ∷ [])
                    (own_buffer body room count i o s) c.writable so.room refl refl grows
                    (claim_one d (o + 40) n (s.fixups ++ Pointer (o + 8) n ∷ []) (Pointer (c.place + own_offset body room count i o s) n) (own_offset body room count i o s) 8 c s.writable there (omega arith) refl refl with_it);
              };
        }

begun_clear : (body offsets : List ℕ) → IsClear (length body) (begun body offsets)
begun_clear body offsets = record {
  room = omega (arith, length-append (aligned body) (aligned offsets), length-append body (take (padding (length body)) eight_zeros));
  clear = record { apart = tt; done = tt; open' = tt };
}

pub lands_whole : (body offsets room : List ℕ) (count : ℕ) (s : Plan) → plan_of body offsets room count ≡ Some s
    → AllApart s.fixups × ((base : ℕ) (sent : List ℕ) → length sent ≡ length s.bytes → HasLanded base s.fixups sent (landed base s.fixups sent))
lands_whole body offsets room count s e =
    let so = planned_by (IsClear (length body)) body room count (λ i o v u is h. object_clear body room count i o v u is h) 0 (offsets_in offsets) (begun body offsets) s
    (begun_clear body offsets) (whole_plan (is_whole offsets room) _ s e) in (
      so.clear.apart,
      λ base sent same. has_landed base s.fixups sent
          (each_map (Done (length body) s.reach (length s.bytes)) (EndsWithin (length sent)) s.fixups (λ f is. omega (arith, is.ends, same)) so.clear.done) so.clear.apart,
    )
