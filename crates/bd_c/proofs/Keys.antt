-- By the keys a driver knows its own seats.
use Rattle.std.proofs.Common.{◌≡◌, ◌∙◌, ℕ, refl, sym, subst}
use Rattle.std.specs.Prelude.{Option, Some, None, ⊤, IsSomeAnd}
use Rattle.std.specs.Arc.{arc_value}
use Rattle.bd_c.specs.declared.held.Held.{Held}
use Rattle.bd_c.specs.declared.held.Held.TheVariants.{Driver, Seat}
use Rattle.bd_c.specs.declared.host.Host.{Host}
use Rattle.bd_c.specs.declared.seat.OwnedSeat.{OwnedSeat}
use Rattle.bd_c.specs.Behind.{Of, IsThere, IsDriver, IsSeat, driver_of, seat_of}
use Rattle.bd_c.specs.Drivers.{IsOwn}
use Rattle.bd_c.specs.Keys.{HaveOneKey, host_key, seat_key}

-- a seat that was lent is there, and has its key
pub seat_there : (h k : Option Held) (x : OwnedSeat) → h ≡ Some (Seat x) → k ≡ h → IsThere k × Of seat_of k (λ y. seat_key y ≡ seat_key x)
seat_there h k x is same = ((Seat x, same ∙ is), subst (λ (m : Option Held). Of seat_of m (λ y. seat_key y ≡ seat_key x)) (sym (same ∙ is)) refl)

of_any : {T : Type 0} (m : Option T) (P : T → Type 0) → IsSomeAnd m P → IsSomeAnd m (λ x. ⊤)
of_any None P is = absurd is
of_any (Some x) P is = tt

seat_by : {T : Type 0} (m : Option T) (s : Option Held) (P : T → OwnedSeat → Type 0) → IsSomeAnd m (λ x. Of seat_of s (P x)) → IsSeat s
seat_by None s P is = absurd is
seat_by (Some x) None P is = absurd is
seat_by (Some x) (Some v) P is = of_any (seat_of v) (P x) is

-- who has one key with a seat is a driver, and with a driver a seat
pub driver_there : (h s : Option Held) → HaveOneKey h s → IsDriver h
driver_there None s one = absurd one
driver_there (Some v) s one = of_any (driver_of v) _ one

key_is_seat : (h s : Option Held) → HaveOneKey h s → IsSeat s
key_is_seat None s one = absurd one
key_is_seat (Some v) s one = seat_by (driver_of v) s (λ x y. seat_key y ≡ host_key x) one

pub no_seat : (h s t : Option Held) → t ≡ s → (IsSeat t → ⊥) → HaveOneKey h s → ⊥
no_seat h s t same not one = not (subst IsSeat (sym same) (key_is_seat h s one))

-- a driver and a seat whose keys were seen
by_keys : (h s : Option Held) (x : Host) → h ≡ Some (Driver x) → Of seat_of s (λ y. seat_key y ≡ host_key x) → HaveOneKey h s
by_keys h s x driver seat = subst (λ (m : Option Held). HaveOneKey m s) (sym driver) seat

pub one_key : (h s t : Option Held) (x : Host) (k n : ℕ) → h ≡ Some (Driver x) → t ≡ s → Of seat_of t (λ y. seat_key y ≡ k) → n ≡ host_key x → n ≡ k → HaveOneKey h s
one_key h s t x k n driver same seat is agree =
    by_keys h s x driver (subst (λ (m : Option Held). Of seat_of m (λ y. seat_key y ≡ host_key x)) same
    (subst (λ (i : ℕ). Of seat_of t (λ y. seat_key y ≡ i)) (sym agree ∙ is) seat))

key_of : {T : Type 0} (m : Option T) (f : T → ℕ) (j k : ℕ) → IsSomeAnd m (λ x. f x ≡ j) → IsSomeAnd m (λ x. f x ≡ k) → j ≡ k
key_of None f j k a b = absurd a
key_of (Some x) f j k a b = sym a ∙ b

seat_has : (s : Option Held) (j k : ℕ) → Of seat_of s (λ y. seat_key y ≡ j) → Of seat_of s (λ y. seat_key y ≡ k) → j ≡ k
seat_has None j k a b = absurd a
seat_has (Some v) j k a b = key_of (seat_of v) seat_key j k a b

pub other_key : (h s t : Option Held) (x : Host) (k n : ℕ) → h ≡ Some (Driver x) → t ≡ s → Of seat_of t (λ y. seat_key y ≡ k) → n ≡ host_key x → (n ≡ k → ⊥) → HaveOneKey h s → ⊥
other_key h s t x k n driver same seat is differ one =
    differ (is ∙ sym (seat_has s k (host_key x) (subst (λ (m : Option Held). Of seat_of m (λ y. seat_key y ≡ k)) same seat) (subst (λ (m : Option Held). HaveOneKey m s) driver one)))

-- a seat with one key is one of the driver's table, where no other driver has that key
pub own_table : (h s : Option Held) (x : Host) (y : OwnedSeat) → h ≡ Some (Driver x) → s ≡ Some (Seat y) → HaveOneKey h s → (HaveOneKey h s → IsOwn h s) → y.seat.table ≡ (arc_value x.keyed).driver.table
own_table h s x y driver seat one own =
    subst (λ (m : Option Held). IsOwn (Some (Driver x)) m) seat (subst (λ (m : Option Held). IsOwn m s) driver (own one))
