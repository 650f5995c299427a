-- What is behind a handle.
use Rattle.std.proofs.Common.{◌≡◌, ℕ, refl, sym, subst}
use Rattle.std.specs.Prelude.{Option, Some, None, ⊤, IsSomeAnd}
use Rattle.std.proofs.lemmas.Option.{none-some}
use Rattle.bd_uapi.specs.declared.fault.Fault.{Fault}
use Rattle.bd_uapi.specs.declared.fault.Fault.TheVariants.{SeatCount, NoMemory}
use Rattle.bd_driver.specs.Faults.{FaultFits}
use Rattle.bd_engine.specs.Refusals.{IsLiveSeatFault}
use Rattle.bd_c.specs.declared.handles.Handle.{Handle}
use Rattle.bd_c.specs.declared.held.Held.{Held}
use Rattle.bd_c.specs.declared.seat.OwnedSeat.{OwnedSeat}
use Rattle.bd_c.specs.Behind.{Of, Over, IsThere, IsSeat, seat_of}
use Rattle.bd_c.specs.Hosts.{IsRefusal}
use Rattle.bd_c.specs.Lending.{holding}
use Rattle.bd_c.specs.Lives.{IsLiveRefusal}
use Rattle.bd_c.specs.Seats.{Stays, OverSeat}
use Rattle.bd_c.specs.Status.{refusal_of}

-- what is behind a handle is of another kind
of_none : {T : Type 0} (m : Option T) (P : T → Type 0) → m ≡ None → IsSomeAnd m P → ⊥
of_none None P none is = is
of_none (Some x) P none is = none-some x (sym none)

pub not_of : {T : Type 0} (kind : Held → Option T) (h : Option Held) (x : Held) (P : T → Type 0) → h ≡ Some x → kind x ≡ None → Of kind h P → ⊥
not_of kind h x P there none is = of_none (kind x) P none (subst (λ (o : Option Held). IsSomeAnd o (λ v. IsSomeAnd (kind v) P)) there is)

-- A handle that is as it was, and has nothing, had nothing.
pub none_there : (h k : Option Held) → k ≡ h → k ≡ None → IsThere h → ⊥
none_there h k same none there = subst (λ (o : Option Held). IsThere o → ⊥) same (subst (λ (o : Option Held). IsThere o → ⊥) (sym none) (λ (t : IsThere None). none-some t.0 t.1)) there

-- what was lent, and is left as it was
pub lent_back : (h : Handle) (x : Held) → h.held ≡ Some x → holding h x ≡ h
lent_back h x is = λ i. record h { held = sym is i }

-- a call that does nothing leaves what is there
unchanged : {T : Type 0} (m : Option T) (P : T → T → Type 0) → IsSomeAnd m (λ x. ⊤) → ((x : T) → P x x) → IsSomeAnd m (λ x. IsSomeAnd m (P x))
unchanged None P is all = absurd is
unchanged (Some x) P is all = all x

pub over_same : {T : Type 0} (kind : Held → Option T) (h : Option Held) (P : T → T → Type 0) → Of kind h (λ x. ⊤) → ((x : T) → P x x) → Over kind h h P
over_same kind None P is all = absurd is
over_same kind (Some v) P is all = unchanged (kind v) P is all

pub over_seat_same : (h : Option Held) (P : OwnedSeat → OwnedSeat → Type 0) → IsSeat h → ((x : OwnedSeat) → P x x) → OverSeat h h P
over_seat_same h P is all = over_same seat_of h (λ x y. Stays x y × P x y) is (λ x. ((refl, refl), all x))

-- a fault of the driver or of the engine is one that C is told as a refusal of that number
pub refused_fits : (f : Fault) (n : ℕ) → FaultFits f n → IsRefusal n (refusal_of f)
refused_fits SeatCount n fits = fits
refused_fits NoMemory n fits = fits
refused_fits _ n fits = absurd fits

pub live_refused_fits : (f : Fault) (n : ℕ) → IsLiveSeatFault n f → IsLiveRefusal n (refusal_of f)
live_refused_fits SeatCount n fits = fits
live_refused_fits NoMemory n fits = fits
live_refused_fits _ n fits = absurd fits
