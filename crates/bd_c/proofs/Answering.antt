-- What a call answers, by what was lent to it.
use Rattle.std.proofs.Common.{◌≡◌, ◌∙◌, ℕ, List, Bool, false, ap, refl, sym, subst, inl, inr}
use Rattle.std.specs.Prelude.{Option, Some, None}
use Rattle.bd_uapi.specs.declared.command.Command.{Command}
use Rattle.bd_space.specs.declared.step.Request.TheVariants.{SetSpam}
use Rattle.bd_space.specs.declared.step.Step.TheVariants as step_of
use Rattle.bd_c.specs.declared.answers.Told.{Told}
use Rattle.bd_c.specs.declared.held.Held.{Held}
use Rattle.bd_c.specs.declared.held.Held.TheVariants.{Driver, Seat, Live}
use Rattle.bd_c.specs.declared.host.Host.{Host}
use Rattle.bd_c.specs.declared.live.OwnedLive.{OwnedLive}
use Rattle.bd_c.specs.declared.seat.OwnedSeat.{OwnedSeat}
use Rattle.bd_c.specs.declared.status.Status.{Status}
use Rattle.bd_c.specs.declared.status.Status.TheVariants.{Done, NoMemory, NoCommand, Misuse}
use Rattle.bd_c.specs.Behind.{Of, Over, IsDriver, driver_of, seat_of}
use Rattle.bd_c.specs.Drivers.{HandsAt, ReturnsAt, Finishes}
use Rattle.bd_c.specs.Flags.{ByFlag, IsNoFlag, flag_of}
use Rattle.bd_c.specs.Hosts.{Hands, Keeps, is_seat_away}
use Rattle.bd_c.specs.Lives.{Steps, StepsAt}
use Rattle.bd_c.specs.LiveCommands.{IsCommandOf, IsNoCommand, Commands, step_given}
use Rattle.bd_c.specs.Misuse.{IsMisuse}
use Rattle.bd_c.specs.Seats.{Stays, Asks, AsksAt}
use Rattle.bd_c.specs.Status.{number_of, Reports}

-- ---- what is no misuse

pub fits_hand : (h s t : Option Held) (x : Host) → h ≡ Some (Driver x) → t ≡ s → t ≡ None → (IsDriver h → s ≡ None → ⊥) → ⊥
fits_hand h s t x driver same none not = not (subst IsDriver (sym driver) tt) (sym same ∙ none)

-- ---- what a driver's calls answer

pub hands_refused : (h m : Option Held) (x y : Host) (s : Status) (n : ℕ) → h ≡ Some (Driver x) → m ≡ None → n ≡ number_of s → Keeps x y s → Reports n (HandsAt h (Some (Driver y)) m)
hands_refused h m x y s n driver none is keeps = (s, is, inr (none, subst (λ (k : Option Held). Over driver_of k (Some (Driver y)) (λ a b. Keeps a b s)) (sym driver) keeps))

pub hands_done : (h m : Option Held) (x y : Host) (seat : OwnedSeat) (n : ℕ) → h ≡ Some (Driver x) → m ≡ Some (Seat seat) → n ≡ number_of Done → Hands x y seat → Reports n (HandsAt h (Some (Driver y)) m)
hands_done h m x y seat n driver is_seat is hands =
    (Done, is, inl (refl, subst (λ (k : Option Held). Over driver_of k (Some (Driver y)) (λ a b. Of seat_of m (Hands a b))) (sym driver) (subst (λ (k : Option Held). Of seat_of k (Hands x y)) (sym is_seat) hands)))

pub returns_full : (h s t : Option Held) (x : Host) (n : ℕ) → h ≡ Some (Driver x) → t ≡ s → n ≡ number_of NoMemory → is_seat_away x ≡ false → Reports n (ReturnsAt h (Some (Driver x)) s t)
returns_full h s t x n driver same is full = (NoMemory, is, (subst (λ (k : Option Held). Of driver_of k (λ a. is_seat_away a ≡ false)) (sym driver) full, sym driver, same))

pub finishes : (h : Option Held) (v w : Held) (s : Status) (n : ℕ) → h ≡ Some v → n ≡ number_of s → (IsDriver (Some v) → Finishes (Some v) (Some w) s) → IsDriver h → Reports n (Finishes h (Some w))
finishes h v w s n there is does driver = (s, is, subst (λ (k : Option Held). Finishes k (Some w) s) (sym there) (does (subst IsDriver there driver)))

pub finishes_none : (h : Option Held) (v w : Held) (s : Status) (n : ℕ) → h ≡ Some v → n ≡ number_of s → ((IsDriver (Some v) → ⊥) → (s ≡ Misuse) × (w ≡ v)) → (IsDriver h → ⊥) → IsMisuse n h (Some w)
finishes_none h v w s n there is does not = let told = does (λ d. not (subst IsDriver (sym there) d)) in (is ∙ ap number_of told.0, ap Some told.1 ∙ sym there)

-- ---- what a seat's and a live engine's calls answer

pub flag_refused : (h : Option Held) (v : Held) (f : ℕ) (Does : Bool → Told → Told → Status → Type 0) (told : Told) (s : Status) (n : ℕ) → h ≡ Some v → n ≡ number_of s → IsNoFlag f s → Reports n (ByFlag f Does h (Some v) told told)
flag_refused h v f Does told s n there is none = (s, is, inl (none, sym there, refl))

pub flag_asks : (h : Option Held) (x y : OwnedSeat) (f : ℕ) (on : Bool) (a b : Told) (s : Status) (n : ℕ) → h ≡ Some (Seat x) → n ≡ number_of s → flag_of f ≡ Some on → Stays x y → Asks x y (SetSpam on) s a b
    → Reports n (ByFlag f (λ flag. AsksAt h (Some (Seat y)) (SetSpam flag)) h (Some (Seat y)) a b)
flag_asks h x y f on a b s n seat is flag stays asks = (s, is, inr (on, flag, subst (λ (k : Option Held). AsksAt k (Some (Seat y)) (SetSpam on) a b s) (sym seat) (stays, asks)))

pub flag_steps : (h : Option Held) (x y : OwnedLive) (f seat : ℕ) (on : Bool) (a b : Told) (s : Status) (n : ℕ) → h ≡ Some (Live x) → n ≡ number_of s → flag_of f ≡ Some on → Steps x y seat (step_of.SetSpam on) s a b
    → Reports n (ByFlag f (λ flag. StepsAt h (Some (Live y)) seat (step_of.SetSpam flag)) h (Some (Live y)) a b)
flag_steps h x y f seat on a b s n live is flag steps = (s, is, inr (on, flag, subst (λ (k : Option Held). StepsAt k (Some (Live y)) seat (step_of.SetSpam on) a b s) (sym live) steps))

pub no_command : (h : Option Held) (x : OwnedLive) (seat : ℕ) (command bytes offsets : List ℕ) (told : Told) (n : ℕ) → h ≡ Some (Live x) → n ≡ number_of NoCommand → IsNoCommand command
    → Reports n (λ s. Commands h (Some (Live x)) seat command bytes offsets s told told)
no_command h x seat command bytes offsets told n live is none = (NoCommand, is, inl (refl, none, sym live, refl))

pub commands : (h : Option Held) (x y : OwnedLive) (seat : ℕ) (command bytes offsets : List ℕ) (c : Command) (a b : Told) (s : Status) (n : ℕ) → h ≡ Some (Live x) → n ≡ number_of s → IsCommandOf command c → Steps x y seat (step_given c bytes offsets) s a b
    → Reports n (λ t. Commands h (Some (Live y)) seat command bytes offsets t a b)
commands h x y seat command bytes offsets c a b s n live is of steps = (s, is, inr (c, of, subst (λ (k : Option Held). StepsAt k (Some (Live y)) seat (step_given c bytes offsets) a b s) (sym live) steps))
