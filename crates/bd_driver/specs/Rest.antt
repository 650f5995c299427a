-- A seat between two calls.
use Rattle.std.specs.Prelude.{◌≡◌, ℕ, suc, ◌<◌, Bool, true, false, List, [], ◌∷◌}
use Rattle.bd_driver.specs.{declared.view.Handover.{Handover}, declared.view.Handover.TheVariants.{Shut, Open, Waiting}}
use Rattle.bd_driver.specs.{declared.view.Picking.TheVariants.{Nothing}, declared.slot.Slot.{Slot}, declared.slot.Slot.TheVariants.{Empty}, Views.{view_of}}
use Rattle.bd_driver.specs.Steps.{Hands}

abbrev pub is_waiting : Handover → Bool
is_waiting Shut = false
is_waiting Open = false
is_waiting (Waiting r since) = true

-- the mailbox's slot is the seat's while nothing is handed over
abbrev pub held_of : Handover → ℕ → List (ℕ × Slot)
held_of Shut who = []
held_of Open who = (suc who, Empty) ∷ []
held_of (Waiting r since) who = []

abbrev pub IsReady : Handover → Type 0
IsReady Shut = ⊥
IsReady Open = Unit {0}
IsReady (Waiting r since) = Unit {0}

-- what is true of a seat between two calls
pub record IsAtRest (words : ℕ) (me : Hands) (number : ℕ) (waiting : Bool) : Type 0 where
  pub one : me.0 ≡ view_of me.0 ∷ []
  pub held : me.1 ≡ held_of (view_of me.0).handover (view_of me.0).who
  pub idle : (view_of me.0).taker ≡ false
  pub number_is : number ≡ (view_of me.0).who
  pub none_picked : (view_of me.0).pick ≡ Nothing
  pub waits : waiting ≡ is_waiting (view_of me.0).handover
  pub ready : IsReady (view_of me.0).handover
  pub below : suc (view_of me.0).who < words
  pub wide : words ≡ suc (view_of me.0).seats
