-- What the calls on mailboxes say.
use Rattle.std.specs.Prelude.{◌≡◌, ◌≢◌, ℕ}
use Rattle.bd_space.specs.{declared.step.Request.{Request}, Histories.{BeginsWith}}
use Rattle.bd_driver.specs.{declared.view.View.{View}, declared.view.Handover.TheVariants.{Waiting}, declared.outcome.Outcome.{Outcome}}
use Rattle.bd_driver.specs.declared.outcome.Outcome.TheVariants.{Done, Back, Handed}
use Rattle.bd_driver.specs.{declared.outcome.Why.TheVariants.{Taken, NoMemory, HistoryFull, Withdrawn}, Mailboxes.{IsTold}}
use Rattle.bd_driver.specs.Steps.{OwnsAll, posted_at, withdrawn_at, kept_at, collected_at, missed_at}

-- by one post the request is handed over
abbrev pub Posts : View → View → Request → Type 0
Posts v w r = w ≡ posted_at v w.posts.found r

-- one withdrawal was tried: where it found 1 the equal request comes back, and some history of then has just the seat's
-- own places; where it found anything else nothing comes back
abbrev pub Withdraws : View → View → Outcome → Type 0
Withdraws v w (Back r Withdrawn) = (w ≡ withdrawn_at v 1) × ((since : ℕ) × (v.handover ≡ Waiting r since)) × OwnsAll v
Withdraws v w (Back r Taken) = ⊥
Withdraws v w (Back r NoMemory) = ⊥
Withdraws v w (Back r HistoryFull) = ⊥
Withdraws v w Handed = (w ≡ kept_at v w.withdraws.found) × (w.withdraws.found ≢ 1)
Withdraws v w (Done answer start end) = ⊥

-- what was posted is answered: the seat has now seen a longer history, or the same, which bears the answer out
pub record IsCollected (v w : View) (o : Outcome) : Type 0 where
  pub request : Request
  pub since : ℕ
  pub handed : v.handover ≡ Waiting request since
  pub begins : BeginsWith w.seen v.seen
  pub only : w ≡ collected_at v 3 w.seen o
  pub is_told : IsTold v.seats w.seen v.who request since o

-- one collection was tried: where it found 3 the answer comes, where it found anything else nothing does
abbrev pub Collects : View → View → Outcome → Type 0
Collects v w Handed = (w ≡ missed_at v w.collects.found) × (w.collects.found ≢ 3)
Collects v w (Done answer start end) = IsCollected v w (Done answer start end)
Collects v w (Back r why) = IsCollected v w (Back r why)
