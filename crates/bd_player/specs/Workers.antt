-- What a seat's lines do, what they say, and which status that asks for.
use Rattle.std.specs.Prelude.{◌≡◌, ◌≢◌, ◌⊎◌, ℕ, ◌+◌, ◌<◌, ◌≤◌, length, Bool, false, not}
use Rattle.bd_space.specs.declared.step.Request.{Request}
use Rattle.bd_driver.specs.declared.view.View.{View}
use Rattle.bd_driver.specs.declared.page.Page.{Page}
use Rattle.bd_driver.specs.declared.outcome.Outcome.{Outcome}
use Rattle.bd_driver.specs.declared.outcome.Outcome.TheVariants as outcome
use Rattle.bd_driver.specs.declared.outcome.Why.TheVariants as why
use Rattle.bd_driver.specs.declared.outcome.Served.{Served}
use Rattle.bd_space.specs.Histories.{BeginsWith}
use Rattle.bd_driver.specs.Driver.{LooksOnce, Calls}
use Rattle.bd_driver.specs.Handing.{Posts, Withdraws, Collects}
use Rattle.bd_driver.specs.Served.{Serves}
use Rattle.bd_script.specs.declared.script.Verb.{Verb}
use Rattle.bd_script.specs.declared.script.Verb.TheVariants as verb
use Rattle.bd_player.specs.declared.said.Said.{Said}
use Rattle.bd_player.specs.declared.said.Said.TheVariants as said
use Rattle.bd_player.specs.declared.faults.ProgramFault.{ProgramFault}
use Rattle.bd_player.specs.declared.faults.ProgramFault.TheVariants as fault

-- what an outcome has its line say
abbrev pub said_of : Outcome → Said
said_of (outcome.Done answer start end) = said.Done answer start end
said_of (outcome.Back request reason) = said.Back reason
said_of outcome.Handed = said.Handed

-- whether nothing is done, where a request is handed over or isn't
abbrev pub idles : Verb → Bool → Bool
idles (verb.Call request) waiting = waiting
idles (verb.Post request) waiting = waiting
idles verb.Look waiting = false
idles (verb.Await stamp) waiting = false
idles verb.Serve waiting = false
idles verb.Collect waiting = not waiting
idles verb.Withdraw waiting = not waiting

-- so many calls that found the driver taken: nothing was run, and nothing else was done
pub record Tries (n : ℕ) (v w : View) : Type 0 where
  pub who : (w.seats ≡ v.seats) × (w.who ≡ v.who)
  pub takes : w.takes.count ≡ v.takes.count + n
  pub no_look : w.looks ≡ v.looks
  pub no_mail : (w.posts ≡ v.posts) × (w.withdraws ≡ v.withdraws) × (w.collects ≡ v.collects) × (w.picks ≡ v.picks) × (w.answers ≡ v.answers) × (w.answered ≡ v.answered)
  pub no_opening : (w.opens ≡ v.opens) × (w.shuts ≡ v.shuts)
  pub no_engine : (w.publishes ≡ v.publishes) × (w.puts ≡ v.puts)
  pub handover : w.handover ≡ v.handover
  pub begins : BeginsWith w.seen v.seen
  pub own : w.own ≡ v.own

-- so many looks that found an earlier stamp: nothing else was done
pub record Waits (n : ℕ) (stamp : ℕ) (v w : View) : Type 0 where
  pub only : w ≡ record v { seen = w.seen; looks = w.looks }
  pub count : w.looks.count ≡ v.looks.count + n
  pub begins : BeginsWith w.seen v.seen
  pub early : (n ≡ 0) ⊎ (length w.seen < stamp)

-- what the first call answered that didn't find the driver taken is said, or so many did as there are turns
abbrev pub SaysCall : View → View → Request → ℕ → Said → Type 0
SaysCall v w r turns (said.Done answer start end) = (n : ℕ) × (u : View) × (n < turns) × Tries n v u × Calls u w r (outcome.Done answer start end)
SaysCall v w r turns (said.Back reason) = (n : ℕ) × (u : View) × (n < turns) × Tries n v u × (reason ≢ why.Taken) × ((back : Request) × Calls u w r (outcome.Back back reason))
SaysCall v w r turns said.Handed = ⊥
SaysCall v w r turns (said.Served served) = ⊥
SaysCall v w r turns (said.Page page) = ⊥
SaysCall v w r turns said.Passed = ⊥
SaysCall v w r turns said.Turns = Tries turns v w
SaysCall v w r turns said.Idle = ⊥

-- the first look that found the stamp is the last, or so many found an earlier one as there are turns
abbrev pub SaysAwait : View → View → ℕ → ℕ → Said → Type 0
SaysAwait v w stamp turns (said.Done answer start end) = ⊥
SaysAwait v w stamp turns (said.Back reason) = ⊥
SaysAwait v w stamp turns said.Handed = ⊥
SaysAwait v w stamp turns (said.Served served) = ⊥
SaysAwait v w stamp turns (said.Page page) = ⊥
SaysAwait v w stamp turns said.Passed = (n : ℕ) × (u : View) × (page : Page) × (n < turns) × Waits n stamp v u × LooksOnce u w page × (stamp ≤ page.stamp)
SaysAwait v w stamp turns said.Turns = Waits turns stamp v w
SaysAwait v w stamp turns said.Idle = ⊥

-- what a line that does something does and says
abbrev pub Acts : ℕ → View → View → Verb → ℕ → Said → Type 0
Acts seats v w (verb.Call request) turns s = SaysCall v w request turns s
Acts seats v w (verb.Post request) turns s = Posts v w request × (s ≡ said.Handed)
Acts seats v w verb.Look turns s = (page : Page) × LooksOnce v w page × (s ≡ said.Page page)
Acts seats v w (verb.Await stamp) turns s = SaysAwait v w stamp turns s
Acts seats v w verb.Serve turns s = (served : Served) × Serves seats v w served × (s ≡ said.Served served)
Acts seats v w verb.Collect turns s = (o : Outcome) × Collects v w o × (s ≡ said_of o)
Acts seats v w verb.Withdraw turns s = (o : Outcome) × Withdraws v w o × (s ≡ said_of o)

-- the status that a line asks for
abbrev pub said_status : Said → ℕ
said_status (said.Done answer start end) = 0
said_status (said.Back why.Taken) = 0
said_status (said.Back why.NoMemory) = 3
said_status (said.Back why.HistoryFull) = 0
said_status (said.Back why.Withdrawn) = 0
said_status said.Handed = 0
said_status (said.Served served) = 0
said_status (said.Page page) = 0
said_status said.Passed = 0
said_status said.Turns = 2
said_status said.Idle = 0

-- the status of a fault
abbrev pub fault_status : ProgramFault → ℕ
fault_status fault.Arguments = 1
fault_status fault.File = 1
fault_status (fault.Line number why) = 1
fault_status fault.Journal = 1
fault_status fault.Memory = 3
fault_status fault.Thread = 1
fault_status fault.Output = 1
