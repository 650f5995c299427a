-- What C hands over, as a request.
use Rattle.std.specs.Prelude.{◌≡◌, ◌==◌, ◌⊎◌, ℕ, Bool, List, Option, Some, None, if◌then◌else◌}
use Rattle.bd_space.specs.declared.step.Request.{Request}
use Rattle.bd_space.specs.declared.step.Request.TheVariants.{Open, Attach, SetManager, SetSpam, Write, Read, ExitThread, ExitProcess}
use Rattle.bd_c.specs.declared.requests.RequestGiven.{RequestGiven}
use Rattle.bd_c.specs.declared.held.Held.{Held}
use Rattle.bd_c.specs.declared.status.Status.{Status}
use Rattle.bd_c.specs.declared.status.Status.TheVariants.{NoMemory, NoSuchRequest}
use Rattle.bd_c.specs.Seats.{OverSeat, Posts}
use Rattle.bd_c.specs.Flags.{flag_of}

abbrev pub spam_request : Option Bool → Option Request
spam_request (Some on) = Some (SetSpam on)
spam_request None = None

-- The request that C gives: 1 open, 2 attach, 3 become the manager, 4 write, 5 read, 6 end the thread, 7 end the process, 8 set reports
-- of flooding. None where no kind has the number, or where `on` is neither 0 nor 1.
abbrev pub request_of : RequestGiven → List ℕ → List ℕ → Option Request
request_of g stream area =
    if g.kind == 1 then Some (Open g.pid g.euid g.window)
    else (if g.kind == 2 then Some (Attach g.pid)
    else (if g.kind == 3 then Some SetManager
    else (if g.kind == 4 then Some (Write stream area)
    else (if g.kind == 5 then Some (Read g.limit)
    else (if g.kind == 6 then Some ExitThread
    else (if g.kind == 7 then Some ExitProcess
    else (if g.kind == 8 then spam_request (flag_of g.on)
    else None)))))))

-- no kind has this number, or reports of flooding are neither 0 nor 1; or there was no memory for a copy of a write's bytes
abbrev pub IsNoRequest : RequestGiven → List ℕ → List ℕ → Status → Type 0
IsNoRequest g stream area NoSuchRequest = request_of g stream area ≡ None
IsNoRequest g stream area NoMemory = g.kind ≡ 4
IsNoRequest g stream area _ = ⊥

-- what is given so is posted, or there is nothing to be posted
abbrev pub PostsGiven : Option Held → Option Held → RequestGiven → List ℕ → List ℕ → Status → Type 0
PostsGiven h k g stream area s =
    ((s ≡ NoSuchRequest) × (request_of g stream area ≡ None) × (k ≡ h))
    ⊎ ((r : Request) × (request_of g stream area ≡ Some r) × OverSeat h k (λ x y. Posts x y r s))
