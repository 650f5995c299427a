-- What the threads of a process have sent, as C has it.
use Rattle.std.specs.Prelude.{◌≡◌, ◌==◌, ℕ, Bool, true, false, List, [], Option, Some, None, length}
use Rattle.bd_sendings.specs.Sendings.{noted, ended, sender_for}
use Rattle.bd_sendings.specs.declared.sendings.Sendings.{Sendings}
use Rattle.bd_sendings.specs.declared.sent.Sending.{Sending}
use Rattle.bd_c.specs.Behind.{Of, IsMade, sendings_of}
use Rattle.bd_c.specs.declared.held.Held.{Held}
use Rattle.bd_c.specs.declared.sendings.SendingInC.{SendingInC}
use Rattle.bd_c.specs.declared.status.Status.{Status}
use Rattle.bd_c.specs.declared.status.Status.TheVariants as status

abbrev pub sending_given : SendingInC → Sending
sending_given g = record { sender = g.sender; step = g.step; receiver = g.receiver; let_go = g.let_go }

-- nothing is known to be sent
abbrev pub KnowsNothing : Sendings → Type 0
KnowsNothing x = x.known.items ≡ []

-- such is behind the handle; or nothing, for want of memory
abbrev pub SendingsOpen : Option Held → Status → Type 0
SendingsOpen k s = IsMade (λ m. Of sendings_of m KnowsNothing) (λ r. r ≡ status.NoMemory) k s

abbrev pub NotesParcel : Sendings → Sendings → Sending → List ℕ → List ℕ → Type 0
NotesParcel x y s body offsets = y.known.items ≡ noted s body offsets x.known.items

-- whether nothing is left is told
abbrev pub EndsThread : Sendings → Sendings → ℕ → Bool → Type 0
EndsThread x y thread result = (y.known.items ≡ ended thread x.known.items) × (result ≡ (length y.known.items == 0))

-- a sender is told, or there is none
abbrev pub TellsSender : Option ℕ → ℕ → ℕ → Bool → Type 0
TellsSender told old new true = told ≡ Some new
TellsSender told old new false = (told ≡ None) × (new ≡ old)

abbrev pub TellsSenderFor : Sendings → ℕ → ℕ → ℕ → ℕ → Bool → Type 0
TellsSenderFor x thread i old new result = TellsSender (sender_for thread i x.known.items) old new result
