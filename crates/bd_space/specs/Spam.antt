-- Reports of one-way flooding.
use Rattle.std.specs.Prelude.{ℕ, ◌*◌, ◌==◌, nat_lt, Bool, ◌&&◌, List, filter, sum_by}
use Rattle.bd_space.specs.{Words.{Process, Buffer, Actor, StepAnswer, changed, Space}, Windows.buffers_of, Delivery.Delivery, Outcomes.Outcome}

-- a process asks for reports, or no longer
abbrev pub detecting : Bool → Process → Process
detecting on q = record q { spam_detection = on }

unfoldable pub with_spam_detection : Space → ℕ → Bool → Space
with_spam_detection s p on = record s { processes = changed (λ q. q.made == p) (detecting on) s.processes }

unfoldable pub spam_step : Space → Bool → Actor → Outcome
spam_step s on a = record { answer = StepAnswer.Set; space = with_spam_detection s a.process.made on }

-- how much of a window one process's live one-way buffers take
abbrev pub one_way_from : List Buffer → ℕ → ℕ
one_way_from buffers sender = sum_by (λ b. b.size) (filter (λ b. b.one_way && (b.sender == sender)) buffers)

-- they take more than a quarter of it
unfoldable pub floods : ℕ → List Buffer → ℕ → Bool
floods window buffers sender = nat_lt window (4 * one_way_from buffers sender)

-- in the space with the new buffer: a one-way call whose sender asked for reports, and floods the receiver
unfoldable pub is_spam : Space → Actor → Delivery → Bool
is_spam s a v =
    a.process.spam_detection && v.one_way && floods v.receiver.window (buffers_of s.buffers v.receiver.made) a.process.made
