use Rattle.std.proofs.Common.{◌≡◌, ◌∙◌, ℕ, Bool, Option, length, refl, sym, ap, subst}
use Rattle.std.specs.Prelude.{Some, None, Result, Ok, IfSome}
use Rattle.bd_space.specs.declared.step.Entry.{Entry}
use Rattle.bd_space.specs.declared.step.Step.TheVariants as step_of
use Rattle.bd_space.specs.Histories.{History, extended}
use Rattle.bd_engine.specs.Follows.{Follows}
use Rattle.bd_bridge.specs.{Waiting.{at}, Settled.{HasSettled}, Signals.{IsMade, answered, signals_of, seat_of, room_of}}
use Rattle.bd_bridge.specs.declared.signal.Signal.{Signal}
use Rattle.bd_bridge.specs.declared.signal.Signal.TheVariants.{Read, Bell}
use Rattle.bd_bridge_live.specs.Live.{MakesOrNot, FollowsTold, Sees, IsOf, CanWait, CanRest, after_read, answer_of}
use Rattle.bd_bridge_live.specs.declared.live.{LiveEngine.{LiveEngine}, NotMade.{NotMade}}
use Rattle.bd_c.specs.Told.{told_of_step}
use Rattle.bd_c.specs.Bridges.{IsTold, none_told, bell_told, read_told, status_of}
use Rattle.bd_c.specs.declared.answers.Told.{Told}
use Rattle.bd_c.specs.declared.bridges.SignalTold.{SignalTold}
use Rattle.bd_c.specs.declared.status.Status.{Status}
use Rattle.bd_c.specs.declared.status.Status.TheVariants.{Done}
use Rattle.bd_c.proofs.Settling.{settled_if, left_if}
use Rattle.bd_c.proofs.live.OwnedLive.settle.Goals as goal

-- what the live engine says of a read
abbrev ByLive : LiveEngine → Option Entry → ℕ → ℕ → Result (Unit {0}) NotMade → LiveEngine → Option Entry → Type 0
ByLive e k seat room r z k' = MakesOrNot e k seat (step_of.Read room) r z k'

pub returns-in-None : goal.returns-in-None
returns-in-None c =
    let b = c.is_settled-is_left.result in
    let left = ap (λ (t : SignalTold). t.is_left) c.none.ensures in
    let same = c.in-None.ensures.unmade refl in
    record {
      signal = None;
      is_told = (
        c.none.ensures ∙ ap none_told (sym left),
        record {
          latest = same.1;
          ended = refl;
          seats = ap (λ (e : LiveEngine). e.live.seats) same.0;
          follows = λ h f. subst (λ (e : LiveEngine). Follows e.live h) (sym same.0) f;
        },
      );
      on = λ h w. c.in-None.ensures.on h w.follows w.watched;
      settled = λ none h w. c.is_settled-is_left.ensures.settled (settled_if b c.none.result.is_left left none) h w.watched;
      progress = λ none le. left_if b c.none.result.is_left left (c.is_settled-is_left.ensures.empty (c.in-None.ensures.progress refl le));
      seats = c.in-None.ensures.seats;
      notes = record { noted = refl; changed = refl };
      lists = record { reached = refl; whole = refl };
    }

pub returns-in-Some-Bell : goal.returns-in-Some-Bell
returns-in-Some-Bell c =
    let x = c.args.self.now in
    let z = c.settle_one-signal.new.self in
    let k = c.settle_one-signal.new.kept in
    let b = c.is_settled-is_left.result in
    let seat = c.in-Some-Bell.seat in
    let rings = c.in-Some-Bell.rings in
    let is2 : c.in-Some-Bell.field-0 ≡ Bell seat rings = (rw c.in-Some-Bell.is refl) ∙ c.in-Some-Bell.field-0-is in
    let left = ap (λ (t : SignalTold). t.is_left) c.bell.ensures in
    let same = subst (λ (s : Signal (Result (Unit {0}) NotMade)). IsMade ByLive x.bridge.engine x.latest (at x.bridge.waiters (seat_of s)) s z.engine k) is2 c.in-Some-Bell.ensures-1.made in
    record {
      signal = Some (answered answer_of k c.in-Some-Bell.field-0);
      is_told = subst (λ (s : Signal (Result (Unit {0}) NotMade)). IsTold x (record x { bridge = z; latest = k }) (Some (answered answer_of k s)) c.bell.result) (sym is2) (
        c.bell.ensures ∙ ap (bell_told seat rings) (sym left),
        record {
          latest = same.1;
          ended = refl;
          seats = ap (λ (e : LiveEngine). e.live.seats) same.0;
          follows = λ h f. subst (λ (e : LiveEngine). Follows e.live h) (sym same.0) f;
        },
      );
      on = λ h w. c.in-Some-Bell.ensures-1.on h w.follows w.watched;
      settled = λ none h w. c.is_settled-is_left.ensures.settled (settled_if b c.bell.result.is_left left none) h w.watched;
      progress = λ none le. absurd cc;
      seats = c.in-Some-Bell.ensures-1.seats;
      notes = record { noted = refl; changed = refl };
      lists = record { reached = refl; whole = refl };
    }

pub returns-in-Ok : goal.returns-in-Ok
returns-in-Ok c =
    let x = c.args.self.now in
    let z = c.settle_one-signal.new.self in
    let k = c.settle_one-signal.new.kept in
    let b = c.is_settled-is_left.result in
    let seat = c.in-Some-Read.seat in
    let wakes = c.in-Some-Read.wakes in
    let told = c.read.result in
    let is2 : c.in-Some-Read.field-0 ≡ Read seat c.in-Some-Read.read wakes = (rw c.in-Some-Read.is refl) ∙ c.in-Some-Read.field-0-is in
    let is = is2 ∙ ap (λ (r : Result (Unit {0}) NotMade). Read seat r wakes) c.in-Ok.is in
    let all = subst (λ (s : Signal (Result (Unit {0}) NotMade)). IsMade ByLive x.bridge.engine x.latest (at x.bridge.waiters (seat_of s)) s z.engine k) is c.in-Some-Read.ensures-1.made in
    let entry = all.0 in
    let kept = all.1 in
    let made = all.2 in
    let y = record x { bridge = record z { engine = record z.engine { ended = c.swap.new.y } }; latest = k; ended = c.swap.new.x } in
    let left = ap (λ (t : SignalTold). t.is_left) c.read.ensures in
    let answer = ap (λ (t : SignalTold). t.answer) c.read.ensures in
    let room = room_of (at x.bridge.waiters seat) in
    let latest = subst (λ (o : Option Entry). IfSome o (λ e. (h : History) → Follows z.engine.live h → c.tell_latest-answer.result ≡ told_of_step e.answer c.len-from.result (length h.entries))) kept c.tell_latest-answer.ensures in
    let whole = ap (answered answer_of k) is ∙ ap (λ (o : Option Entry). Read seat (answer_of (Ok tt) o) wakes) kept in
    record {
      signal = Some (Read seat (Ok entry) wakes);
      is_told = (
        c.read.ensures ∙ ap (λ (l : Bool). read_told seat wakes l Done c.tell_latest-answer.result) (sym left) ∙ ap (λ (t : Told). read_told seat wakes told.is_left Done t) (sym answer),
        record {
          kept = kept;
          entry = λ i. record { seat = made.seat_is i; step = made.step_is i; answer = entry.answer };
          seats = made.seats;
          answered = λ h f. record {
            said = made.answer h f;
            shown = answer ∙ latest (extended h seat (step_of.Read room) entry.answer) (made.follows h f)
                ∙ ap (λ (n : ℕ). told_of_step entry.answer n (length (extended h seat (step_of.Read room) entry.answer).entries)) (c.len-from.ensures h f);
            ended = ap (λ v. v.items) c.swap.ensures.x_after ∙ made.ended h f;
            follows = made.follows h f;
          };
        },
      );
      on = λ h w.
          let now = subst (λ (s : Signal (Result Entry NotMade)). HasSettled FollowsTold Sees IsOf after_read CanWait CanRest h x.bridge.waiters (signals_of (Some s)) z.engine z.waiters z.suspects z.resting) whole
          (c.in-Some-Read.ensures-1.on h w.follows w.watched) in
          record { follows = record { follows = now.follows.follows; recalls = now.follows.recalls }; watched = now.watched; had = now.had };
      settled = λ none h w. c.is_settled-is_left.ensures.settled (settled_if b told.is_left left none) h w.watched;
      progress = λ none le. absurd cc;
      seats = c.in-Some-Read.ensures-1.seats;
      notes = record { noted = refl; changed = refl };
      lists = record { reached = refl; whole = refl };
    }

pub returns-in-Err : goal.returns-in-Err
returns-in-Err c =
    let x = c.args.self.now in
    let z = c.settle_one-signal.new.self in
    let k = c.settle_one-signal.new.kept in
    let b = c.is_settled-is_left.result in
    let seat = c.in-Some-Read.seat in
    let wakes = c.in-Some-Read.wakes in
    let told = c.read-in-Err.result in
    let is2 : c.in-Some-Read.field-0 ≡ Read seat c.in-Some-Read.read wakes = (rw c.in-Some-Read.is refl) ∙ c.in-Some-Read.field-0-is in
    let is = is2 ∙ ap (λ (r : Result (Unit {0}) NotMade). Read seat r wakes) c.in-Err.is in
    let all = subst (λ (s : Signal (Result (Unit {0}) NotMade)). IsMade ByLive x.bridge.engine x.latest (at x.bridge.waiters (seat_of s)) s z.engine k) is c.in-Some-Read.ensures-1.made in
    let made = all.1 in
    let left = ap (λ (t : SignalTold). t.is_left) c.read-in-Err.ensures in
    record {
      signal = Some (answered answer_of k c.in-Some-Read.field-0);
      is_told = subst (λ (s : Signal (Result (Unit {0}) NotMade)). IsTold x (record x { bridge = z; latest = k }) (Some (answered answer_of k s)) told) (sym is) (
        c.read-in-Err.ensures ∙ ap (λ (l : Bool). read_told seat wakes l c.status_of.result c.placed.result) (sym left)
            ∙ ap (λ (s : Status). read_told seat wakes told.is_left s c.placed.result) c.status_of.ensures ∙ ap (λ (t : Told). read_told seat wakes told.is_left (status_of c.in-Err.why) t) c.placed.ensures,
        record { latest = all.0; ended = refl; seats = made.seats; follows = made.follows },
      );
      on = λ h w. c.in-Some-Read.ensures-1.on h w.follows w.watched;
      settled = λ none h w. c.is_settled-is_left.ensures.settled (settled_if b told.is_left left none) h w.watched;
      progress = λ none le. absurd cc;
      seats = c.in-Some-Read.ensures-1.seats;
      notes = record { noted = refl; changed = refl };
      lists = record { reached = refl; whole = refl };
    }
