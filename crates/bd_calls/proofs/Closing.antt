-- Calls close one after the other: upwards, and those that are due.
use Rattle.std.proofs.Common.{◌≡◌, ℕ, zero, suc, not, List, [], ◌∷◌, filter, Option, Some, None, refl, ap, sym, subst, ◌∙◌}
use Rattle.std.specs.List.{cons_option}
use Rattle.bd_ways.specs.{Words.{Frame, OfThread, Space}, Local.{close_up}, Tables.{Tells, MakesAt}}
use Rattle.bd_uapi.specs.declared.command.Return.TheVariants.{DeadReply}
use Rattle.bd_space.specs.{declared.space.WorkKind.TheVariants.{Verdict}, Frames.{is_frame, closed}, Settle.{settle_one}, Todo.{owe}}
use Rattle.bd_frames.specs.Words.{abandoned_in}
use Rattle.bd_calls.specs.{declared.table.CallTable.{CallTable}, Stands.{StandsFor}, Closing.{close_first, close_due, IsClosing}}

-- ---- one call closes: its frame goes, and no step is counted

pub closes : (s : Space) (made : ℕ) (caller : Option ℕ) → let z = elim caller as (λ (o : Option ℕ). Space) [ None ↦ closed s made | Some t ↦ owe (closed s made) (OfThread t) (Verdict DeadReply) ] in
    (z.frames ≡ filter (λ g. not (is_frame made g)) s.frames) × (z.steps ≡ s.steps)
unfolding closed owe
closes s made None = (refl, refl)
closes s made (Some t) = (refl, refl)

-- ---- those that are due

pub due_stays : (n made : ℕ) (due : List ℕ) (s : Space) → abandoned_in s.frames made ≡ None → close_due n (made ∷ due) s ≡ close_due n due s
due_stays zero made due s none = refl
due_stays (suc n) made due s none = rw (none, close_due, close_first) refl

pub due_closes : (n made : ℕ) (due : List ℕ) (s : Space) (f : Frame) → abandoned_in s.frames made ≡ Some f
    → close_due (suc n) (made ∷ due) s ≡ close_due n (cons_option f.parent due) (settle_one s (Some f))
due_closes n made due s f found = rw (found, close_due, close_first) refl

-- upwards from one
pub due_up : (n : ℕ) (made : Option ℕ) (s : Space) → close_due n (cons_option made []) s ≡ close_up n made s
due_up zero made s = refl
due_up (suc n) None s = refl
due_up (suc n) (Some made) s = at (abandoned_in s.frames made) refl (λ f. due_up n f.parent (settle_one s (Some f)))
  where
    at : (o : Option Frame) → abandoned_in s.frames made ≡ o
        → ((f : Frame) → close_due n (cons_option f.parent []) (settle_one s (Some f)) ≡ close_up n f.parent (settle_one s (Some f)))
        → close_due (suc n) (made ∷ []) s ≡ close_up (suc n) (Some made) s
    at None none rest = rw (none, close_due, close_first, close_up) refl
    at (Some f) found rest = rw (found, close_due, close_first, close_up) (rest f)

-- ---- the table

pub closing_goes : (t u : CallTable) (place left k made : ℕ) (f : Frame) (due : List ℕ) (whole : Space) → left ≡ suc k
    → Tells (StandsFor t) (Some f) (λ s. abandoned_in s.frames made) → MakesAt place (StandsFor t) (StandsFor u) (λ s. settle_one s (Some f))
    → IsClosing t place left (made ∷ due) whole → IsClosing u place k (cons_option f.parent due) whole
closing_goes t u place left k made f due whole more tells makes h = record {
  mid = settle_one h.mid (Some f);
  stands = makes h.mid h.stands h.at;
  at = (closes h.mid f.made f.caller).1 ∙ h.at;
  goes_on = sym (due_closes k made due h.mid f (sym (tells h.mid h.stands))) ∙ sym (ap (λ n. close_due n (made ∷ due) h.mid) more) ∙ h.goes_on;
}

pub closing_stays : (t : CallTable) (place left made : ℕ) (due : List ℕ) (whole : Space) → Tells (StandsFor t) None (λ s. abandoned_in s.frames made)
    → IsClosing t place left (made ∷ due) whole → IsClosing t place left due whole
closing_stays t place left made due whole tells h = record {
  mid = h.mid;
  stands = h.stands;
  at = h.at;
  goes_on = sym (due_stays left made due h.mid (sym (tells h.mid h.stands))) ∙ h.goes_on;
}

-- none may close any more
pub closing_ends : (t : CallTable) (place left : ℕ) (due rest : List ℕ) (whole : Space) → left ≡ 0 → IsClosing t place left due whole → IsClosing t place 0 rest whole
closing_ends t place left due rest whole none h =
    record { mid = h.mid; stands = h.stands; at = h.at; goes_on = sym (ap (λ n. close_due n due h.mid) none) ∙ h.goes_on }

-- none is due any more
pub all_closed : (t : CallTable) (place left : ℕ) (due : List ℕ) (whole : Space) → due ≡ [] → IsClosing t place left due whole → StandsFor t whole
all_closed t place left due whole none h = subst (StandsFor t) (sym (over left) ∙ sym (ap (λ cs. close_due left cs h.mid) none) ∙ h.goes_on) h.stands
  where
    over : (n : ℕ) → close_due n [] h.mid ≡ h.mid
    over zero = refl
    over (suc n) = refl
