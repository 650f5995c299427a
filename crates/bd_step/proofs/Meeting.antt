-- A step meets its definition, space by space.
use Rattle.bd_step.proofs.{Words.{Actor, Before, BinderCommand, Brief, Err, Fault, FullOnly, IsAny, IsBy, IsRare, IsRefused, IsStep, IsStepWritten, IsWritten, Meets, Ok, Option, Outcome, Parcel, Plain, Read, Refused, Result, Space, Step, StepAnswer, StepError, Tables, Within, actor, answer_of, ap, by_actor, has_number_past_limit, refl, refused, subst, sym, true, ℕ, ◌∙◌, ◌≡◌}, Standing.{within}}
use Rattle.bd_space.specs.declared.step.Step.TheVariants.{Command}

-- the tables stand for this outcome's space, and the answer is its answer
pub record IsOutcome (new : Tables) (answer : StepAnswer) (o : Outcome) : Type 0 where
  pub answered : answer ≡ o.answer
  pub stands : Within new o.space

pub meets : (old new : Tables) (P : Space → Type 0) (f : Space → Outcome) (answer : StepAnswer)
    → ((s : Space) → Before old s → P s → IsOutcome new answer (f s)) → Meets old new P f answer
meets old new P f answer k = record { answered = λ s h p. (k s h p).answered; stands = λ s h p. (k s h p).stands }

-- a step that is taken meets no other clause
pub taken_step : (old new : Tables) (P : Space → Type 0) (f : Space → Outcome) (x : Plain) → Meets old new P f (answer_of x) → IsStep old new P f (Ok x)
taken_step old new P f x m = record { ok = m; err = tt; full = tt }

-- steps that change nothing
pub is_refused : (t : Tables) (s : Space) (x : Fault) → Before t s → IsOutcome t (Refused x) (refused s x)
is_refused t s x h = record { answered = refl; stands = within t s h }

-- what the definition does by cases, in the case that is so
pub in_case : {B : Type 0} (new : Tables) (answer : StepAnswer) (f : B → Outcome) (x y : B) → x ≡ y → IsOutcome new answer (f y) → IsOutcome new answer (f x)
in_case new answer f x y e k = subst (λ b. IsOutcome new answer (f b)) (sym e) k

-- ---- one definition said as another

module _ (old : Tables) (P Q : Space → Type 0) (f g : Space → Outcome) (same : (s : Space) → Before old s → Q s → P s × (g s ≡ f s)) where
  as_meets : (new : Tables) (answer : StepAnswer) → Meets old new P f answer → Meets old new Q g answer
  as_meets new answer m = record {
    answered = λ s h q. let k = same s h q in m.answered s h k.0 ∙ ap (λ (o : Outcome). o.answer) (sym k.1);
    stands = λ s h q. let k = same s h q in subst (λ (o : Outcome). Within new o.space) (sym k.1) (m.stands s h k.0);
  }

  as_refused : (why : StepError) → IsRefused old P f why → IsRefused old Q g why
  as_refused why m = λ s h q. let k = same s h q in subst (λ (o : Outcome). FullOnly why (has_number_past_limit o.space.names ≡ true)) (sym k.1) (m s h k.0)

  pub as_step : (new : Tables) (r : Result Plain StepError) → IsStep old new P f r → IsStep old new Q g r
  as_step new (Ok x) m = record { ok = as_meets new (answer_of x) m.ok; err = tt; full = tt }
  as_step new (Err why) m = record { ok = tt; err = m.err; full = as_refused why m.full }

  module _ (new : Tables) (kept : StepAnswer → Type 0) (answer : StepAnswer) where
    pub as_step_written : (r : Result Brief StepError) → IsStepWritten old new kept P f answer r → IsStepWritten old new kept Q g answer r
    as_step_written (Ok x) m = record { ok = as_meets new answer m.ok; brief = m.brief; held = m.held; err = tt; full = tt }
    as_step_written (Err why) m = record { ok = tt; brief = tt; held = m.held; err = m.err; full = as_refused why m.full }

-- ---- answers that take no memory, written

module _ (old new : Tables) (kept : StepAnswer → Type 0) (P : Space → Type 0) (f : Space → Outcome) (answer : StepAnswer) (plain : (x : Plain) → kept (answer_of x)) where
  pub written_step : (r : Result Plain StepError) (t : Result Brief StepError) → IsWritten r t answer → IsStep old new P f r → IsStepWritten old new kept P f answer t
  written_step (Ok x) t is m =
      subst (IsStepWritten old new kept P f answer) (sym is.0) (record { ok = subst (Meets old new P f) (sym is.1) m.ok; brief = is.1; held = subst kept (sym is.1) (plain x); err = tt; full = tt })
  written_step (Err why) t is m = subst (IsStepWritten old new kept P f answer) (sym is) (record { ok = tt; brief = tt; held = tt; err = m.err; full = m.full })

-- ---- the step of a live thread, said as one of the thread's

module _ (old : Tables) (a : Actor) (f : Space → Outcome) where
  -- where the definition asks for no live thread
  module _ (g : Space → Outcome) (same : (s : Space) → f s ≡ g s) where
    pub any_step : (new : Tables) (r : Result Plain StepError) → IsStep old new IsAny g r → IsStep old new (IsBy a) f r
    any_step new r m = as_step old IsAny (IsBy a) g f (λ s h by. (by.tidy, same s)) new r m

  module _ (g : Space → Actor → Outcome) (same : (s : Space) → f s ≡ by_actor s (actor s a.thread.seat) (g s)) where
    pub by_same : (s : Space) → Before old s → IsBy a s → IsBy a s × (f s ≡ g s a)
    by_same s h by = (by, same s ∙ ap (λ o. by_actor s o (g s)) by.acts)

    pub by_step : (new : Tables) (r : Result Plain StepError) → IsStep old new (IsBy a) (λ s. g s a) r → IsStep old new (IsBy a) f r
    by_step new r m = as_step old (IsBy a) (IsBy a) (λ s. g s a) f by_same new r m

pub is_rare : (x : Step) → ((c : BinderCommand) (parcel : Option Parcel) → x ≡ Command c parcel → ⊥) → ((limit : ℕ) → x ≡ Read limit → ⊥) → IsRare x
is_rare (Command c parcel) k l = k c parcel refl
is_rare (Read limit) k l = l limit refl
is_rare _ k l = tt
