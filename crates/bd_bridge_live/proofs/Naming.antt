-- Who is named by the lists that the engine has told.
use Rattle.std.proofs.Common.{◌≡◌, ◌⊎◌, ℕ, Bool, true, false, List, [], ◌∷◌, Option, Some, None, Result, Ok, Err, inl, inr, refl, sym, ap, subst, ◌∙◌, arith, map}
use Rattle.std.proofs.{lemmas.Bool.Decides.{nat_tests}, lemmas.Bool.{cases_eq}, lemmas.Grind.{common_steps}}
use Rattle.std.specs.List.{list_any}
use Rattle.std.specs.Prelude.{IfOk, IsSome, not}
use Rattle.bd_ways.specs.Words.{is_some_and}
use Rattle.bd_space.specs.{Todo.{list_to_read}, ReadItems.{none_due}}
use Rattle.bd_bridge.specs.Forgotten.{IsInformed}
use Rattle.bd_bridge.specs.declared.waiters.Waiter.{Waiter}
use Rattle.bd_bridge.specs.declared.engine.{Reached.{Reached}}
use Rattle.bd_bridge.specs.Reached.{is_read_by, names}
use Rattle.bd_space.specs.declared.space.TodoList as theirs
use Rattle.bd_space.specs.declared.space.TodoList.TheVariants.{OfThread, OfProcess}
use Rattle.bd_space.specs.declared.step.{Step.{Step}, StepAnswer.{StepAnswer}, Entry.{Entry}}
use Rattle.bd_space.specs.declared.step.Step.TheVariants.{Read}
use Rattle.bd_space.specs.Seats.{thread_in}
use Rattle.bd_space.specs.Histories.{History, space_after, extended, is_ready}
use Rattle.bd_engine.specs.Reached.{IsNamed, has_work, is_among}
use Rattle.bd_engine.proofs.Reaching.{these_name_all}
use Rattle.bd_bridge_live.specs.{Lists.{converted, AreNamed}, Live.{Sees, IsOf, IsCommand, answer_of, after_step, after_read, MakesOrNot}, declared.live.{LiveEngine.{LiveEngine}, NotMade.{NotMade}}}
use Rattle.bd_bridge_live.proofs.Threads.{others, actors, none_comes, reader}

among_own : (ls : List theirs.TodoList) (t p : ℕ) → is_among ls (OfThread t) ≡ true → list_any (is_read_by t p) (map converted ls) ≡ true
among_own [] t p e = cc
among_own (OfThread u ∷ ls) t p e = let later = among_own ls t p in grind (arith, nat_tests, common_steps, later)
among_own (OfProcess q ∷ ls) t p e = let later = among_own ls t p in grind (arith, nat_tests, common_steps, later)

among_process : (ls : List theirs.TodoList) (t p : ℕ) → is_among ls (OfProcess p) ≡ true → list_any (is_read_by t p) (map converted ls) ≡ true
among_process [] t p e = cc
among_process (OfThread u ∷ ls) t p e = let later = among_process ls t p in grind (arith, nat_tests, common_steps, later)
among_process (OfProcess q ∷ ls) t p e = let later = among_process ls t p in grind (arith, nat_tests, common_steps, later)

named_by : (r : Reached) (ls : List theirs.TodoList) (t p : ℕ) → r.lists.items ≡ map converted ls → list_any (is_read_by t p) (map converted ls) ≡ true → names r t p ≡ true
named_by r ls t p is e = grind (arith, common_steps)

module _ (h : History) (seat : ℕ) (x : Step) (answer : StepAnswer) (r : Reached) where
  abbrev h' : History
  h' = extended h seat x answer

  reached_by : (ls : List theirs.TodoList) → r.lists.items ≡ map converted ls → (t p : ℕ) → IsOf h t p → IsNamed ls (space_after h) (space_after h') t
      → (names r t p ≡ true) ⊎ (thread_in (space_after h').threads t ≡ None)
  reached_by ls is t p of (inl own) = inl (named_by r ls t p is (among_own ls t p own))
  reached_by ls is t p of (inr (inl (a, here, process))) =
      inl (named_by r ls t p is (among_process ls t p (subst (λ q. is_among ls (OfProcess q) ≡ true) (of a here) process)))
  reached_by ls is t p of (inr (inr ended)) = inr ended

  pub sees_on : AreNamed r (has_work (space_after h)) (space_after h') → (t p : ℕ) (b : Bool) → (t ≡ seat → ⊥) → IsOf h t p → Sees h t b → Sees h' t b ⊎ (names r t p ≡ true)
  sees_on (inl any) t p b apart of sees = inr (grind (arith, common_steps))
  sees_on (inr (ls, is, are)) t p b apart of (inr gone) =
      inl (inr (elim (others h seat x answer t apart) [ inl same ↦ same ∙ gone | inr ended ↦ ended ]))
  sees_on (inr (ls, is, are)) t p b apart of (inl ready) =
      elim (these_name_all h seat x answer ls t apart are) [
        | inl same ↦ inl (inl (same ∙ ready))
        | inr named ↦ elim (reached_by ls is t p of named) [ inl n ↦ inr n | inr ended ↦ inl (inr ended) ]
      ]

pub stays_on : (h : History) (seat : ℕ) (x : Step) (answer : StepAnswer) (t p : ℕ) → (t ≡ seat → ⊥) → IsOf h t p → IsOf (extended h seat x answer) t p
stays_on h seat x answer t p apart of = λ a here. by a here (others h seat x answer t apart)
  where
    by : (a : _) → thread_in (space_after (extended h seat x answer)).threads t ≡ Some a
        → (thread_in (space_after (extended h seat x answer)).threads t ≡ thread_in (space_after h).threads t) ⊎ (thread_in (space_after (extended h seat x answer)).threads t ≡ None) → a.process ≡ p
    by a here (inl same) = of a (sym same ∙ here)
    by a here (inr ended) = cc

-- ---- what was answered

pub any_names : (r : Reached) (t p : ℕ) → r.any ≡ true → names r t p ≡ true
any_names r t p any = grind (arith, common_steps)

-- the entry that is kept is of this step
pub of_step : (x y : LiveEngine) (k k' : Option Entry) (seat : ℕ) (z : Step) (o : Result (Unit {0}) NotMade) → MakesOrNot x k seat z o y k' → IfOk (answer_of o k') (λ e. e.step ≡ z)
of_step x y k k' seat z (Ok u) (e, is, made) = rw is made.step_is
of_step x y k k' seat z (Err why) (is, made) = tt

pub read_is : (h : History) (seat : ℕ) (x : Step) (r : Result Entry NotMade) → IfOk r (λ e. e.step ≡ x) → after_read h seat r ≡ after_step h seat x r
read_is h seat x (Ok e) is = ap (λ (y : Step). extended h seat y e.answer) is
read_is h seat x (Err why) is = refl

-- whoever acts stays with its process, and comes to none
acts_on : (h : History) (seat : ℕ) (x : Step) (answer : StepAnswer) (p : ℕ) → IsCommand x → IsOf h seat p → IsOf (extended h seat x answer) seat p
acts_on h seat x answer p command of = λ b has. by b has (thread_in (space_after h).threads seat) refl
  where
    by : (b : _) → thread_in (space_after (extended h seat x answer)).threads seat ≡ Some b → (o : _) → thread_in (space_after h).threads seat ≡ o → b.process ≡ p
    by b has None had = let none = none_comes h seat x answer command had in cc
    by b has (Some a) had = actors h seat x answer a b had has ∙ of a had

pub stays_step : (h : History) (seat : ℕ) (x : Step) (r : Result Entry NotMade) (t p : ℕ) → (t ≡ seat → ⊥) ⊎ IsCommand x → IsOf h t p → IsOf (after_step h seat x r) t p
stays_step h seat x (Err why) t p apart of = of
stays_step h seat x (Ok e) t p (inl apart) of = stays_on h seat x e.answer t p apart of
stays_step h seat x (Ok e) t p (inr command) of = same_or_not (cases_eq t seat)
  where
    same_or_not : (t ≡ seat) ⊎ (t ≡ seat → ⊥) → IsOf (extended h seat x e.answer) t p
    same_or_not (inl same) = subst (λ (u : ℕ). IsOf (extended h seat x e.answer) u p) (sym same) (acts_on h seat x e.answer p command (subst (λ (u : ℕ). IsOf h u p) same of))
    same_or_not (inr apart) = stays_on h seat x e.answer t p apart of

pub stays_read : (h : History) (seat room : ℕ) (r : Result Entry NotMade) → IfOk r (λ e. e.step ≡ Read room) → (t p : ℕ) → IsOf h t p → IsOf (after_read h seat r) t p
stays_read h seat room (Ok e) is t p of = λ a here. of a (sym (ap (λ ts. thread_in ts t) same) ∙ here)
  where
    same : (space_after (after_read h seat (Ok e))).threads ≡ (space_after h).threads
    same = ap (λ (y : Step). (space_after (extended h seat y e.answer)).threads) is ∙ reader h seat room e.answer
stays_read h seat room (Err why) is t p of = of

-- who reads and is rightly told isn't ready
pub rests : {L : Type 0} (h : History) (t : ℕ) (w : Waiter) → IsInformed (Sees h) t w ⊎ L → IsSome w.reads → (is_ready (space_after h) t ≡ false) ⊎ L
rests h t w (inl (inl ready, quiet)) reads = inl (ready ∙ quiet reads)
rests h t w (inl (inr gone, quiet)) reads = inl (ap (λ o. is_some_and o (λ a. not (none_due (list_to_read (space_after h) a)))) gone)
rests h t w (inr left) reads = inr left
