-- Completions are counted.
use Rattle.std.proofs.Common.{◌≡◌, ℕ, ◌+◌, ◌-◌, ◌<◌, ◌^◌, Bool, true, false, List, [], ◌∷◌, refl, ◌∙◌, arith}
use Rattle.std.specs.Prelude.{not, ◌==◌, ◌&&◌, ◌||◌, if◌then◌else◌}
use Rattle.std.proofs.lemmas.Bool.{eqb-true, ne_eqb}
use Rattle.bd_reader.specs.declared.reader.{Reader.{Reader}, Kind.{Kind}}
use Rattle.bd_reader.specs.declared.reader.Kind.TheVariants.{Call, OneWay, Reply}
use Rattle.bd_reader.specs.declared.reader.Outcome.TheVariants.{Taken}
use Rattle.bd_reader.specs.Readers.{more, fewer, is_of_object, is_completion, is_refusal, without_reply, without_call, ended, read_more, read, sent, told}
use Rattle.bd_reader.specs.Returns.{read_all, told_all}
use Rattle.bd_reader.specs.Facts.{completions_in, CompletionsAreCounted}

same_of : (c : Bool) (x y : Reader) (n : ℕ) → x.completed ≡ n → y.completed ≡ n → (if c then x else y).completed ≡ n
same_of true x y n p q = p
same_of false x y n p q = q

of_other : (c : Bool) (x y : Reader) (n : ℕ) → c ≡ false → y.completed ≡ n → (if c then x else y).completed ≡ n
of_other true x y n e q = absurd cc
of_other false x y n e q = q

of_this : (c : Bool) (x y : Reader) (n : ℕ) → c ≡ true → x.completed ≡ n → (if c then x else y).completed ≡ n
of_this true x y n e p = p
of_this false x y n e p = absurd cc

ended_same : (s : Reader) → (ended s).completed ≡ s.completed
ended_same s = same_of (s.refusals == 0) (record s { calling = fewer s.calling; is_prompt = 1 }) (record s { refusals = fewer s.refusals; is_prompt = 1 }) s.completed refl refl

neither : (a b : Bool) → (a || b) ≡ false → (a ≡ false) × (b ≡ false)
neither false false e = (refl, refl)
neither false true e = absurd cc
neither true b e = absurd cc

read_other : (code : ℕ) (one_way : Bool) (s : Reader) → is_completion code ≡ false → (read code one_way s).completed ≡ s.completed
read_other code one_way s apart =
    let n = neither (code == 0x7206) (code == 0x7213) apart in
    same_of (code == 0x720c) s _ s.completed refl
    (same_of (code == 0x80407202) (record s { serving = if one_way then s.serving else more s.serving; is_prompt = 1 }) _ s.completed refl
    (same_of (code == 0x80407203) (record s { calling = fewer s.calling; is_prompt = 1 }) _ s.completed refl
    (same_of (is_refusal code) (ended s) (read_more code s) s.completed (ended_same s)
    (of_other (code == 0x7206) (record s { completions = fewer s.completions; completed = more s.completed }) _ s.completed n.0
    (of_other (code == 0x7213) (record s { completed = more s.completed; is_prompt = 1 }) _ s.completed n.1
    (same_of (code == 0x80087210) (record s { clearings = fewer s.clearings; is_prompt = 1 }) _ s.completed refl
    (same_of (not (s.calling == 0) && is_of_object code) s (record s { is_prompt = 1 }) s.completed refl refl)))))))

read_first : (one_way : Bool) (s : Reader) → (read 0x7206 one_way s).completed ≡ more s.completed
read_first one_way s = refl

read_second : (one_way : Bool) (s : Reader) → (read 0x7213 one_way s).completed ≡ more s.completed
read_second one_way s = refl

read_completion : (code : ℕ) (one_way : Bool) (s : Reader) → is_completion code ≡ true → (read code one_way s).completed ≡ more s.completed
read_completion code one_way s is = by (code == 0x7206) (code == 0x7213) refl refl is
  where
    by : (a b : Bool) → (code == 0x7206) ≡ a → (code == 0x7213) ≡ b → (a || b) ≡ true → (read code one_way s).completed ≡ more s.completed
    by true b p q e = rw (eqb-true code 0x7206 p) (read_first one_way s)
    by false true p q e = rw (eqb-true code 0x7213 q) (read_second one_way s)
    by false false p q e = absurd cc

more_is : (n : ℕ) → n < 0xffffffff → more n ≡ n + 1
more_is n lt = rw (ne_eqb n 0xffffffff (λ e. omega (arith, lt, e))) refl

fewer_is : (n : ℕ) → fewer n ≡ n - 1
fewer_is n = by (n == 0) refl
  where
    by : (b : Bool) → (n == 0) ≡ b → (if b then 0 else n - 1) ≡ n - 1
    by true e = let none = eqb-true n 0 e in omega (arith, none)
    by false e = refl

read_counts : (rs : List (ℕ × Bool)) (s : Reader) → s.completed + completions_in rs < 2 ^ 32 → (read_all rs s).completed ≡ s.completed + completions_in rs
read_counts [] s lt = omega arith
read_counts (r ∷ rs) s lt = by (λ p. read_counts rs (read r.0 r.1 s) p) (is_completion r.0) refl
  where
    by : ((read r.0 r.1 s).completed + completions_in rs < 2 ^ 32 → (read_all rs (read r.0 r.1 s)).completed ≡ (read r.0 r.1 s).completed + completions_in rs)
        → (b : Bool) → is_completion r.0 ≡ b → (read_all rs (read r.0 r.1 s)).completed ≡ s.completed + ((if is_completion r.0 then 1 else 0) + completions_in rs)
    by rest true e =
        let all : completions_in (r ∷ rs) ≡ 1 + completions_in rs = rw e refl in
        let here = read_completion r.0 r.1 s e ∙ more_is s.completed (omega (arith, all, lt)) in
        rest (omega (arith, here, all, lt)) ∙ omega (arith, here, all)
    by rest false e =
        let all : completions_in (r ∷ rs) ≡ 0 + completions_in rs = rw e refl in
        let here = read_other r.0 r.1 s e in
        rest (omega (arith, here, all, lt)) ∙ omega (arith, here, all)

told_completion : (code : ℕ) (s : Reader) → is_completion code ≡ true → (told code s).completed ≡ s.completed - 1
told_completion code s is =
    of_this (is_completion code) (record s { completed = fewer s.completed; untold = fewer s.untold; refusal = without_reply (fewer s.untold) s.refusal }) _ (s.completed - 1) is (fewer_is s.completed)

told_other : (code : ℕ) (s : Reader) → is_completion code ≡ false → (told code s).completed ≡ s.completed
told_other code s apart =
    of_other (is_completion code) (record s { completed = fewer s.completed; untold = fewer s.untold; refusal = without_reply (fewer s.untold) s.refusal }) _ s.completed apart
    (same_of (is_refusal code) (record s { refusal = without_call s.refusal }) s s.completed refl refl)

told_counts : (rs : List (ℕ × Bool)) (s : Reader) → (told_all rs s).completed ≡ s.completed - completions_in rs
told_counts [] s = omega arith
told_counts (r ∷ rs) s = by (told_counts rs (told r.0 s)) (is_completion r.0) refl
  where
    by : (told_all rs (told r.0 s)).completed ≡ (told r.0 s).completed - completions_in rs
        → (b : Bool) → is_completion r.0 ≡ b → (told_all rs (told r.0 s)).completed ≡ s.completed - ((if is_completion r.0 then 1 else 0) + completions_in rs)
    by rest true e =
        let all : completions_in (r ∷ rs) ≡ 1 + completions_in rs = rw e refl in
        rest ∙ omega (arith, told_completion r.0 s e, all)
    by rest false e =
        let all : completions_in (r ∷ rs) ≡ 0 + completions_in rs = rw e refl in
        rest ∙ omega (arith, told_other r.0 s e, all)

sent_same : (kind : Kind) (s : Reader) → (sent kind Taken s).completed ≡ s.completed
sent_same Call s = refl
sent_same OneWay s = refl
sent_same Reply s = refl

pub counted : CompletionsAreCounted
counted = record {
  read = read_counts;
  told = told_counts;
  sent = sent_same;
  delivered = λ is_left is_ready s. refl;
}
