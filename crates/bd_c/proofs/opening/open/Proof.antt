-- `open` reads the pointer, and hands on what the handle owns.
use Rattle.std.proofs.Common.{◌≡◌, List, [], ◌∷◌, ◌++◌, refl, sym, ◌∙◌, subst}
use mir.Val.{Val, vptr}
use base.Logic.{SProp, ent, emp, id⊢}
use base.Fml.{ftrue}
use prog.Wp.{WpFn}
use types.Kit.{‵, raw, ◌⊛◌, ◌$◌, ◌∵◌, !, qed, by, move, keep, drop, split, fsplit, fjoin, suffices, use0}
use types.Run.{stop, fld, of_opd, no_more, and_then, returns, enter}
use types.ByLocal.{alloc_all, pass_all, free_all, look_at, get, get_in, sets}
use types.Part.{agg, sub, whole}
use contract.Monad.{fact, fact_i}
use contract.Running.{tables}
use denote.Exit.{yes}
use denote.RattleType.{RattleType, owns}
use denote.Signature.{types_at, plain}
use denote.RawPtr.{block_ptr}
use denote.Steps.{nothing, heard}
use denote.Triple.Walked.{Stays, stay_dropped, walk_of, Goes-dropped}
use Rattle.core.proofs.alloc.Calls.{handle_tells}
use Rattle.std_heap.specs.contracts.Global as heap
use Rattle.std_heap.proofs.Global.TheLaws as heap_laws
use Rattle.std.specs.contracts.impls.GlobalAllocator.TheImpl.{ghosts}
use Rattle.bd_c.specs.contracts.held.Held as held
use Rattle.bd_c.specs.contracts.handles.Handle as handle
use Rattle.std.proofs.raw_atomic.Walks.{proved_at, leaves}
use Rattle.bd_c.proofs.Values.{both, loose_good, loose_in, al}
use Rattle.std.specs.Prelude.{Some}
use Rattle.bd_c.specs.declared.held.Held.{Held}
use Rattle.bd_c.proofs.HandleSteps.{handle_out, word_of}
use Rattle.bd_c.specs.contracts.opening.open.{ended, clauses}
use Rattle.bd_c.specs.contracts.opening.open.Key.{name as #self}
use Rattle.bd_c.proofs.opening.open.Statement.{statement}
use Rattle.bd_c.proofs.opening.open.Code as code

some_same : {x y : Held} → Some x ≡ Some y → x ≡ y
some_same e = cc

pub open_spec : {M : Type 1} → statement M
open_spec 𝓤 𝓛 𝓜 𝓡 wired =
    let H = 𝓛.H in let 𝓣 = tables 𝓤 H 𝓜 𝓡 𝓡.env in let R : RattleType = held.the_row in let Z : RattleType = heap.the_row in let LZ = heap_laws.the_row_laws in
    let En = ended in let c = clauses 𝓛 𝓜.mem 𝓡.returns in let fn = code.function in
    let hs : Stays En.signature.params En.kept = (stay_dropped (plain (λ _. Z)) yes, (stay_dropped (plain (λ _. handle.the_row)) yes, tt)) in
    proved_at 𝓛 En hs c 𝓜 𝓡 (Goes-dropped 𝓛 0 (plain (λ _. Z)) yes (λ κs x f. refl), (Goes-dropped 𝓛 0 (plain (λ _. handle.the_row)) yes (λ κs x f. refl), tt)) #self fn (code.unfolded 𝓤 H 𝓜 𝓡 wired) (λ z are.
    let κs = z.0.0 in let Post : Val → SProp 𝓤 = (walk_of 𝓛 En hs c).post z in let Run : List Val → SProp 𝓤 = λ ws. WpFn 𝓤 H 𝓣.C 𝓣.Λ fn ws Post in
    let a = z.0.3.0 in let v = z.0.3.1.0 in let Asked : Type 0 = (x : Held) × (v.held ≡ Some x) in
    qed 𝓛 ((‵ ftrue ⊛ ‵ (owns (types_at En.signature.params κs) z.0.3 z.0.4)) ∷ raw (fact 𝓤 Asked) ∷ []) ∵ move ! (1 ∷ []) $ heard ! Asked (λ asked. let x : Held = asked.0 in split ! $ drop ! $ fsplit ! $
    -- [the allocator; the handle and nothing]
    handle_tells (al R Z LZ ghosts) ! a z.0.4.0 (λ hv ea fits. move ! (1 ∷ []) $ fsplit ! $ handle_out ! v x z.0.4.1.0 asked.1 (λ b o e eh.
    let w : Val = word_of (vptr b o) in let made = loose_good R Z LZ ghosts b o hv fits in
    suffices ! (Run (hv ∷ w ∷ [])) (subst (λ (us : List Val). ent 𝓤 (Run (hv ∷ w ∷ [])) (Run us)) (sym (λ i. ea i ++ (eh i ++ []))) (id⊢ 𝓤 (Run (hv ∷ w ∷ [])))) $
    enter ! 𝓣.C 𝓣.Λ fn (hv ∷ w ∷ []) Post $ alloc_all ! (λ l. pass_all ! refl (fits, ((tt, (tt, tt)), tt)) $
    sets ! (of_opd ! (get_in ! (fld ! refl (stop !)) (sub ! 0 refl (whole !)))) refl (tt, tt) $ sets ! (of_opd ! (get ! refl)) refl (tt, tt) $
    sets ! (agg ! (and_then ! (get ! refl) (and_then ! (get ! refl) (no_more !)))) refl made $
    move ! (0 ∷ 2 ∷ []) $ loose_in R Z LZ ghosts ! b o hv a x $
    use0 𝓛 (raw (fact 𝓤 ((y : Held) → v.held ≡ Some y → x ≡ y))) (fact_i 𝓤 ((y : Held) → v.held ≡ Some y → x ≡ y) (emp 𝓤) (λ y e. some_same (sym asked.1 ∙ e))) $
    nothing ! $ nothing ! $ fjoin ! $ nothing ! $ fjoin ! $
    returns ! (look_at ! 0 refl) $ free_all ! refl $ keep ! (3 ∷ 0 ∷ 2 ∷ 1 ∷ []) $
    by ! (leaves 𝓛 En hs c z (both (vptr b o) hv) (record { at = block_ptr b o; alloc = a; value = x }) (tt, (tt, tt)) (tt, (tt, tt))))))))
