use Rattle.std.proofs.Common.{◌≡◌, ◌<◌, ◌∙◌, List, Some, length, get_or, sym, ap, arith}
use Rattle.std.specs.Prelude.{remove}
use Rattle.std.proofs.lemmas.List.{get_or_default}
use Rattle.bd_tickets.specs.declared.tickets.Parcel.{Parcel}
use Rattle.bd_tickets.specs.Held.{count_of, held_in, descriptors_of}
use Rattle.bd_tickets.proofs.Parcels.{held_less, is_here, others_left}
use Rattle.bd_tickets.proofs.tickets.Tickets.take.Goals as goal

pub returns-then-index-step-clause-which : goal.returns-then-index-step-clause-which
returns-then-index-step-clause-which c =
    let xs = c.loop-index.self.parcels.items in
    let i = c.loop-index.index in
    let p = c.remove-parcel.result in
    let lt : i < length xs = omega arith in
    let one : c.index.result.now ≡ get_or xs i p = c.index.ensures ∙ get_or_default xs i c.index.result.now p lt in
    let is : (get_or xs i p).step ≡ c.args.step = ap (λ (q : Parcel). q.step) (sym one) ∙ c.if-index-step.true in
    ap (λ (q : Parcel). Some q.descriptors.items) c.remove-parcel.ensures.value
    ∙ is_here xs i c.args.step p (descriptors_of c.args.step c.args.self.now.parcels.items) lt is c.loop-index.invariant.same

pub returns-then-index-step-clause-held : goal.returns-then-index-step-clause-held
returns-then-index-step-clause-held c = λ d.
    let xs = c.loop-index.self.parcels.items in
    let i = c.loop-index.index in
    let p = c.remove-parcel.result in
    let lt : i < length xs = omega arith in
    let before : held_in xs d ≡ held_in c.args.self.now.parcels.items d = ap (λ (ys : List Parcel). held_in ys d) c.loop-index.invariant.parcels in
    let less = held_less xs i p d lt in
    let after : held_in c.remove-parcel.new.self.items d ≡ held_in (remove xs i) d = ap (λ (ys : List Parcel). held_in ys d) c.remove-parcel.ensures.items in
    let own : count_of d p.descriptors.items ≡ count_of d (get_or xs i p).descriptors.items = ap (λ (q : Parcel). count_of d q.descriptors.items) c.remove-parcel.ensures.value in
    omega (arith, before, less, after, own)

pub returns-then-index-step-clause-others : goal.returns-then-index-step-clause-others
returns-then-index-step-clause-others c = λ s isnt.
    let xs = c.loop-index.self.parcels.items in
    let i = c.loop-index.index in
    let p = c.remove-parcel.result in
    let lt : i < length xs = omega arith in
    let one : c.index.result.now ≡ get_or xs i p = c.index.ensures ∙ get_or_default xs i c.index.result.now p lt in
    let is : (get_or xs i p).step ≡ c.args.step = ap (λ (q : Parcel). q.step) (sym one) ∙ c.if-index-step.true in
    others_left xs c.remove-parcel.new.self.items i c.args.step s p c.remove-parcel.ensures.items lt is isnt
    ∙ ap (descriptors_of s) c.loop-index.invariant.parcels
