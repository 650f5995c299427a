use Rattle.std.proofs.Common.{refl, ap, is_some, ◌∙◌}
use Rattle.slab.specs.Slab.{get, slab_len}
use Rattle.bd_chains.specs.Columns.{ends_of}
use Rattle.bd_chains.proofs.Tables.{kept_holds}
use Rattle.bd_chains.proofs.chains.Chains.reserve.Goals as goal

pub returns-in_err-made-clause-stands : goal.returns-in_err-made-clause-stands
returns-in_err-made-clause-stands g c = λ rs h.
    let items = c.reserve-made.ensures.rest_kept in
    kept_holds c.args.self.now _ rs h (λ k. ap (λ s. get s k) items) (ap slab_len items) (λ m. refl) (λ k m v is on. on)

pub returns-clause-stands : goal.returns-clause-stands
returns-clause-stands g c = λ rs h.
    let items = c.reserve-made.ensures.rest_kept in
    let ends = c.reserve.ensures.rest_kept in
    kept_holds c.args.self.now _ rs h (λ k. ap (λ s. get s k) items) (ap slab_len items) (λ m. ap (λ s. ends_of (get s m)) ends) (λ k m v is on. ap (λ s. is_some (get s m)) ends ∙ on)
