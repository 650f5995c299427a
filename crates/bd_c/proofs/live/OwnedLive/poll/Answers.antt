use Rattle.std.proofs.Common.{rules, ◌≡◌, ◌-◌, ◌++◌, ◌∙◌, ℕ, false, length, take, drop, replicate, vec_len, refl, ap, arith}
use Rattle.std.proofs.Math.Seq.{take-append_seam}
use Rattle.bd_c.proofs.Noting.{polled}
use Rattle.bd_c.proofs.live.OwnedLive.poll.Goals as goal

pub returns : goal.returns
returns c =
    let x = c.args.self.now in
    let mid = c.as_mut_slice.result.now in
    let new = c.note_ready.new.noted in
    let rest = drop (length new) c.resize.new.self.items in
    let len : c.resize.new.self.len ≡ length new = omega (arith, c.as_mut_slice.ensures.len, c.note_ready.ensures.len) in
    let is = c.as_mut_slice.ensures.value ∙ c.in-Ok-resize.ensures.items ∙ ap (λ n. take n x.noted.items ++ replicate (n - vec_len x.noted) false) c.seats.ensures.field in
    let all : x.bridge.engine.live.seats ≡ length mid = omega (arith, c.as_mut_slice.ensures.len, c.in-Ok-resize.ensures.len, c.seats.ensures.field) in
    record {
      only = record { bridge = refl; latest = refl; ended = refl; lists = record { reached = refl; whole = refl } };
      noted = λ h follows.
          polled h x _ c.args.seats.now mid new c.note_ready.new.changed.items (x.bridge.engine.live.seats - vec_len x.noted) is all
          (ap (λ (k : ℕ). take k (new ++ rest)) len ∙ take-append_seam new rest) (ap (λ v. v.items) c.swap.ensures.x_after)
          (c.note_ready.ensures.seen h follows) (c.note_ready.ensures.changed h follows)
          (c.note_ready.ensures.once h follows) c.note_ready.ensures.inside;
      count_is = search rules;
    }
