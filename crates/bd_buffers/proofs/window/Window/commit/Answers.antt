use Rattle.bd_buffers.proofs.Words.{CanHold, Ground, Window, all_standing, ap, arith, one_way_from, refl, standing, [], ◌++◌, ◌+◌, ◌<◌, ◌∙◌, ◌∷◌, ◌≡◌}
use Rattle.bd_buffers.proofs.{Noted.{IsNew, begins, is_new, keeps_pushed, with_new}, Standing.{all_of}}
use Rattle.bd_buffers.proofs.window.Window.commit.Goals as goal

pub lay-record-requires-clause-inside : goal.lay-record-requires-clause-inside
lay-record-requires-clause-inside c = omega (arith, ap (λ (v : Window). v.reach) c.self.view_is)

pub note-requires : goal.note-requires
note-requires c = omega (arith, ap (λ (v : Window). v.reach) c.self.view_is)

pub raise-requires-clause-room : goal.raise-requires-clause-room
raise-requires-clause-room c = omega (arith, ap (λ (v : Window). v.room) c.self.view_is)

pub push-requires-clause-room : goal.push-requires-clause-room
push-requires-clause-room c = omega (arith, ap (λ (v : Window). v.room) c.self.view_is)

pub push-requires-clause-newest : goal.push-requires-clause-newest
push-requires-clause-newest c =
    let m = c.self.inside.ground.memory in
    all_of (standing m) (λ b. b.made < c.lay-record.result.made) c.self.inside.buffers.records (rw (c.lay-record.ensures.made) (rw (← c.self.view_is) at c.requires.newest))

comes : (c : goal.After-push) → IsNew c.lay-record.result c.self.inside.buffers.records c.self.inside.ground c.lay-record.new.memory
unfolding CanHold
comes c = is_new c.args.buffer c.lay-record.result c.self.inside.buffers.records c.self.inside.ground c.lay-record.new.memory c.lay-record.ensures.standing
    (rw (← c.self.view_is) at c.requires.newest) c.requires.sized (rw (← c.self.view_is) at c.requires.can_take) c.lay-record.ensures.others

pub invariant_of-self : goal.invariant_of-self
invariant_of-self c =
    let g = c.self.inside.ground in let rs = c.self.inside.buffers.records in
    let r = c.lay-record.result in
    let left : Ground = record {
      size = g.size;
      one_way = g.one_way + c.one_way_share.result;
      senders = c.raise.new.sums;
      starts = c.note.new.starts;
      spans = c.take.new.self;
      memory = c.lay-record.new.memory;
    } in
    let reach = ap (λ (v : Window). v.reach) c.self.view_is in
    let taken = c.take.ensures.tiles _ c.self.invariant.notes.tiles (begins r rs g left c.self.invariant (comes c)) (record { holes = omega (arith, reach); begins = omega (arith, reach) }) in
    rw c.push.ensures.records (keeps_pushed r rs g left c.self.invariant (comes c) c.lay-record.ensures.inside c.lay-record.ensures.len refl c.take.ensures.size taken
    c.note.ensures.at c.note.ensures.others (ap (λ n. g.one_way + n) c.one_way_share.ensures) (c.raise.ensures.sums (one_way_from (all_standing g.memory rs)) c.self.invariant.notes.sums))

pub returns-clause-stands : goal.returns-clause-stands
returns-clause-stands c = λ n xs is.
    let g = c.self.inside.ground in
    let new = with_new c.lay-record.result c.self.inside.buffers.records g (record g { memory = c.lay-record.new.memory }) c.self.invariant (comes c) in
    let all : all_standing c.lay-record.new.memory c.push.new.self.records ≡ all_standing g.memory c.self.inside.buffers.records ++ c.args.buffer ∷ [] = rw (c.push.ensures.records, ← c.lay-record.ensures.standing) new in
    record { size_is = ap (λ (v : Window). v.size) c.self.view_is ∙ is.size_is; buffers_are = all ∙ ap (λ (v : Window). v.buffers ++ c.args.buffer ∷ []) c.self.view_is ∙ ap (λ xs. xs ++ c.args.buffer ∷ []) is.buffers_are }
