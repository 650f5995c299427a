use Rattle.bd_objects.proofs.Words.{made_items, sym, ◌∙◌}
use Rattle.bd_objects.proofs.Later.{found_split, none_above}
use Rattle.bd_objects.proofs.made.Made.find_own.Goals as goal

pub returns-in-Some : goal.returns-in-Some
returns-in-Some c = found_split c.args.self.now.first (made_items c.args.self.now) c.args.p c.args.ptr _ c.in-Some.ensures

pub returns-in-None : goal.returns-in-None
returns-in-None c =
    c.get.ensures ∙ c.args.self.now.found _
    ∙ found_split c.args.self.now.first (made_items c.args.self.now) c.args.p c.args.ptr _ c.in-None.ensures

pub returns-then-ptr-self : goal.returns-then-ptr-self
returns-then-ptr-self c = sym (none_above c.args.self.now.highest (made_items c.args.self.now) c.args.self.now.not_higher c.args.p c.args.ptr c.if-ptr-self.true)
