-- For NoticesAreDue: a Notice of an object is due exactly while its told values aren't what is so, since nothing is pending
-- between two steps; and each is made where it was missing.
use Rattle.bd_laws.proofs.words.Logic.{◌≡◌, ◌≤◌, Bool, true, List, refl, subst, filter, length, arith, list_all}
use Rattle.bd_laws.proofs.words.Types.{Identity, Object, Work}
use Rattle.bd_laws.proofs.words.Space.{Space, is_some_and, is_notice, wants_notice, has_notice_in, History, space_after}
use mathlib.Core.Bool.{beq}
use Rattle.bd_laws.proofs.words.Laws.{In, IsQuiet, Once}
use Rattle.bd_laws.proofs.Lists.{in_filter, any_found, all_in, pairs_map, pairs_filter}
use Rattle.bd_laws.proofs.Tests.{equal_tests, notice_kind}
use Rattle.bd_laws.proofs.Always.{always_tidy}
use Rattle.bd_laws.proofs.FollowingIsLocal.Finding.{find_only}
use Rattle.bd_laws.proofs.IsInTurn.InTurn.{at_most_one}
use Rattle.bd_audit.proofs.OwnersHearInOrder.Returns.{notice_is_of}

-- of each object there is a Notice where its owner is to be told, and else none
quiet_exact : (z : Space) → IsQuiet z → (x : Object) → In x z.objects → has_notice_in z.todo x.id ≡ wants_notice z.processes z.references x
quiet_exact z h x l = equal_tests _ _ wants (λ wanted. h.followed.made x l refl wanted)
  where
    wants : has_notice_in z.todo x.id ≡ true → wants_notice z.processes z.references x ≡ true
    wants has =
        let w = any_found (λ (w : Work). is_notice x.id w.kind) z.todo has in
        subst (λ o. is_some_and o (wants_notice z.processes z.references) ≡ true) (find_only z.objects x x.id h.differ l refl)
        (h.followed.notices w.0 x.id w.1 (notice_kind x.id w.0.kind w.2) refl)

one_notice : (o : Identity) (todo : List Work) → Once todo → length (filter (λ (w : Work). is_notice o w.kind) todo) ≤ 1
one_notice o todo h = search (arith, at_most_one, pairs_map, notice_is_of, in_filter, pairs_filter)

beq_same : (a b : Bool) → a ≡ b → beq a b ≡ true
beq_same a b h = search arith

pub notices_due : (h : History) → (list_all (λ x. beq (has_notice_in (space_after h).todo x.id) (wants_notice (space_after h).processes (space_after h).references x)) (space_after h).objects ≡ true)
    × ((o : Identity) → length (filter (λ w. is_notice o w.kind) (space_after h).todo) ≤ 1)
unfolding space_after
notices_due h = (
  all_in _ (space_after h).objects (λ x l. beq_same _ _ (quiet_exact (space_after h) (always_tidy h).quiet x l)),
  λ o. one_notice o (space_after h).todo (always_tidy h).once,
)
