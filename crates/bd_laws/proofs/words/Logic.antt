-- The words of logic, numbers and lists in which the laws' proofs speak, passed on from std.
pub use Rattle.std.proofs.Common.{Bool, Err, IfOk, IfSome, List, None, Ok, Option, Result, Some, [], add-one, ap, append-nil, append_assoc, arith, cond, drop, false, filter, find, get_or, inl, inr, length, length-append, map, ne_eqb, not, refl, reverse, rules, set, subst, suc, sym, take, true, zero, ℕ, ◌%◌, ◌&&◌, ◌++◌, ◌+◌, ◌-◌, ◌<◌, ◌==◌, ◌^◌, ◌||◌, ◌∙◌, ◌∷◌, ◌≡◌, ◌≤◌, ◌⊎◌}
pub use Rattle.std.proofs.Math.Bool.{or-false as or_false}
pub use Rattle.std.proofs.Math.ListN.{get_or-append}
pub use Rattle.std.proofs.Math.Seq.{get_or-append_seam}
pub use Rattle.std.proofs.lemmas.Bool.{cases_Bool, cases_lt, eq-eqb, eqb-true, le-leb, le-ltb, leb-true, lt-leb, lt-ltb, ltb-false, ltb-true}
pub use Rattle.std.proofs.lemmas.List.{get_or_default, length-take-le, map-append, reverse-append, take-append-drop, take-append-le, take-take as take_take, take_all, take_more}
pub use Rattle.std.proofs.lemmas.List.Edits.{map_over_more}
pub use Rattle.std.proofs.lemmas.List.Folds.{list_all-map, list_all_more, list_any-append}
pub use Rattle.std.proofs.lemmas.List.Sorted.{sorted_far}
pub use Rattle.std.proofs.lemmas.List.Sums.{sum_by-append, sum_by-cons}
pub use Rattle.std.proofs.lemmas.Option.{cond_some, option_and_then_some}
pub use Rattle.std.proofs.lemmas.Result.{err_from_is_err_and}
pub use Rattle.std.specs.Bool.{beq}
pub use Rattle.std.specs.Cmp.{IsStrictWeakOrder}
pub use Rattle.std.specs.List.{AllPairs, concat, cons_option, count_by, filter_map, flat_map, fold, list_all, list_any, slice_get}
pub use Rattle.std.specs.List.Sorted.{IsSortedBy}
pub use Rattle.std.specs.Option.{is_none, is_some, option_and_then, option_eq, option_map, option_or, option_to_list, unwrap_or}
pub use Rattle.std.specs.Ordering.{is_lt, nat_cmp, ordering_then}
pub use Rattle.std.specs.Prelude.{MatchResult, nat_le, nat_lt}
pub use Rattle.std.specs.declared.cmp.Ordering.TheVariants.{Equal, Greater, Less}
