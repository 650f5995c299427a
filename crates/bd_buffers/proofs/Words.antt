-- The words in which the proofs speak, passed on from where they are defined.
pub use Rattle.std.proofs.Common.{All, Bool, List, None, Ok, Option, Some, ap, append-nil, arith, cond, drop, eq-eqb, false, find, get_or, inl, inr, length, ltb, map, ne_eqb, not, refl, rules, set, subst, suc, sym, take, tests, true, vec_len, zero, ℕ, [], ◌%◌, ◌*◌, ◌++◌, ◌+◌, ◌-◌, ◌/◌, ◌<◌, ◌∙◌, ◌∷◌, ◌≡◌, ◌≢◌, ◌≤◌, ◌⊎◌}
pub use Rattle.std.proofs.{Math.Bool.{and-false, and-true, and_assoc}, Math.ListN.{get_or-append}, Math.Seq.{drop-cons, map-set_same}, lemmas.Bool.{cases_Bool, eqb-true, le-leb, lt-leb, lt-ltb, ltb-false, ltb-true}, lemmas.Fn.{filter_same}}
pub use Rattle.std.proofs.{lemmas.Grind.{common_steps}, lemmas.List.{drop_all, get_or-map, get_or-set_same, get_or_default, get_or_push, length-map, length-set, length_push, map-append, map-set, map_push}}
pub use Rattle.std.proofs.{lemmas.List.Elements.{All-cons, All-filter, All-head, All-map, All-push, All-tail, All-weaker, filter-append, filter_more, filter_passes}, lemmas.List.Folds.{list_any-append}, lemmas.List.Kept.{AllPairs-filter}}
pub use Rattle.std.proofs.{lemmas.List.Quantifiers.{all_pairs_push, all_pairs_remove}, lemmas.List.Sorted.{IsPartitionPoint-from_clause, IsPartitionedBy-ltb, answers_always}, lemmas.List.Sums.{AllPass-from_list_all, list_all-from_AllPass, sum_by-cons}}
pub use Rattle.std.proofs.{lemmas.Map.Views.{any-filter_same}, lemmas.Option.{get_or_from_slice_get, slice_get-get_or, slice_get_cases, slice_get_past, slice_get_read}}
pub use Rattle.std.specs.{List.{between, list_all, list_any, slice_get}, List.Sorted.{IsBinarySearchResult, IsNonDecreasingBy, IsPartitionPoint, IsPartitionedBy, IsSearchInRange}, Option.{option_to_list}, Ordering.{nat_cmp}}
pub use Rattle.std.specs.{Prelude.{AllPairs, Err, IfErr, IfOk, IfSome, IsTrue, MatchOption, OnErr, OnOk, Result, filter, is_some, nat_le, option_copied, option_map, remove, slice_index, sum_by, unwrap_or, vec_capacity, ◌&&◌, ◌==◌, ◌||◌}, Result.{result_ok}}
pub use Rattle.bd_buffers.specs.{Buffer.{IsApart, IsPlaced, at_pointer, one_way_share, share_from}, Holes.{Covered, IsHoles, Spaced, in_bytes}, Homes.{AreHomes, Forgets, home_key}, Owners.{AreInOrder, StandsAt}}
pub use Rattle.bd_buffers.specs.{Record.{IsInMemory, IsSized, all_standing, bare, hand_over, is_record_at, made_of_record, record_in, standing, with_bytes}, Rows.{AreRows, IsLiveRow, IsWithout, ended, ends_empty, kept, live, live_places, lives}, Stands.{WindowTells}}
pub use Rattle.bd_buffers.specs.{Sums.{AreNoted, AreSums, noted, sum_at}, Window.{AreStarts, IsFree, IsInBudget, IsLeastFree, IsWindow, Keeps, Notes, Refuses, is_free_byte, is_free_unit, one_way_size}}
pub use Rattle.bd_buffers.specs.{WindowsStand.{AreMade, ProcessWindow, Stands, StandsFor, StandsIn, WindowsOf, buffers_held, is_of, is_owned_by, made_of_buffer, next_made, seen, window_of, with_buffers}, declared.ground.Ground.{Ground}}
pub use Rattle.bd_buffers.specs.{declared.owned.OwnedWindow.{OwnedWindow}, declared.record.Record.{Record}, declared.window.Window.{Window}, declared.windows.Windows.{Windows}}
pub use Rattle.bd_ground.proofs.{Bits.{IsIn, IsOut, in_or_out, is_in_false, is_in_true}, Tiling.{begins_of_least, tiles_same}}
pub use Rattle.bd_ground.specs.{Tiles.{Begins, IsLeastRun, IsRun, Tiles, is_in, with_span, without}, declared.spans.Spans.{Spans}}
pub use Rattle.bd_keys.proofs.{Found.{any_some, by_key, find_gone, find_stays, found_has, found_passes, none_found, tags_more}, Lists.{All_remove}}
pub use Rattle.bd_keys.proofs.Rising.{AllOthers, Distinct, Rising, distinct, filter_none, find_at, find_none, newest_all, newest_last, non_decreasing, pairs_head, pairs_tail, rest_differ}
pub use Rattle.bd_keys.specs.{Keys.{same_word}, Look.{look}, declared.key.WordKey.{WordKey}, declared.map.WordMap.{WordMap}}
pub use Rattle.bd_space.proofs.Keyed.{changed_at, changed_none, length_changed, pairs_changed, tags_changed}
pub use Rattle.bd_space.specs.{Freeing.{is_made_at, pointer}, ReadItems.{buffer_taken, hand_out, handed_buffers}, Returns.{buffer_in}, Seats.{lives_in, process_in}, Space.{Space}, Spam.{detecting, one_way_from}, Windows.{buffers_of, fits_in, needed}}
pub use Rattle.bd_space.specs.{Words.{and_then, changed, least, ok_or, round_up, unless, when}, declared.space.Buffer.{Buffer}, declared.space.Process.{Process}}
pub use Rattle.bd_uapi.specs.{declared.fault.Cause.{Cause}, declared.fault.Cause.TheVariants.{NoRoom, OverBudget}}
pub use denote.Ref.{Bor}
unfoldable pub use Rattle.bd_buffers.specs.{Stands.{CanHold}, WindowsStand.{CanAdd, HasBufferRoom}}
unfoldable pub use Rattle.bd_space.specs.{Delivery.{add_buffer}, Freeing.{without_buffer}, ProcessExits.{without_process}, ReadItems.{read_by}, Spam.{with_spam_detection}, Steps.{with_process}, Windows.{over_budget_in, start_for, start_in}}
