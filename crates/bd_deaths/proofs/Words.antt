-- The words in which the proofs speak, passed on from where they are defined.
pub use Rattle.std.proofs.Math.{Bool.{and-false, and-true, or-false}}
pub use Rattle.std.proofs.Common.{All, Bool, List, None, Option, Some, [], ap, arith, cond, drop, eqb, eqb-true, false, filter, find, get_or, inl, inr, is_some, length, map, not, refl, rules, subst, suc, sym, take, true, zero, ℕ, ◌%◌, ◌&&◌, ◌*◌}
pub use Rattle.std.proofs.Common.{◌++◌, ◌+◌, ◌-◌, ◌<◌, ◌==◌, ◌^◌, ◌||◌, ◌∙◌, ◌∷◌, ◌≡◌, ◌≤◌, ◌⊎◌}
pub use Rattle.std.proofs.lemmas.{Bool.{and_parts, eq-eqb, eqb-false, false_from_ne_true, ne_eqb, or_cases, or_left, or_right}, Iterator.{Consumers.{YieldsList-at, YieldsList-end, YieldsList-from_first}}, Map.{Keys.{IsStrictlyIncreasing-dedup}}}
pub use Rattle.std.proofs.lemmas.Result.{err_from_is_err_and}
pub use Rattle.std.proofs.lemmas.List.{Elements.{All-cons, All-filter, All-head, All-map, All-push, All-tail}, Filters.{dedup_is}, Folds.{list_any-append, list_any_more}}
pub use Rattle.std.proofs.lemmas.List.{Kept.{AllPairs-cons, AllPairs-filter, AllPairs-from_increasing, Contains-dedup_nat, Contains-from_dedup}, Quantifiers.{all_pairs_push}, Sorted.{list_any-IsPermutation}}
pub use Rattle.std.proofs.lemmas.List.{Sums.{count_by-le-length, sum_by-cons, sum_by_push}, get_or-map, length-map, map-append, map-id, take_all}
pub use Rattle.std.specs.{HashMap.{get_by, spare}, Iterator.{YieldsFirst}, List.{Contains, Sorted.{IsStrictlyIncreasing}, dedup, list_any}, Prelude.{AllPairs, count_by, min, option_map}}
pub use Rattle.bd_chains.proofs.{Listing.{dropped_shows, on_list}, Rowing.{drop_none}}
pub use Rattle.bd_chains.specs.{Lists.{lists_room}, Rows.{Row, drop_key, keys, on_some, values, values_on}}
pub use Rattle.bd_deaths.specs.{Changes.{in_phase, queued, with_cleared}, Due.{is_armed_on, is_due, is_due_at, is_queued_in, queued_on}, Numbers.{deaths_at, due_numbers, is_any_at, is_at, is_due_entry, is_due_number, is_for_another, number_of}}
pub use Rattle.bd_deaths.specs.{Only.{only_uncleared_in}, Room.{Uses}, Shared.{AreKept, AreShared, cookie_of, count_at, count_of, has_cookie, is_told_of, one_if, told_at, told_of}, Stands.{DeathsAre}}
pub use Rattle.bd_deaths.specs.declared.{kept.{Kept.{Kept}, Mark.{Mark}, Watch.{Watch}}, key.{NameKey.{NameKey}}, sharers.{Sharers.{Sharers}}, table.{DeathTable.{DeathTable}}}
pub use Rattle.bd_deaths.specs.Entries.{Apart, EntriesAre, Entry, Fits, ObjectsShow, ProcessesShow, asks_on, at_of, by_object, by_process, death_of, first_at, is_told_in, kept_at, kept_of, made_of, mark_of, name_at, name_of, object_number}
pub use Rattle.bd_deaths.specs.Entries.{object_row, place_at, process_number, process_row, same_name, same_object, same_process, watch_of}
pub use Rattle.bd_keys.proofs.{Found.{found_has, found_passes, none_found}, Keys.{word_eq, word_self}, Lists.{eqb_turned}, Options.{none_mapped}, Rising.{AllOthers, Distinct, filter_none, find_none, has, pairs_head, pairs_tail, rest_differ, without}}
pub use Rattle.bd_keys.proofs.Tables.{uses_none, uses_then}
pub use Rattle.bd_keys.specs.{Keys.{same_word}, Look.{look, word_room}, declared.{key.{WordKey.{WordKey}}, map.{WordMap.{WordMap}}}}
pub use Rattle.bd_space.proofs.{Identities.{same_eq, same_turned}, Keyed.{changed_none}}
pub use Rattle.bd_space.specs.{Deaths.{is_notification, is_told, is_told_with, is_uncleared_on, uncleared_in}, ProcessExits.{is_armed}, ReadItems.{is_told_of_death}, References.{owned_in}, Words.{is_some_and, same}}
pub use Rattle.bd_space.specs.declared.{space.{Phase.{TheVariants.{Armed, Done, Told}}, Work.{Work}}}
pub use Rattle.bd_ways.specs.{Local.{at_name, is_among}, Words.{DeathNotification, Identity, Object, Phase, Queued, changed}}
pub use Rattle.slab.specs.Slab.{Slab, Updates, get, slab_len}
unfoldable pub use Rattle.bd_deaths.specs.Room.{death_count, death_room}
