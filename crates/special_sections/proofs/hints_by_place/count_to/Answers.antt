use Rattle.std.proofs.Common.{◌≡◌, ℕ, ◌<◌, ◌≤◌, Bool, true, false, not, List, length, get_or, arith, rules, tests, ap}
use Rattle.std.proofs.lemmas.List.Sorted.{IsPartitionPoint-from_clause}
use Rattle.ot_base.specs.declared.place.Place.{Place}
use Rattle.ot_base.specs.Places.{is_before}
use Rattle.special_sections.specs.declared.entries.HintEntry.{HintEntry}
use Rattle.special_sections.specs.Places.{AreByPlace}
use Rattle.special_sections.proofs.Order.{up_to_in_front}
use Rattle.special_sections.proofs.hints_by_place.count_to.Goals as goal

was_false : (b : Bool) → not b ≡ true → b ≡ false
was_false true is = cc
was_false false is = cc

was_true : (b : Bool) → not b ≡ false → b ≡ true
was_true true is = cc
was_true false is = cc

-- those up to a place stand in front
parted : (hints : List HintEntry) (place : Place) → AreByPlace hints → (i j : ℕ) (d : HintEntry) → i ≤ j → j < length hints → not (is_before place (get_or hints j d).place) ≡ true → not (is_before place (get_or hints i d).place) ≡ true
parted hints place by i j d order inside up_to =
    ap not (up_to_in_front (get_or hints i d).place (get_or hints j d).place place (by i j d order inside) (was_false (is_before place (get_or hints j d).place) up_to))

pub returns-clause-upto : goal.returns-clause-upto
returns-clause-upto c =
    let point = IsPartitionPoint-from_clause (λ (h : HintEntry). not (is_before c.args.place h.place)) c.args.hints.now c.partition_point.result c.partition_point.ensures.partitioned
    (parted c.args.hints.now c.args.place c.requires) (λ a r f k. search (rules, tests)) in
    λ k d h. was_false (is_before c.args.place (get_or c.args.hints.now k d).place) (point.0 k d (omega arith) h)

pub returns-clause-behind : goal.returns-clause-behind
returns-clause-behind c =
    let point = IsPartitionPoint-from_clause (λ (h : HintEntry). not (is_before c.args.place h.place)) c.args.hints.now c.partition_point.result c.partition_point.ensures.partitioned
    (parted c.args.hints.now c.args.place c.requires) (λ a r f k. search (rules, tests)) in
    λ k d h i. was_true (is_before c.args.place (get_or c.args.hints.now k d).place) (point.1 k d h i)
