-- The owners that make room.
use Rattle.std.proofs.Common.{◌≡◌, ℕ, Bool, true, false, ◌+◌, ◌++◌, ◌&&◌, ◌||◌, List, [], ◌∷◌, length, map, Option, Some, None, if◌then◌else◌, refl, sym, ap, ◌∙◌}
use Rattle.std.specs.Prelude.{filter_map}
use Rattle.std.specs.List.{cons_option, list_any, range_with_len}
use Rattle.std.proofs.lemmas.List.Elements.{filter_map-append}
use Rattle.alternatives.proofs.Ranges.{range_more}
use Rattle.std.proofs.lemmas.List.FromFn.{fill_by_all}
use Rattle.flow_defs.specs.Tables.{same_owner}
use Rattle.alternatives.specs.declared.point.Point.{Point}
use Rattle.flow_defs.specs.Coded.{Coded}
use Rattle.flow_defs.specs.Arrival.{decoded_insn, is_room, makes_room}
use Rattle.flow_defs.specs.Code.{no_point, point_at, points_of_object}
use Rattle.flow_defs.specs.Owners.{owner_of_point}
use Rattle.object_points.specs.Unchecked.{is_among}
use Rattle.object_points.proofs.Found.{among_made}
use Rattle.point_arrivals.specs.Remade.{room_owner}

any_map : {X Y : Type 0} (test : Y → Bool) (f : X → Y) (xs : List X) → list_any test (map f xs) ≡ list_any (λ x. test (f x)) xs
any_map test f [] = refl
any_map test f (x ∷ xs) = ap (λ b. test (f x) || b) (any_map test f xs)

any_same : {X : Type 0} (p q : X → Bool) (xs : List X) → ((x : X) → p x ≡ q x) → list_any p xs ≡ list_any q xs
any_same p q [] same = refl
any_same p q (x ∷ xs) same = ap (λ b. b || list_any p xs) (same x) ∙ ap (λ b. q x || b) (any_same p q xs same)

with_room : (own : Bool) → own ≡ (own && true)
with_room true = refl
with_room false = refl

without_room : (own : Bool) → false ≡ (own && false)
without_room true = refl
without_room false = refl

one_room : (room : Bool) (own : Option ℕ) (owner : ℕ) → same_owner (if room then own else None) (Some owner) ≡ (same_owner own (Some owner) && room)
one_room true own owner = with_room (same_owner own (Some owner))
one_room false own owner = without_room (same_owner own (Some owner))

-- one more number
pub made_next : (h : ℕ → Option ℕ) (n : ℕ) (made : Option ℕ) → h n ≡ made → filter_map h (range_with_len 0 (n + 1)) ≡ filter_map h (range_with_len 0 n) ++ cons_option made []
made_next h n made is =
    ap (filter_map h) (range_more n)
    ∙ filter_map-append h (range_with_len 0 n) (n ∷ [])
    ∙ ap (λ o. filter_map h (range_with_len 0 n) ++ cons_option o []) is

-- it is among the owners of points that make room where it is that of one of them
pub all_rooms : (o : Coded) (owner : ℕ) → is_among (filter_map (room_owner o) (range_with_len 0 (length (points_of_object o)))) owner ≡ makes_room o (Some owner)
unfolding makes_room
all_rooms o owner =
    let numbers : List ℕ = range_with_len 0 (length (points_of_object o)) in
    let test : Point → Bool = λ (p : Point). same_owner (owner_of_point o p) (Some owner) && is_room (decoded_insn o p).op in
    among_made (room_owner o) numbers owner
    ∙ any_same (λ n. same_owner (room_owner o n) (Some owner)) (λ n. test (point_at o n)) numbers (λ n. one_room (is_room (decoded_insn o (point_at o n)).op) (owner_of_point o (point_at o n)) owner)
    ∙ sym (any_map test (point_at o) numbers)
    ∙ ap (list_any test) (sym (fill_by_all (point_at o) (points_of_object o) (length (points_of_object o)) no_point refl (λ k inside. refl)))
