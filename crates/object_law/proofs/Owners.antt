-- Owners of points and of places, and which of them are checked.
use Rattle.std.proofs.Common.{◌≡◌, ℕ, zero, suc, ◌+◌, ◌-◌, ◌<◌, Bool, true, false, not, ◌&&◌, cond, List, [], ◌∷◌, Option, Some, None, length, map, Contains, refl, sym, ap, ◌∙◌, arith, subst, inl, inr}
use Rattle.std.specs.Prelude.{is_some, is_none, option_map, option_and_then, unwrap_or, ◌==◌, nat_lt}
use Rattle.std.proofs.lemmas.Bool.{and_from, false≢true, eqb-true, lt-ltb, ne_eqb}
use Rattle.ot_base.specs.declared.place.Place.{Place}
use Rattle.ot_base.specs.Places.{same_place}
use Rattle.elf_objects.specs.Elf.{Elf}
use Rattle.flow_defs.specs.Coded.{Coded}
use Rattle.elf_objects.specs.Below.{least_below}
use Rattle.elf_objects.specs.Contents.{symbol_at}
use Rattle.elf_objects.proofs.LeastBelow.{IsLeast, least_below-none, least_below-some}
use Rattle.symbols_relocs.specs.Functions.{function_at, is_code, is_function, is_held_from, is_symbol_at, start_of, starts_at}
use Rattle.symbols_relocs.specs.Parts.{owner_at, owner_of, parent_of}
use Rattle.symbols_relocs.specs.Places.{earlier}
use Rattle.special_sections.specs.declared.entries.AltEntry.{AltEntry}
use Rattle.alternatives.specs.declared.point.Point.{Point}
use Rattle.alternatives.specs.Originals.{counted, entry_at}
use Rattle.alternatives.specs.Points.{address_of_point, entries_from, first_of, is_point}
use Rattle.alternatives.specs.Texts.{behind}
use Rattle.flow_defs.specs.Tables.{same_owner}
use Rattle.unwinding_law.proofs.Lists.{cases, from_filter, here, nowhere, there}
use Rattle.table_law.proofs.Equal.{same_place_is}
use Rattle.flow_defs.specs.Code.{alternatives_of, point_at, texts_of}
use Rattle.flow_defs.specs.Owners.{is_entry, is_entry_by, is_unchecked, is_unchecked_owner, owner_of_point}
use Rattle.flow_defs.specs.Arrival.{arrive}
use Rattle.object_law.proofs.Levels.{and_true, not_true}
use Rattle.object_law.proofs.Edges.{arrive_points}

-- one passes, so one is the least
some_least : (p : ℕ → Bool) (n k : ℕ) → k < n → p k ≡ true → is_some (least_below p n) ≡ true
some_least p n k inside passes = go (least_below p n) refl
  where
    go : (found : Option ℕ) → least_below p n ≡ found → is_some found ≡ true
    go None is = absurd (false≢true (sym (least_below-none p n is k inside) ∙ passes))
    go (Some j) is = refl

zero_least : (p : ℕ → Bool) (n : ℕ) → p 0 ≡ true → least_below p (n + 1) ≡ Some 0
zero_least p n passes = go (least_below p (n + 1)) refl
  where
    at : (k : ℕ) → IsLeast p (n + 1) k → k ≡ 0
    at zero least = refl
    at (suc k) least = absurd (false≢true (sym (least.lower 0 (omega arith)) ∙ passes))

    go : (found : Option ℕ) → least_below p (n + 1) ≡ found → least_below p (n + 1) ≡ Some 0
    go None is = absurd (false≢true (sym (least_below-none p (n + 1) is 0 (omega arith)) ∙ passes))
    go (Some k) is = is ∙ ap Some (at k (least_below-some p (n + 1) k is))

earlier_none : (place : Place) → earlier place 0 ≡ place
earlier_none place = ap (λ (off : ℕ). let p : Place = record { sec = place.sec; off = off } in p) {x = place.off - 0} {y = place.off} (omega arith)

above_zero : (n : ℕ) → (n == 0) ≡ false → 0 < n
above_zero zero e = absurd (false≢true (sym e))
above_zero (suc n) e = omega arith

-- a function that starts at a place is the one of the place
pub function_here : (o : Elf) (place : Place) (f : ℕ) → starts_at o place ≡ Some f → function_at o place ≡ Some f
function_here o place f is =
    let least = least_below-some (is_symbol_at o place) (length o.symbols) f is in
    let own = and_true (is_function o f) (same_place (start_of o f) place) least.passes in
    let sized = not_true ((symbol_at o f).size == 0) (and_true (is_code o f) (not ((symbol_at o f).size == 0)) own.0).1 in
    let some : 0 < (symbol_at o f).size = above_zero (symbol_at o f).size sized in
    let there : is_symbol_at o (earlier place 0) f ≡ true = subst (λ (p : Place). is_symbol_at o p f ≡ true) (sym (earlier_none place)) least.passes in
    let held : is_held_from o place 0 ≡ true = some_least (λ k. is_symbol_at o (earlier place 0) k && nat_lt 0 (symbol_at o k).size) (length o.symbols) f least.below (and_from _ _ there (lt-ltb 0 (symbol_at o f).size some)) in
    ap (option_and_then (λ bytes. starts_at o (earlier place bytes))) (zero_least (is_held_from o place) place.off held)
    ∙ ap (starts_at o) (earlier_none place)
    ∙ is

-- an entry's owner is the function that starts there, and it is checked
pub record IsEntry (o : Elf) (place : Place) : Type 0 where
  pub function : ℕ
  pub starts : starts_at o place ≡ Some function
  pub owner : owner_at o place ≡ Some function
  pub checked : is_unchecked o (owner_at o place) ≡ false

pub entry_is : (o : Elf) (place : Place) → is_entry o place ≡ true → IsEntry o place
unfolding is_entry
entry_is o place passes = go (starts_at o place) refl passes
  where
    own : (f : ℕ) (parent : Option ℕ) → is_none parent ≡ true → unwrap_or parent f ≡ f
    own f None e = refl
    own f (Some p) e = absurd (false≢true e)

    go : (start : Option ℕ) → starts_at o place ≡ start → is_entry_by o start ≡ true → IsEntry o place
    go None is e = absurd (false≢true e)
    go (Some f) is e =
        let parts = and_true (is_none (parent_of o f)) (not (is_unchecked_owner o f)) e in
        let owner : owner_at o place ≡ Some f = ap (option_map (owner_of o)) (function_here o place f is) ∙ ap Some (own f (parent_of o f) parts.0) in
        record { function = f; starts = is; owner = owner; checked = ap (is_unchecked o) owner ∙ not_true (is_unchecked_owner o f) parts.1 }

-- elements of a list of images
pub from_map : {X Y : Type 0} (g : X → Y) (xs : List X) (y : Y) → Contains (map g xs) y → (x : X) × Contains xs x × (g x ≡ y)
from_map g [] y c = nowhere y c
from_map g (x ∷ xs) y c = elim (cases (g x) (map g xs) y c) [
  | inl e ↦ (x, here x xs, e)
  | inr d ↦ let r = from_map g xs y d in (r.0, there x xs r.0 r.1, r.2)
]

behind_nothing : (place : Place) (n : ℕ) → behind place (n - n) ≡ place
behind_nothing place n = ap (λ (off : ℕ). let p : Place = record { sec = place.sec; off = off } in p) {x = place.off + (n - n)} {y = place.off} (omega arith)

first_address : (entries : List AltEntry) (k : ℕ) (place : Place) → same_place (entry_at entries k).original place ≡ true → address_of_point entries (first_of entries k) ≡ place
first_address entries k place is =
    let a = entry_at entries k in
    let not_plain : ((k + 1) == 0) ≡ false = ne_eqb (k + 1) 0 (λ e. omega (arith, e)) in
    let own : (k + 1) - 1 ≡ k = omega arith in
    ap (λ b. cond b a.replacement (let x = entry_at entries ((k + 1) - 1) in behind x.original (a.replacement.off - x.replacement.off))) not_plain
    ∙ ap (λ j. let x = entry_at entries j in behind x.original (a.replacement.off - x.replacement.off)) own
    ∙ behind_nothing a.original a.replacement.off
    ∙ same_place_is a.original place is

-- where control that comes to a place stands, it runs at that place
pub arrives_at : (o : Coded) (place : Place) (q : ℕ) → Contains (arrive o place) q → address_of_point (alternatives_of o) (point_at o q) ≡ place
arrives_at o place q c =
    let entries = alternatives_of o in
    let plain_one : Point = record { place = place; variant = 0 } in
    let firsts = map (first_of entries) (entries_from entries place) in
    let one = from_filter (is_point (texts_of o) entries) (plain_one ∷ firsts) (point_at o q) (arrive_points o place q c).1 in
    elim (cases plain_one firsts (point_at o q) one.0) [
      | inl plain ↦ ap (address_of_point entries) (sym plain)
      | inr first ↦
          let k = from_map (first_of entries) (entries_from entries place) (point_at o q) first in
          let own = from_filter (λ j. same_place (entry_at entries j).original place) (counted entries) k.0 k.1 in
          ap (address_of_point entries) (sym k.2) ∙ first_address entries k.0 place own.1
    ]

-- so its owner is that of the place
pub arriving_owner : (o : Coded) (place : Place) (q : ℕ) → Contains (arrive o place) q → owner_of_point o (point_at o q) ≡ owner_at o.elf place
arriving_owner o place q c = ap (owner_at o.elf) (arrives_at o place q c)

pub owners_equal : (a b : Option ℕ) → same_owner a b ≡ true → a ≡ b
owners_equal None None e = refl
owners_equal (Some a) (Some b) e = ap Some (eqb-true a b e)
owners_equal (Some a) None e = absurd (false≢true e)
owners_equal None (Some b) e = absurd (false≢true e)
