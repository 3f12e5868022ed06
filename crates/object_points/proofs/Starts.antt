-- The functions that start at a place: entries, and unchecked ones.
use Rattle.std.proofs.Common.{◌≡◌, ℕ, ◌<◌, Bool, true, false, not, eqb, ◌&&◌, List, length, map, Option, Some, None, if◌then◌else◌, refl, sym, ap, ◌∙◌, arith}
use Rattle.std.specs.Prelude.{is_none, is_some, option_and_then, option_map}
use Rattle.std.proofs.lemmas.Bool.{false≢true}
use Rattle.std.proofs.lemmas.Bool.Decides.{nat_tests}
use Rattle.std.proofs.lemmas.List.{get_or-map, length-map}
use Rattle.std.proofs.lemmas.List.Folds.{list_any_at}
use Rattle.ot_base.specs.declared.place.Place.{Place}
use Rattle.ot_base.specs.Places.{same_place}
use Rattle.elf_objects.specs.Elf.{Elf}
use Rattle.elf_objects.proofs.LeastBelow.{none-least_below}
use Rattle.symbols_relocs.specs.declared.function.Function.{Function}
use Rattle.symbols_relocs.specs.Functions.{is_function, is_symbol_at, start_of, starts_at}
use Rattle.symbols_relocs.specs.Lists.{no_function, symbol_of, AreFunctions}
use Rattle.symbols_relocs.specs.Parts.{owner_of, parent_of}
use Rattle.alternatives.proofs.Placed.{and_both}
use Rattle.object_points.specs.Places.{is_among as is_place_among}
use Rattle.flow_defs.specs.Owners.{is_entry, is_entry_by, is_unchecked_owner, unchecked_start}

-- the symbol of the function that an index looks up
pub start_known : (o elf : Elf) (fs : List Function) (place : Place) (found : Option ℕ) (f : ℕ) → elf ≡ o → option_map (symbol_of fs) found ≡ starts_at elf place → found ≡ Some f → starts_at o place ≡ Some (symbol_of fs f)
start_known o elf fs place found f same symbol is = ap (λ e. starts_at e place) (sym same) ∙ sym symbol ∙ ap (option_map (symbol_of fs)) is

pub none_starts : (o elf : Elf) (fs : List Function) (place : Place) (found : Option ℕ) → elf ≡ o → option_map (symbol_of fs) found ≡ starts_at elf place → found ≡ None → starts_at o place ≡ None
none_starts o elf fs place found same symbol is = ap (λ e. starts_at e place) (sym same) ∙ sym symbol ∙ ap (option_map (symbol_of fs)) is

none_is_some : (x : Option ℕ) → not (is_some x) ≡ is_none x
none_is_some None = refl
none_is_some (Some y) = refl

pub no_entry : (o : Elf) (place : Place) → starts_at o place ≡ None → false ≡ is_entry o place
unfolding is_entry
no_entry o place none = sym (ap (is_entry_by o) none)

pub entry_is : (o : Elf) (place : Place) (f : ℕ) (part among : Bool) → starts_at o place ≡ Some f → part ≡ is_some (parent_of o f) → among ≡ is_unchecked_owner o f → (not part && not among) ≡ is_entry o place
unfolding is_entry
entry_is o place f part among starts is_part is_among =
    ap (λ b. b && not among) (ap not is_part ∙ none_is_some (parent_of o f))
    ∙ ap (λ b. is_none (parent_of o f) && not b) is_among
    ∙ sym (ap (is_entry_by o) starts)

pub part_no_entry : (o : Elf) (place : Place) (f : ℕ) (part : Bool) → starts_at o place ≡ Some f → part ≡ is_some (parent_of o f) → part ≡ true → false ≡ is_entry o place
part_no_entry o place f part starts is_part true_part =
    ap (λ b. not b && not (is_unchecked_owner o f)) (sym true_part) ∙ entry_is o place f part (is_unchecked_owner o f) starts is_part refl

pub checked_entry : (o : Elf) (place : Place) (f : ℕ) (part among : Bool) → starts_at o place ≡ Some f → part ≡ is_some (parent_of o f) → part ≡ false → among ≡ is_unchecked_owner o f → not among ≡ is_entry o place
checked_entry o place f part among starts is_part false_part is_among =
    ap (λ b. not b && not among) (sym false_part) ∙ entry_is o place f part among starts is_part is_among

pub no_unchecked : (o : Elf) (place : Place) → starts_at o place ≡ None → None ≡ unchecked_start o place
unfolding unchecked_start
no_unchecked o place none = sym (ap (option_and_then (λ f. if is_unchecked_owner o (owner_of o f) then Some f else None)) none)

pub unchecked_is : (o : Elf) (place : Place) (f : ℕ) (among : Bool) → starts_at o place ≡ Some f → among ≡ is_unchecked_owner o (owner_of o f) → (if among then Some f else None) ≡ unchecked_start o place
unfolding unchecked_start
unchecked_is o place f among starts is_among =
    ap (λ b. if b then Some f else None) is_among
    ∙ sym (ap (option_and_then (λ g. if is_unchecked_owner o (owner_of o g) then Some g else None)) starts)

same_start : (a b c d : ℕ) → (eqb a c && eqb b d) ≡ true → (eqb c a && eqb d b) ≡ true
same_start a b c d same = grind (arith, nat_tests)

-- where a symbol of a function is, one of all functions starts
start_listed : (o : Elf) (fs : List Function) (place : Place) (k : ℕ) → AreFunctions o fs → k < length o.symbols → is_symbol_at o place k ≡ true → is_place_among (map (λ (f : Function). f.start) fs) place ≡ true
start_listed o fs place k all inside here =
    let both = and_both (is_function o k) (same_place (start_of o k) place) here in
    let f = all.all k inside both.0 in
    let start = start_of o k in
    let own : same_place place start ≡ true = same_start start.sec start.off place.sec place.off both.1 in
    list_any_at (same_place place) (map (λ (g : Function). g.start) fs) f.0 no_function.start (omega (arith, f.1, length-map fs (λ (g : Function). g.start)))
    (ap (same_place place) (get_or-map (λ (g : Function). g.start) fs f.0 no_function no_function.start f.1 ∙ f.2) ∙ own)

-- so no function starts at a place that is not among the starts
pub no_other_start : (o : Elf) (fs : List Function) (place : Place) → AreFunctions o fs → is_place_among (map (λ (f : Function). f.start) fs) place ≡ false → starts_at o place ≡ None
no_other_start o fs place all other = none-least_below (is_symbol_at o place) (length o.symbols) (λ k inside. by k inside (is_symbol_at o place k) refl)
  where
    by : (k : ℕ) → k < length o.symbols → (b : Bool) → is_symbol_at o place k ≡ b → is_symbol_at o place k ≡ false
    by k inside true here = absurd (false≢true (sym other ∙ start_listed o fs place k all inside here))
    by k inside false here = here
