-- The items of points, by their numbers; and which points stand in code that no symbol covers.
use Rattle.std.proofs.Common.{◌≡◌, ℕ, ◌+◌, ◌-◌, ◌*◌, ◌<◌, ◌≤◌, Bool, true, false, not, ◌&&◌, eqb, leb, ltb, List, [], ◌∷◌, ◌++◌, Option, None, Some, length, get_or, refl, sym, ap, ◌∙◌, subst, arith}
use Rattle.std.specs.Prelude.{IfSome, is_some, nat_lt, option_and_then, slice_get}
use Rattle.std.specs.List.{AllByRecursion, range_with_len}
use Rattle.std.proofs.lemmas.List.Folds.{list_any_at}
use Rattle.std.proofs.lemmas.List.FromFn.{get_or-range_with_len, length-range_with_len}
use Rattle.std.proofs.lemmas.Bool.{false≢true}
use Rattle.std.proofs.lemmas.Bool.Decides.{nat_tests}
use Rattle.std.proofs.lemmas.Option.{slice_get-get_or}
use Rattle.ot_base.specs.declared.place.Place.{Place}
use Rattle.ot_base.specs.Places.{same_place}
use Rattle.elf_objects.specs.declared.symbol.Home.{Home}
use Rattle.elf_objects.specs.declared.symbol.Home.TheVariants as homes
use Rattle.elf_objects.specs.declared.TheConstants.{STT_FUNC, STT_SECTION}
use Rattle.elf_objects.specs.Below.{least_below}
use Rattle.elf_objects.proofs.LeastBelow.{least_below-some}
use Rattle.elf_objects.specs.Contents.{is_text, section_at, symbol_at}
use Rattle.elf_objects.specs.Elf.{Elf}
use Rattle.symbols_relocs.specs.Covers.{is_behind_symbol, is_covered, is_home_of, is_symbol_of, is_uncovered}
use Rattle.symbols_relocs.specs.NamedCode.{is_byte_of}
use Rattle.symbols_relocs.specs.Places.{earlier, home_section, is_text_home}
use Rattle.symbols_relocs.specs.Extents.{have_byte, have_start}
use Rattle.symbols_relocs.specs.Functions.{bytes_before, function_at, is_code, is_function, is_held_from, is_symbol_at, start_of, starts_at}
use Rattle.symbols_relocs.specs.declared.extents.Extent.{Extent}
use Rattle.program_graph.specs.declared.parts.Owner.{Owner}
use Rattle.alternatives.specs.Points.{address_of_point}
use Rattle.alternatives.specs.declared.texts.SectionText.{SectionText}
use Rattle.alternatives.proofs.Ascending.{every-in, every-map, every-passes}
use Rattle.alternatives.proofs.Opened.{point_has_text}
use Rattle.flow_defs.specs.Coded.{Coded}
use Rattle.flow_defs.specs.Code.{alternatives_of, body_of, point_at, points_of_object, text_numbers, texts_of}
use Rattle.flow_defs.specs.Owners.{function_of_point, owner_of_point}
use Rattle.object_points.specs.declared.code_owners.CodeOwner.{CodeOwner}
use Rattle.object_points.specs.CodeOwners.{IsItemBy, TellOwners, TellsOwner}
use Rattle.object_points.specs.Owners.{AreCovered, IsOwnerBy, all_owners, fourfold, owner_by}
use Rattle.object_points.proofs.Fourfold.{fourfold_length, loose_at, plain_at, which}
use Rattle.object_points.proofs.Points.{numbered_point}

pub if_some : {X : Type 0} (P : X → Type 0) (found : Option X) (x : X) → found ≡ Some x → P x → IfSome found P
if_some P found x is holds = subst (λ o. IfSome o P) (sym is) holds

-- an item, as the graph has it
as_owner : (o : Elf) (f own : Option ℕ) (loose uncovered patches l u p : Bool) (x : CodeOwner) → IsItemBy o f own x → p ≡ patches → l ≡ loose → u ≡ uncovered → IsOwnerBy o f own patches loose uncovered (owner_by x l u p)
as_owner o f own loose uncovered patches l u p x is patched loosened covered = record {
  function = sym is.function;
  owner = sym is.owner;
  unchecked = sym is.unchecked;
  patches = sym patched;
  loose = sym loosened;
  covered = sym covered;
}

no_owner : CodeOwner
no_owner = record { function = None; owner = None; is_unchecked = false }

module _ (o : Coded) (items : List CodeOwner) (numbers : List ℕ) (told : TellOwners o items numbers) (n : ℕ) (inside : n < length (points_of_object o)) where
  pub number : ℕ
  number = get_or numbers n 0

  own : TellsOwner o.elf items (address_of_point (alternatives_of o) (point_at o n)) number
  unfolding number
  own = told.each n number (slice_get-get_or numbers n 0 (omega (arith, inside, told.long)))

  pub number_inside : get_or numbers n 0 < length items
  unfolding number
  number_inside = own.inside

  pub item : CodeOwner
  item = get_or items number no_owner

  item_at : slice_get items number ≡ Some item
  unfolding item
  item_at = slice_get-get_or items number no_owner own.inside

  pub item_is : IsItemBy o.elf (function_of_point o (point_at o n)) (owner_of_point o (point_at o n)) item
  item_is = own.is item item_at

  pub plain_owner : (some loose uncovered patches u p : Bool) → p ≡ patches → false ≡ loose → u ≡ uncovered → IfSome (slice_get (all_owners some items) (4 * get_or numbers n 0 + which u p)) (IsOwnerBy o.elf (function_of_point o (point_at o n)) (owner_of_point o (point_at o n)) patches loose uncovered)
  unfolding number
  plain_owner some loose uncovered patches u p patched loosened covered =
      if_some (IsOwnerBy o.elf (function_of_point o (point_at o n)) (owner_of_point o (point_at o n)) patches loose uncovered) (slice_get (all_owners some items) (4 * number + which u p)) (owner_by item false u p)
      (plain_at some items number item u p item_at)
      (as_owner o.elf (function_of_point o (point_at o n)) (owner_of_point o (point_at o n)) loose uncovered patches false u p item item_is patched loosened covered)

  pub loose_owner : (loose uncovered patches u p : Bool) → p ≡ patches → true ≡ loose → u ≡ uncovered → IfSome (slice_get (all_owners true items) (4 * length items + (4 * get_or numbers n 0 + which u p))) (IsOwnerBy o.elf (function_of_point o (point_at o n)) (owner_of_point o (point_at o n)) patches loose uncovered)
  unfolding number
  loose_owner loose uncovered patches u p patched loosened covered =
      if_some (IsOwnerBy o.elf (function_of_point o (point_at o n)) (owner_of_point o (point_at o n)) patches loose uncovered) (slice_get (all_owners true items) (4 * length items + (4 * number + which u p))) (owner_by item true u p)
      (loose_at items number item u p item_at)
      (as_owner o.elf (function_of_point o (point_at o n)) (owner_of_point o (point_at o n)) loose uncovered patches true u p item item_is patched loosened covered)

-- how many items there are
length_both : (xs ys : List Owner) → length (xs ++ ys) ≡ length xs + length ys
length_both [] ys = omega arith
length_both (x ∷ xs) ys = omega (arith, length_both xs ys)

pub some_owners : (some : Bool) (items : List CodeOwner) → 4 * length items ≤ length (all_owners some items)
some_owners true items = omega (arith, length_both (fourfold false items) (fourfold true items), fourfold_length false items)
some_owners false items = omega (arith, length_both (fourfold false items) [], fourfold_length false items)

pub more_owners : (items : List CodeOwner) → length (all_owners true items) ≡ 8 * length items
more_owners items = omega (arith, length_both (fourfold false items) (fourfold true items), fourfold_length false items, fourfold_length true items)

pub few_which : (u p : Bool) → which u p < 4
few_which true true = omega arith
few_which true false = omega arith
few_which false true = omega arith
few_which false false = omega arith

-- ---- points stand in texts
every_text : (o : Coded) → AllByRecursion (λ (t : SectionText). is_text (section_at o.elf t.sec) ≡ true) (texts_of o)
unfolding texts_of
every_text o = every-map (λ (t : SectionText). is_text (section_at o.elf t.sec) ≡ true) (λ (i : ℕ). record { sec = i; text = body_of o i }) (text_numbers o.elf) (every-passes (λ (i : ℕ). is_text (section_at o.elf i)) (range_with_len 0 (length o.elf.sections)))

pub point_text : (o : Coded) (n : ℕ) → n < length (points_of_object o) → is_text (section_at o.elf (point_at o n).place.sec) ≡ true
point_text o n inside =
    let has = point_has_text (texts_of o) (alternatives_of o) (point_at o n) (numbered_point o n inside) in
    ap (λ (i : ℕ). is_text (section_at o.elf i)) (sym has.sec) ∙ every-in (λ (t : SectionText). is_text (section_at o.elf t.sec) ≡ true) (texts_of o) has.t (every_text o) has.is_in

-- ---- code of functions is covered
true_both : (a b : Bool) → (a && b) ≡ true → (a ≡ true) × (b ≡ true)
true_both true b h = (refl, h)
true_both false b h = absurd (false≢true h)

home_is : (o : Elf) (sec : ℕ) (h : Home) → is_text_home o h ≡ true → eqb (home_section h) sec ≡ true → is_home_of sec h ≡ true
home_is o sec (homes.Section i) text same = same
home_is o sec homes.Undefined text same = absurd (false≢true text)
home_is o sec homes.Absolute text same = absurd (false≢true text)
home_is o sec homes.Common text same = absurd (false≢true text)

of_function : (kind : ℕ) → eqb kind STT_FUNC ≡ true → not (eqb kind STT_SECTION) ≡ true
of_function kind is = grind (arith, nat_tests)

held_numbers : (s p a b n size : ℕ) → n < b + 1 → (eqb s p && eqb a (b - n)) ≡ true → ltb n size ≡ true → (eqb s p && (leb a b && ltb b (a + size))) ≡ true
held_numbers s p a b n size low same more = grind (arith, nat_tests)

both : (a b : Bool) → a ≡ true → b ≡ true → (a && b) ≡ true
both true b x y = y
both false b x y = absurd (false≢true x)

zero_more : (k : ℕ) → 0 + k ≡ k
zero_more k = omega arith

module _ (o : Elf) (place : Place) where
  holds : ℕ → ℕ → Bool
  holds bytes k = is_symbol_at o (earlier place bytes) k && nat_lt bytes (symbol_at o k).size

  covered_by : (bytes k : ℕ) → bytes < place.off + 1 → k < length o.symbols → holds bytes k ≡ true → is_covered o place ≡ true
  unfolding holds
  covered_by bytes k low inside h =
      let s = symbol_at o k in
      let parts = true_both (is_symbol_at o (earlier place bytes) k) (nat_lt bytes s.size) h in
      let at = true_both (is_function o k) (same_place (start_of o k) (earlier place bytes)) parts.0 in
      let code = true_both (is_code o k) (not (eqb s.size 0)) at.0 in
      let is = true_both (eqb s.kind STT_FUNC) (is_text_home o s.home) code.0 in
      let section = true_both (eqb (home_section s.home) place.sec) (eqb s.value (place.off - bytes)) at.1 in
      list_any_at (λ j. is_symbol_of o place.sec j && is_byte_of o j place) (range_with_len 0 (length o.symbols)) k k (omega (arith, inside, length-range_with_len 0 (length o.symbols)))
      (subst (λ j. (is_symbol_of o place.sec j && is_byte_of o j place) ≡ true) (sym (get_or-range_with_len 0 (length o.symbols) k k inside ∙ zero_more k))
      (both (is_symbol_of o place.sec k) (is_byte_of o k place)
      (both (is_home_of place.sec s.home) (not (eqb s.kind STT_SECTION)) (home_is o place.sec s.home is.1 section.0) (of_function s.kind is.0))
      (held_numbers (home_section s.home) place.sec s.value place.off bytes s.size low at.1 parts.1)))

  by_symbol : (bytes : ℕ) → bytes < place.off + 1 → (found : Option ℕ) → least_below (holds bytes) (length o.symbols) ≡ found → is_some found ≡ true → is_covered o place ≡ true
  by_symbol bytes low None e h = absurd (false≢true h)
  by_symbol bytes low (Some k) e h = let w = least_below-some (holds bytes) (length o.symbols) k e in covered_by bytes k low w.below w.passes

  by_bytes : (f : ℕ) (found : Option ℕ) → bytes_before o place ≡ found → option_and_then (λ bytes. starts_at o (earlier place bytes)) found ≡ Some f → is_covered o place ≡ true
  unfolding holds
  by_bytes f None e h = absurd (let z : ⊥ = cc in z)
  by_bytes f (Some bytes) e h = let w = least_below-some (is_held_from o place) (place.off + 1) bytes e in by_symbol bytes w.below (least_below (holds bytes) (length o.symbols)) refl w.passes

  pub function_covered : (f : ℕ) → function_at o place ≡ Some f → is_covered o place ≡ true
  function_covered f h = by_bytes f (bytes_before o place) refl h

pub none_uncovered : (o : Elf) (place : Place) (f : Option ℕ) → function_at o place ≡ f → is_some f ≡ true → false ≡ is_uncovered o place
unfolding is_uncovered
none_uncovered o place None is h = absurd (false≢true h)
none_uncovered o place (Some f) is h = sym (ap (λ (b : Bool). is_behind_symbol o place && not b) (function_covered o place f is) ∙ none (is_behind_symbol o place))
  where
    none : (b : Bool) → (b && false) ≡ false
    none true = refl
    none false = refl

pub left_out : (o : Elf) (covered : List Extent) (place : Place) → AreCovered o covered → is_text (section_at o place.sec) ≡ true → (have_start covered place && not (have_byte covered place)) ≡ is_uncovered o place
unfolding is_uncovered
left_out o covered place are text = ap (λ (b : Bool). b && not (have_byte covered place)) (are.starts place text) ∙ ap (λ (b : Bool). is_behind_symbol o place && not b) (are.bytes place text)

-- none has a byte where there is none
pub no_bytes : (es : List Extent) (place : Place) → length es ≡ 0 → have_byte es place ≡ false
no_bytes [] place none = refl
no_bytes (e ∷ es) place none = absurd (omega (arith, none))
