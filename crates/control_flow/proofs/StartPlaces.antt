-- The functions of an object by the places of its text.
use Rattle.std.proofs.Common.{◌≡◌, ℕ, ◌+◌, ◌<◌, Bool, true, false, cond, not, ◌&&◌, ◌||◌, eqb, leb, ltb, List, [], ◌∷◌, length, get_or, map, find, Option, Some, None, Contains, inl, inr, refl, sym, ap, ◌∙◌, subst, arith, if◌then◌else◌}
use Rattle.std.specs.Prelude.{filter_map, is_some, option_map, slice_get}
use Rattle.std.specs.List.{cons_option, flat_map, range_with_len}
use Rattle.std.specs.List.Sorted.{IsStrictlySortedBy}
use Rattle.std.specs.Ordering.{is_lt}
use Rattle.std.specs.declared.cmp.Ordering.{Ordering}
use Rattle.std.specs.declared.cmp.Ordering.TheVariants.{Less, Equal, Greater}
use Rattle.std.proofs.lemmas.Bool.{false≢true}
use Rattle.std.proofs.lemmas.Bool.Decides.{nat_tests}
use Rattle.std.proofs.lemmas.List.{get_or-map, get_or_default, length-map}
use Rattle.std.proofs.lemmas.Map.Keys.{sorted_from_all_adjacent}
use Rattle.ot_base.specs.declared.place.Place.{Place}
use Rattle.ot_base.specs.Places.{same_place, place_cmp}
use Rattle.elf_objects.specs.declared.symbol.Home.{Home}
use Rattle.elf_objects.specs.declared.symbol.Home.TheVariants as homes
use Rattle.elf_objects.specs.Elf.{Elf}
use Rattle.flow_defs.specs.Coded.{Coded}
use Rattle.elf_objects.specs.Contents.{is_text, section_at, symbol_at}
use Rattle.elf_objects.specs.File.{section_count}
use Rattle.elf_objects.specs.Object.{IsObject}
use Rattle.elf_objects.proofs.LeastBelow.{least_below-some, least_below-none}
use Rattle.elf_objects.proofs.Read.{length-sections, IsSlice-entry}
use Rattle.symbols_relocs.specs.declared.function.Function.{Function}
use Rattle.symbols_relocs.specs.Functions.{first_bad, is_code, is_function, is_symbol_at, leaves_section, start_of, starts_at}
use Rattle.symbols_relocs.specs.Lists.{no_function, AreFunctions}
use Rattle.symbols_relocs.specs.Places.{home_section, is_text_home}
use Rattle.alternatives.proofs.Ascending.{In, contains_in, in-filter, in-map, in-range, in_contains}
use Rattle.alternatives.proofs.Placed.{and_both}
use Rattle.alternatives.proofs.PointOrder.{place_equal, place_total}
use Rattle.alternatives.proofs.SiteEntries.{place_is}
use Rattle.flow_defs.specs.declared.fault.FlowFault.{FlowFault}
use Rattle.flow_defs.specs.declared.fault.FlowFault.TheVariants.{FuncStart}
use Rattle.flow_defs.specs.Code.{text_numbers, texts_of}
use Rattle.flow_defs.specs.Faults.{is_no_start, start_faults}
use Rattle.flow_defs.specs.Sites.{places_of, places_of_text}
use Rattle.object_points.proofs.TextsLemmas.{body_size, text_in}
use Rattle.object_points.proofs.Made.{made_of_fewer}
use Rattle.object_points.proofs.SitePlaces.{listed_place, places_sorted}
use Rattle.point_edges.proofs.KnownTexts.{text_known}
use Rattle.control_flow.proofs.FirstFaults.{first_made}

lt_is : (r : Ordering) → is_lt r ≡ true → r ≡ Less
lt_is Less h = refl
lt_is Equal h = absurd (false≢true h)
lt_is Greater h = absurd (false≢true h)

-- what a section with code has
pub text_listed : (o : Coded) (i : ℕ) → is_text (section_at o.elf i) ≡ true → In (text_in o i) (texts_of o)
unfolding texts_of
text_listed o i text =
    in-map (text_in o) (text_numbers o.elf) i
    (in-filter (λ k. is_text (section_at o.elf k)) (range_with_len 0 (length o.elf.sections)) i (in-range 0 (length o.elf.sections) i (omega arith) (omega (arith, text_known o.elf i text))) text)

own_size : (o : Elf) (i : ℕ) → IsObject o.bytes o → is_text (section_at o i) ≡ true → length (section_at o i).body ≡ (section_at o i).size
own_size o i is text =
    let known : i < section_count o.bytes = omega (arith, length-sections o.bytes o (sym is.says), text_known o i text) in
    (body_size o.bytes (section_at o i) text (IsSlice-entry o.bytes o i (sym is.says) known is.well_formed)).0

text_home : (o : Elf) (home : Home) → is_text_home o home ≡ true → is_text (section_at o (home_section home)) ≡ true
text_home o (homes.Section i) h = h
text_home o homes.Undefined h = absurd (false≢true h)
text_home o homes.Absolute h = absurd (false≢true h)
text_home o homes.Common h = absurd (false≢true h)

-- a symbol of code that doesn't leave its section begins below its end
inside_section : (code : Bool) (v s z : ℕ) → code ≡ true → (code && (leb s v || ltb s (v + z))) ≡ false → v < s
inside_section true v s z is stays = grind (arith, nat_tests)
inside_section false v s z is stays = absurd (false≢true is)

is_made : (b : Bool) (found : Option ℕ) → is_some (cond b (option_map FuncStart found) None) ≡ true → is_some found ≡ true
is_made true (Some sym) h = refl
is_made true None h = absurd (false≢true h)
is_made false found h = absurd (false≢true h)

made_alike : {X Y Z : Type 0} (g : X → Option Y) (start : Z → X) (h : Z → Option Y) (zs : List Z) → ((z : Z) → In z zs → g (start z) ≡ h z) → filter_map g (map start zs) ≡ filter_map h zs
made_alike g start h [] each = refl
made_alike g start h (z ∷ zs) each =
    ap (λ o. cons_option o (filter_map g (map start zs))) (each z (inl refl))
    ∙ ap (λ ys. cons_option (h z) ys) (made_alike g start h zs (λ y k. each y (inr k)))

abbrev place_of : Function → Place
place_of f = f.start

-- the fault of a place, and that of a function
abbrev fault_at : Coded → Place → Option FlowFault
fault_at o place = if is_no_start o place then option_map FuncStart (starts_at o.elf place) else None

abbrev pub fault_of : Function → FlowFault
fault_of f = FuncStart f.sym

abbrev pub is_misplaced : Coded → Function → Bool
is_misplaced o f = is_no_start o f.start

module _ (o : Coded) (fs : List Function) (all : AreFunctions o.elf fs) (is : IsObject o.elf.bytes o.elf) (right : first_bad o.elf ≡ None) where
  abbrev nth : ℕ → Function
  nth i = get_or fs i no_function

  starts_sorted : IsStrictlySortedBy place_cmp (map place_of fs)
  starts_sorted = sorted_from_all_adjacent place_total (map place_of fs) no_function.start (λ k within.
      let next : k + 1 < length fs = omega (arith, within, length-map fs place_of) in
      ap (λ p. place_cmp p (get_or (map place_of fs) (k + 1) no_function.start)) (get_or-map place_of fs k no_function no_function.start (omega arith))
      ∙ ap (λ p. place_cmp (nth k).start p) (get_or-map place_of fs (k + 1) no_function no_function.start next)
      ∙ lt_is (place_cmp (nth k).start (nth (k + 1)).start) (all.rising k (k + 1) (omega arith) next))

  -- a symbol of a function stands in a text
  symbol_in_text : (k : ℕ) → k < length o.elf.symbols → is_function o.elf k ≡ true → In (start_of o.elf k) (places_of o)
  symbol_in_text k known function =
      let code = (and_both (is_code o.elf k) (not (eqb (symbol_at o.elf k).size 0)) function).0 in
      let sec : ℕ = home_section (symbol_at o.elf k).home in
      let text = text_home o.elf (symbol_at o.elf k).home (and_both _ (is_text_home o.elf (symbol_at o.elf k).home) code).1 in
      let stays = least_below-none (leaves_section o.elf) (length o.elf.symbols) right k known in
      let below : (symbol_at o.elf k).value < (section_at o.elf sec).size = inside_section (is_code o.elf k) (symbol_at o.elf k).value (section_at o.elf sec).size (symbol_at o.elf k).size code stays in
      let size = own_size o.elf sec is text in
      listed_place o (text_in o sec) (start_of o.elf k) (text_listed o sec text) refl (omega arith)

  function_in_text : (i : ℕ) → i < length fs → In (nth i).start (places_of o)
  function_in_text i inside =
      let own = all.each i inside in
      let found = least_below-some (is_symbol_at o.elf (nth i).start) (length o.elf.symbols) (nth i).sym own.sym in
      let parts = and_both (is_function o.elf (nth i).sym) (same_place (start_of o.elf (nth i).sym) (nth i).start) found.passes in
      subst (λ p. In p (places_of o)) (place_is (start_of o.elf (nth i).sym) (nth i).start parts.1) (symbol_in_text (nth i).sym found.below parts.0)

  starts_listed : (q : Place) → In q (map place_of fs) → In q (places_of o)
  starts_listed q h =
      let at : Contains (map place_of fs) q = contains_in (map place_of fs) q h in
      let inside : at.0 < length fs = omega (arith, at.1, length-map fs place_of) in
      subst (λ p. In p (places_of o)) (sym (get_or-map place_of fs at.0 no_function q inside) ∙ at.2) (function_in_text at.0 inside)

  start_found : (q : Place) (found : Option ℕ) → starts_at o.elf q ≡ found → is_some found ≡ true → In q (map place_of fs)
  start_found q None found some = absurd (false≢true some)
  start_found q (Some k) found some =
      let least = least_below-some (is_symbol_at o.elf q) (length o.elf.symbols) k found in
      let parts = and_both (is_function o.elf k) (same_place (start_of o.elf k) q) least.passes in
      let own = all.all k least.below parts.0 in
      let there : (nth own.0).start ≡ q = own.2 ∙ place_is (start_of o.elf k) q parts.1 in
      let listed : In (nth own.0) fs = in_contains fs (nth own.0) (own.0, own.1, get_or_default fs own.0 (nth own.0) no_function own.1) in
      subst (λ p. In p (map place_of fs)) there (in-map place_of fs (nth own.0) listed)

  of_function : (b : Bool) (f : Function) → starts_at o.elf f.start ≡ Some f.sym → cond b (option_map FuncStart (starts_at o.elf f.start)) None ≡ cond b (Some (fault_of f)) None
  of_function b f starts = ap (λ found. cond b (option_map FuncStart found) None) starts

  each_function : (f : Function) → In f fs → fault_at o (place_of f) ≡ (if is_misplaced o f then Some (fault_of f) else None)
  each_function f h =
      let at : Contains fs f = contains_in fs f h in
      let same : nth at.0 ≡ f = get_or_default fs at.0 no_function f at.1 ∙ at.2 in
      let own = all.each at.0 at.1 in
      of_function (is_misplaced o f) f (subst (λ (g : Function). starts_at o.elf g.start ≡ Some g.sym) same own.sym)

  -- the first fault is that of the first function that can't start where it does
  pub first_start : slice_get (start_faults o) 0 ≡ option_map fault_of (find (is_misplaced o) fs)
  first_start =
      ap (λ faults. slice_get faults 0) (made_of_fewer place_cmp place_total place_equal (fault_at o) (places_of o) (map place_of fs) (places_sorted o) starts_sorted starts_listed (λ q h some. start_found q (starts_at o.elf q) refl (is_made (is_no_start o q) (starts_at o.elf q) some))
      ∙ made_alike (fault_at o) place_of (λ f. if is_misplaced o f then Some (fault_of f) else None) fs each_function)
      ∙ first_made (is_misplaced o) fault_of fs

-- without text none starts
pub no_start : (o : Coded) → texts_of o ≡ [] → slice_get (start_faults o) 0 ≡ None
no_start o none = ap (λ texts. slice_get (filter_map (fault_at o) (flat_map places_of_text texts)) 0) none
