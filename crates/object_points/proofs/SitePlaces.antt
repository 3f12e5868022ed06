-- The places of an object's text sections.
use Rattle.std.proofs.Common.{◌≡◌, ℕ, zero, suc, ◌+◌, ◌<◌, List, [], ◌∷◌, ◌++◌, length, refl, sym, ap, ◌∙◌, subst, arith}
use Rattle.std.specs.List.{AllByRecursion, flat_map, range_with_len}
use Rattle.std.specs.List.Sorted.{IsStrictlySortedBy}
use Rattle.std.specs.Ordering.{nat_cmp, ordering_then}
use Rattle.std.specs.declared.cmp.Ordering.TheVariants.{Less}
use Rattle.std.proofs.lemmas.Bool.Decides.{nat_tests}
use Rattle.ot_base.specs.declared.place.Place.{Place}
use Rattle.ot_base.specs.Places.{place_cmp}
use Rattle.flow_defs.specs.Coded.{Coded}
use Rattle.alternatives.specs.declared.texts.SectionText.{SectionText}
use Rattle.alternatives.proofs.Ascending.{In, Rising, every-each, every-map, in-flat_map, in-map, in-range, rising-range, sorted-flat_map, sorted-map}
use Rattle.alternatives.proofs.Placed.{RiseBySection, rise_by_section}
use Rattle.alternatives.proofs.Ranges.{range_more}
use Rattle.machine_defs.specs.Program.{below}
use Rattle.flow_defs.specs.Code.{texts_of}
use Rattle.flow_defs.specs.Sites.{places_of, places_of_text}
use Rattle.object_points.proofs.TextsLemmas.{texts_ascend}

below_is : (n : ℕ) → below n ≡ range_with_len 0 n
below_is zero = refl
below_is (suc n) = ap (λ ns. ns ++ n ∷ []) (below_is n) ∙ sym (range_more n) ∙ ap (λ m. range_with_len 0 m) {x = n + 1} {y = suc n} (omega arith)

pub off_less : (a b c d : ℕ) → a ≡ b → c < d → ordering_then (nat_cmp a b) (nat_cmp c d) ≡ Less
off_less a b c d same less = grind (arith, nat_tests)

pub sec_less : (a b c d : ℕ) → a < b → ordering_then (nat_cmp a b) (nat_cmp c d) ≡ Less
sec_less a b c d less = grind (arith, nat_tests)

abbrev at : ℕ → ℕ → Place
at sec off = record { sec = sec; off = off }

text_sorted : (t : SectionText) → IsStrictlySortedBy place_cmp (places_of_text t)
text_sorted t =
    sorted-map place_cmp (λ i j. i < j) (at t.sec) (λ i j less. off_less t.sec t.sec i j refl less) (below (length t.text.bytes))
    (subst (Rising (λ i j. i < j)) (sym (below_is (length t.text.bytes))) (rising-range 0 (length t.text.bytes)))

in_section : (t : SectionText) → AllByRecursion (λ (p : Place). p.sec ≡ t.sec) (places_of_text t)
in_section t = every-map (λ (p : Place). p.sec ≡ t.sec) (at t.sec) (below (length t.text.bytes)) (every-each (λ off. t.sec ≡ t.sec) (λ off. refl) (below (length t.text.bytes)))

texts_sorted : (texts : List SectionText) → RiseBySection texts → IsStrictlySortedBy place_cmp (flat_map places_of_text texts)
texts_sorted texts rise =
    sorted-flat_map place_cmp (λ (t u : SectionText). t.sec < u.sec) (λ (t : SectionText) (p : Place). p.sec ≡ t.sec)
    (λ t u a b less of-t of-u. sec_less a.sec b.sec a.off b.off (omega (arith, of-t, of-u)))
    places_of_text in_section text_sorted texts rise

-- they ascend
pub places_sorted : (o : Coded) → IsStrictlySortedBy place_cmp (places_of o)
places_sorted o = texts_sorted (texts_of o) (rise_by_section (texts_of o) (texts_ascend o))

-- each place of a text is one of them
pub listed_place : (o : Coded) (t : SectionText) (place : Place) → In t (texts_of o) → t.sec ≡ place.sec → place.off < length t.text.bytes → In place (places_of o)
listed_place o t place of-o sec inside =
    let off : In place.off (below (length t.text.bytes)) = subst (In place.off) (sym (below_is (length t.text.bytes))) (in-range 0 (length t.text.bytes) place.off (omega arith) (omega arith)) in
    in-flat_map places_of_text (texts_of o) t place of-o (subst (λ s. In (at s place.off) (places_of_text t)) sec (in-map (at t.sec) (below (length t.text.bytes)) place.off off))
