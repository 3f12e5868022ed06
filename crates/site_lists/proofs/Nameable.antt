-- The sites of an object can be added to it: each lies in a text section that relocations can name, and they are no more than its
-- text has bytes.
use Rattle.std.proofs.Common.{◌≡◌, ℕ, zero, suc, ◌+◌, ◌-◌, ◌*◌, ◌^◌, ◌<◌, ◌≤◌, Bool, true, false, cond, List, [], ◌∷◌, ◌++◌, map, length, get_or, Ok, Err, Result, Some, refl, sym, ◌∙◌, ap, subst, inl, inr, length-append, length-take, length-drop, arith}
use Rattle.std.specs.Prelude.{All, filter, flat_map, slice_get, slice_range}
use Rattle.std.specs.List.{range_with_len, sum_by}
use Rattle.std.proofs.lemmas.List.{length-map}
use Rattle.std.proofs.lemmas.List.Elements.{All-append, All-cons, All-filter, All-head, All-map, All-nil, All-tail, All-weaker, filter_passes}
use Rattle.std.proofs.lemmas.List.Sums.{sum_by-cons}
use Rattle.std.proofs.lemmas.Option.{slice_get-get_or}
use Rattle.ot_base.specs.declared.place.Place.{Place}
use Rattle.operation_defs.specs.declared.insn.Insn.{Insn}
use Rattle.elf_objects.specs.Contents.{is_text, no_section, section_at}
use Rattle.elf_objects.specs.Elf.{Elf, SectionEntry}
use Rattle.elf_objects.specs.File.{section_count}
use Rattle.elf_objects.specs.Lent.{IsSlice}
use Rattle.elf_objects.specs.Object.{IsObject}
use Rattle.elf_objects.specs.declared.TheConstants.{SHT_PROGBITS}
use Rattle.elf_objects.proofs.Read.{IsSlice-entry, length-sections}
use Rattle.x86_map.specs.declared.map.Map.{Map}
use Rattle.x86_decode.specs.declared.DecodeFault.{DecodeFault}
use Rattle.x86_decode.specs.Decoding.{decoded}
use Rattle.x86_text.specs.declared.placed.PlacedInsn.{PlacedInsn}
use Rattle.x86_text.specs.Code.{Body, code_from, code_of, with_rest}
use Rattle.alternatives.specs.declared.texts.SectionText.{SectionText}
use Rattle.flow_defs.specs.Code.{body_of, text_numbers, texts_of}
use Rattle.flow_defs.specs.Coded.{Coded}
use Rattle.orc_output.proofs.Insertable.{text_kind}
use Rattle.orc_output.proofs.NeededSections.{in_range}
use Rattle.site_lists.specs.Listed.{Listed}
use Rattle.site_lists.specs.declared.options.ListOptions.{ListOptions}
use Rattle.site_lists.specs.Sites.{AreFew, AreSitesIn, IsSiteIn, PlacedCode, can_have_symbol, is_call_site, is_retpoline_site, is_return_site, nameable_code, placed_code, places_of, sites_of}

-- Instructions begin below the end of their body, and are no more than it has bytes.

record AreBelow (to : ℕ) (bytes : ℕ) (code : List PlacedInsn) : Type 0 where
  below : All (λ p. p.off ≤ to) code
  few : length code ≤ bytes

first_below : (to bytes off : ℕ) (d : Result Insn DecodeFault) (rest : ℕ → List PlacedInsn) → off ≤ to → ((skip : ℕ) → AreBelow to bytes (rest skip)) → AreBelow to (bytes + 1) (with_rest off d rest)
first_below to bytes off (Ok insn) rest inside others = record {
  below = All-cons (λ (p : PlacedInsn). p.off ≤ to) _ _ inside (others (insn.len - 1)).below;
  few = (let f = (others (insn.len - 1)).few in omega arith);
}
first_below to bytes off (Err why) rest inside others = record { below = All-nil (λ (p : PlacedInsn). p.off ≤ to); few = omega arith }

more_bytes : (to bytes : ℕ) (code : List PlacedInsn) → AreBelow to bytes code → AreBelow to (bytes + 1) code
more_bytes to bytes code a = record { below = a.below; few = (let f = a.few in omega arith) }

from_below : (m : Map) (to skip off : ℕ) (bytes : List ℕ) → off + length bytes ≤ to → AreBelow to (length bytes) (code_from m skip off bytes)
from_below m to skip off [] h = record { below = All-nil (λ (p : PlacedInsn). p.off ≤ to); few = omega arith }
from_below m to zero off (b ∷ bytes) h =
    subst (λ (n : ℕ). AreBelow to n (code_from m zero off (b ∷ bytes))) (omega arith)
    (first_below to (length bytes) off (decoded m (b ∷ bytes)) (λ skip. code_from m skip (off + 1) bytes) (omega arith) (λ skip. from_below m to skip (off + 1) bytes (omega arith)))
from_below m to (suc skip) off (b ∷ bytes) h =
    subst (λ (n : ℕ). AreBelow to n (code_from m (suc skip) off (b ∷ bytes))) (omega arith)
    (more_bytes to (length bytes) (code_from m skip (off + 1) bytes) (from_below m to skip (off + 1) bytes (omega arith)))

code_below : (body : Body) → AreBelow (length body.bytes) (length body.bytes) (code_of body)
unfolding code_of
code_below body = from_below body.map (length body.bytes) 0 0 body.bytes (omega arith)

-- Texts.

record IsTextOf (o : Coded) (t : SectionText) : Type 0 where
  at : t.sec < length o.elf.sections
  text : is_text (section_at o.elf t.sec) ≡ true
  body : t.text.bytes ≡ (section_at o.elf t.sec).body

numbers_are : (o : Coded) → All (λ i. IsTextOf o (record { sec = i; text = body_of o i })) (text_numbers o.elf)
numbers_are o k d inside = record {
  at = All-filter (λ i. is_text (section_at o.elf i)) (λ i. i < length o.elf.sections) (range_with_len 0 (length o.elf.sections)) (in_range (length o.elf.sections)) k d inside;
  text = filter_passes (λ i. is_text (section_at o.elf i)) (range_with_len 0 (length o.elf.sections)) k d inside;
  body = refl;
}

texts_are : (o : Coded) → All (IsTextOf o) (texts_of o)
unfolding texts_of
texts_are o = All-map (IsTextOf o) (λ i. record { sec = i; text = body_of o i }) (text_numbers o.elf) (numbers_are o)

-- A text section's body has at most as many bytes as its header says.

body_within : (o : Elf) (i : ℕ) → IsObject o.bytes o → i < length o.sections → is_text (section_at o i) ≡ true → length (section_at o i).body ≤ (section_at o i).size
body_within o i ok inside text =
    let s : SectionEntry = section_at o i in
    let kind : s.kind ≡ SHT_PROGBITS = text_kind s text in
    let slice : IsSlice o.bytes s = IsSlice-entry o.bytes o i (sym ok.says) (omega (arith, length-sections o.bytes o (sym ok.says))) ok.well_formed in
    let is = slice.body (λ e. absurd (omega arith)) (λ e. absurd (omega arith)) in
    omega (arith, ap length is, length-take {A = ℕ})

-- a text whose section relocations can name
abbrev nameable : Coded → SectionText → Bool
nameable o t = can_have_symbol o.elf t.sec

filter_keeps : {X : Type 0} (p : X → Bool) (x : X) (xs : List X) → p x ≡ true → filter p (x ∷ xs) ≡ x ∷ filter p xs
filter_keeps p x xs e = rw e refl

filter_drops : {X : Type 0} (p : X → Bool) (x : X) (xs : List X) → p x ≡ false → filter p (x ∷ xs) ≡ filter p xs
filter_drops p x xs e = rw e refl

module _ (o : Coded) (ok : IsObject o.elf.bytes o.elf) where
  abbrev Good : PlacedCode → Type 0
  Good x = IsSiteIn o.elf x.place

  insn_good : (t : SectionText) → IsTextOf o t → can_have_symbol o.elf t.sec ≡ true → (p : PlacedInsn) → p.off ≤ length t.text.bytes → Good (record { place = record { sec = t.sec; off = p.off }; insn = p.insn })
  insn_good t is can p below = record {
    section = section_at o.elf t.sec;
    at = slice_get-get_or o.elf.sections t.sec no_section is.at;
    text = is.text;
    inside = (let size = body_within o.elf t.sec ok is.at is.text in let same = ap length is.body in omega arith);
    nameable = can;
  }

  text_good : (t : SectionText) → IsTextOf o t → can_have_symbol o.elf t.sec ≡ true → All Good (placed_code t)
  text_good t is can =
      All-map Good (λ (p : PlacedInsn). record { place = record { sec = t.sec; off = p.off }; insn = p.insn }) (code_of t.text)
      (All-weaker (λ (p : PlacedInsn). p.off ≤ length t.text.bytes) (λ (p : PlacedInsn). Good (record { place = record { sec = t.sec; off = p.off }; insn = p.insn })) (λ p below. insn_good t is can p below) (code_of t.text) (code_below t.text).below)

  good_step : (t : SectionText) (texts : List SectionText) (b : Bool) → IsTextOf o t → nameable o t ≡ b
      → All Good (flat_map placed_code (filter (nameable o) texts)) → All Good (flat_map placed_code (filter (nameable o) (t ∷ texts)))
  good_step t texts true is can rest =
      subst (λ (ts : List SectionText). All Good (flat_map placed_code ts)) (sym (filter_keeps (nameable o) t texts can)) (All-append Good (placed_code t) _ (text_good t is can) rest)
  good_step t texts false is can rest = subst (λ (ts : List SectionText). All Good (flat_map placed_code ts)) (sym (filter_drops (nameable o) t texts can)) rest

  all_good : (texts : List SectionText) → All (IsTextOf o) texts → All Good (flat_map placed_code (filter (nameable o) texts))
  all_good [] all = All-nil Good
  all_good (t ∷ texts) all = good_step t texts (nameable o t) (All-head (IsTextOf o) t texts all) refl (all_good texts (All-tail (IsTextOf o) t texts all))

  places_good : (passes : PlacedCode → Bool) (code : List PlacedCode) → All Good code → All (IsSiteIn o.elf) (places_of passes code)
  places_good passes code all = All-map (IsSiteIn o.elf) (λ (x : PlacedCode). x.place) (filter passes code) (All-filter passes Good code all)

  pub sites_in : (m : ListOptions) → AreSitesIn o.elf (sites_of m o)
  unfolding sites_of
  sites_in m =
      let all = all_good (texts_of o) (texts_are o) in
      record {
        retpoline = places_good (is_retpoline_site o) (nameable_code o) all;
        returns = places_good (is_return_site o) (nameable_code o) all;
        calls = places_good (is_call_site m o) (nameable_code o) all;
      }

-- How many there are.

filter_shorter : {X : Type 0} (p : X → Bool) (xs : List X) → length (filter p xs) ≤ length xs
filter_shorter p [] = omega arith
filter_shorter p (x ∷ xs) =
    let rest = filter_shorter p xs in
    elim (p x) as (λ b. length (cond b (x ∷ filter p xs) (filter p xs)) ≤ suc (length xs)) [
      | true ↦ omega arith
      | false ↦ omega arith
    ]

few_step : (o : Coded) (t : SectionText) (texts : List SectionText) (n : ℕ) (b : Bool) → nameable o t ≡ b
    → length (flat_map placed_code (filter (nameable o) texts)) ≤ n → length (flat_map placed_code (filter (nameable o) (t ∷ texts))) ≤ length t.text.bytes + n
few_step o t texts n true can rest =
    let own = (code_below t.text).few in
    let same = length-map (code_of t.text) (λ (p : PlacedInsn). let x : PlacedCode = record { place = record { sec = t.sec; off = p.off }; insn = p.insn } in x) in
    let both = length-append (placed_code t) (flat_map placed_code (filter (nameable o) texts)) in
    let is : length (flat_map placed_code (filter (nameable o) (t ∷ texts))) ≡ length (placed_code t ++ flat_map placed_code (filter (nameable o) texts)) = ap (λ (ts : List SectionText). length (flat_map placed_code ts)) (filter_keeps (nameable o) t texts can) in
    omega (arith, own, same, both, is, rest)
few_step o t texts n false can rest =
    let is : length (flat_map placed_code (filter (nameable o) (t ∷ texts))) ≡ length (flat_map placed_code (filter (nameable o) texts)) = ap (λ (ts : List SectionText). length (flat_map placed_code ts)) (filter_drops (nameable o) t texts can) in
    omega (arith, is, rest)

code_few : (o : Coded) (texts : List SectionText) → length (flat_map placed_code (filter (nameable o) texts)) ≤ sum_by (λ (t : SectionText). length t.text.bytes) texts
code_few o [] = omega arith
code_few o (t ∷ texts) =
    subst (λ (n : ℕ). length (flat_map placed_code (filter (nameable o) (t ∷ texts))) ≤ n) (sym (sum_by-cons (λ (u : SectionText). length u.text.bytes) t texts))
    (few_step o t texts (sum_by (λ (u : SectionText). length u.text.bytes) texts) (nameable o t) refl (code_few o texts))

places_few : (passes : PlacedCode → Bool) (code : List PlacedCode) (n : ℕ) → length code ≤ n → length (places_of passes code) ≤ n
places_few passes code n h =
    let same = length-map (filter passes code) (λ (x : PlacedCode). x.place) in
    let less = filter_shorter passes code in
    omega arith

pub sites_few : (m : ListOptions) (o : Coded) → sum_by (λ (t : SectionText). length t.text.bytes) (texts_of o) ≤ 16777216 → AreFew (sites_of m o)
unfolding sites_of
sites_few m o little =
    let all = code_few o (texts_of o) in
    let few : length (nameable_code o) ≤ 16777216 = omega arith in
    record {
      retpoline = places_few (is_retpoline_site o) (nameable_code o) 16777216 few;
      returns = places_few (is_return_site o) (nameable_code o) 16777216 few;
      calls = places_few (is_call_site m o) (nameable_code o) 16777216 few;
    }
