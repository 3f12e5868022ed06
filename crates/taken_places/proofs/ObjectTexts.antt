-- The texts of an object: each is of a section of it, and has no more bytes than all have together.
use Rattle.std.specs.Prelude.{All}
use Rattle.std.proofs.Common.{◌≡◌, ℕ, ◌<◌, ◌≤◌, List, length, get_or, sym, ap, ◌∙◌, subst, arith}
use Rattle.std.specs.List.{range_with_len}
use Rattle.std.proofs.lemmas.List.{get_or-map, length-map}
use Rattle.std.proofs.lemmas.List.Elements.{All-filter, All-from_get_or, All-get_or}
use Rattle.std.proofs.lemmas.List.FromFn.{get_or-range_with_len, length-range_with_len}
use Rattle.std.proofs.lemmas.List.Sums.{get_or-le-sum_by}
use Rattle.elf_objects.specs.Contents.{is_text, section_at}
use Rattle.alternatives.specs.Texts.{text_bytes}
use Rattle.alternatives.specs.declared.texts.SectionText.{SectionText}
use Rattle.flow_defs.specs.Code.{body_of, text_numbers, texts_of}
use Rattle.flow_defs.specs.Coded.{Coded}

pub text_within : (o : Coded) (t : SectionText) (k : ℕ) → k < length (texts_of o) → get_or (texts_of o) k t ≡ t → t.sec < length o.elf.sections
unfolding texts_of
text_within o t k inside at =
    let text : ℕ → SectionText = λ i. record { sec = i; text = body_of o i } in
    let numbers : List ℕ = text_numbers o.elf in
    let within : k < length numbers = omega (arith, inside, length-map numbers text) in
    let i : ℕ = get_or numbers k 0 in
    let is : t.sec ≡ i = ap (λ (x : SectionText). x.sec) (sym at ∙ get_or-map text numbers k 0 t within) in
    let n : ℕ = length o.elf.sections in
    let below : All (λ j. j < n) (range_with_len 0 n) = All-from_get_or (λ j. j < n) (range_with_len 0 n) 0 (λ j inside. (let long = length-range_with_len 0 n in let is = get_or-range_with_len 0 n j 0 (omega arith) in omega arith)) in
    let listed : i < n = All-get_or (λ j. j < n) numbers k 0 within (All-filter (λ j. is_text (section_at o.elf j)) (λ j. j < n) (range_with_len 0 n) below) in
    subst (λ (j : ℕ). j < n) (sym is) listed

pub text_short : (texts : List SectionText) (t : SectionText) (k : ℕ) → k < length texts → get_or texts k t ≡ t → text_bytes texts ≤ 16777216 → length t.text.bytes ≤ 16777216
text_short texts t k inside at little =
    let size : SectionText → ℕ = λ x. length x.text.bytes in
    let low : size (get_or texts k t) ≤ text_bytes texts = get_or-le-sum_by size texts k t inside in
    let same : size (get_or texts k t) ≡ size t = ap size at in
    omega (arith, low, same, little)
