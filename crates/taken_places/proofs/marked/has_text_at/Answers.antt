use Rattle.std.proofs.Common.{◌≡◌, ◌<◌, ◌≤◌, ◌+◌, ℕ, Bool, true, false, List, slice_range, length, get_or, refl, sym, ap, ◌∙◌, arith}
use Rattle.std.proofs.lemmas.Bool.{false≢true}
use Rattle.std.proofs.lemmas.List.{get_or_default}
use Rattle.elf_objects.specs.Contents.{section_at}
use Rattle.text_numbers.specs.Ends.{end_from}
use Rattle.taken_places.specs.Marks.{AreStarts, section_names}
use Rattle.taken_places.specs.Taken.{has_text}
use Rattle.taken_places.proofs.MarkedNames.{has_it, has_not}
use Rattle.taken_places.proofs.SectionNames.{end_behind, name_range}
use Rattle.taken_places.proofs.marked.has_text_at.Goals as goal

pub overflow_cast-start : goal.overflow_cast-start
overflow_cast-start c = record { fits = (let inside = c.name_start-start.ensures.inside in let short = c.requires.short in omega arith) }

-- the answer and what is asked are the same
same_answer : (text table starts : List ℕ) (start end : ℕ) (r : Bool) → AreStarts text table (length table) starts → 0 < length text → start ≤ end → end ≤ length table
    → ((k d : ℕ) → k < length starts → start ≤ get_or starts k d → get_or starts k d + length text ≤ end → r ≡ true)
    → (((k d : ℕ) → k < length starts → start ≤ get_or starts k d → get_or starts k d + length text ≤ end → ⊥) → r ≡ false)
    → r ≡ has_text text (slice_range table start end)
same_answer text table starts start end r are some order within one none = go r (has_text text (slice_range table start end)) refl refl
  where
    go : (a b : Bool) → r ≡ a → has_text text (slice_range table start end) ≡ b → a ≡ b
    go true true e f = refl
    go false false e f = refl
    go true false e f =
        absurd (false≢true (sym (none (λ k d low from to. (
        let at = get_or_default starts k d 0 low in
        false≢true (sym f ∙ has_it text table starts are some start end order within k low (omega arith) (omega arith))))) ∙ e))
    go false true e f =
        absurd (false≢true (sym (has_not text table starts are some start end order within (λ k low from to. false≢true (sym e ∙ one k 0 low from to)) true f)))

pub returns : goal.returns
returns c =
    let text : List ℕ = c.args.text.now in
    let table : List ℕ = section_names c.args.object.now in
    let start : ℕ = c.name_start-start.result in
    let end : ℕ = c.end_of-end.result in
    let ends_at : end ≡ end_from table start = c.end_of-end.ensures.value ∙ ap (λ (t : List ℕ). end_from t start) c.requires.ends in
    let name : slice_range table start end ≡ (section_at c.args.object.now c.args.sec).name = name_range table start end _ ends_at c.name_start-start.ensures.name in
    let order : start ≤ end = end_behind table start end ends_at in
    let within : end ≤ length table = (let w = c.end_of-end.ensures.within in let t = ap (λ (t : List ℕ). length t) c.requires.ends in omega arith) in
    same_answer text table c.args.starts.now start end c.stands_between.result c.requires.starts c.requires.some order within c.stands_between.ensures.some c.stands_between.ensures.none
    ∙ ap (has_text text) name
