-- Past the last section there is no code.
use Rattle.std.proofs.Common.{◌≡◌, ◌≤◌, ◌<◌, ◌+◌, ℕ, Bool, List, [], ◌∷◌, ◌++◌, false, inl, inr, get_or, length, sym, ap, ◌∙◌, arith}
use Rattle.std.proofs.lemmas.Bool.{cases_lt}
use Rattle.std.proofs.lemmas.List.{get_or_append_left, get_or_past, get_or_push, length_push}
use Rattle.elf_objects.specs.Contents.{no_section, section_at}
use Rattle.elf_objects.specs.Elf.{SectionEntry}
use Rattle.entry_rules.specs.ObjectFacts.{is_noinstr_section}
use Rattle.entry_rules.proofs.noinstr.list_noinstr.Goals as goal

-- one section more
told_more : (f : ℕ → Bool) (flags new : List Bool) (n : ℕ) (flag : Bool) → length flags ≡ n → new ≡ flags ++ flag ∷ [] → ((k : ℕ) → k < n → get_or flags k false ≡ f k) → flag ≡ f n → (k : ℕ) → k < n + 1 → get_or new k false ≡ f k
told_more f flags new n flag long more told here k below = elim (cases_lt k n) [
  | inl before ↦ ap (λ xs. get_or xs k false) more ∙ get_or_append_left flags (flag ∷ []) false k (omega (arith, long, before)) ∙ told k before
  | inr last ↦
      let at : length flags ≡ k = omega (arith, long, below, last) in
      let own : k ≡ n = omega (arith, below, last) in
      ap (λ xs. get_or xs k false) more ∙ get_or_push flags flag false k at ∙ here ∙ ap f (sym own)
]

pub returns : goal.returns
returns c = λ sec.
    let sections : List SectionEntry = c.args.object.now.sections in
    elim (cases_lt sec (length sections)) [
      | inl within ↦ c.loop-sec.invariant.told sec (omega (arith, within, c.loop-sec-test.false, c.sections-count.ensures.value))
      | inr past ↦
          let short : length c.loop-sec.flags.items ≤ sec = omega (arith, past, c.loop-sec.invariant.long, c.loop-sec.auto.sec-end, c.sections-count.ensures.value) in
          get_or_past c.loop-sec.flags.items sec false short ∙ sym (ap is_noinstr_section (get_or_past sections sec no_section past))
    ]

pub loop-sec-preserved : goal.loop-sec-preserved
loop-sec-preserved c =
    let flags : List Bool = c.loop-sec.flags.items in
    let new : List Bool = c.push.new.self.items in
    let more : new ≡ flags ++ c.is_noinstr_section.result ∷ [] = c.in_ok-push.ensures.items in
    record {
      long = ap (λ (xs : List Bool). length xs) more ∙ length_push flags c.is_noinstr_section.result ∙ ap (λ (n : ℕ). n + 1) c.loop-sec.invariant.long;
      told = told_more (λ k. is_noinstr_section (section_at c.args.object.now k)) flags new c.loop-sec.sec c.is_noinstr_section.result c.loop-sec.invariant.long more c.loop-sec.invariant.told c.is_noinstr_section.ensures;
    }
