use Rattle.std.proofs.Common.{◌≡◌, ℕ, Option, Some, None, false, is_some, inl, inr, refl, sym, ap, ◌∙◌, arith}
use Rattle.std.proofs.lemmas.Bool.{cases_lt, false≢true}
use Rattle.elf_objects.specs.Elf.{Elf}
use Rattle.orc_bytes.specs.Sections.{section_named}
use Rattle.site_lists.specs.Sections.{list_name}
use Rattle.site_lists.proofs.reading.has_lists.Goals as goal

none_there : {X : Type 0} (o : Option X) → is_some o ≡ false → o ≡ None
none_there None e = refl
none_there (Some x) e = absurd (false≢true (sym e))

pub loop-which-preserved : goal.loop-which-preserved
loop-which-preserved c = λ k low.
    let o : Elf = c.args.object.now in
    elim (cases_lt k c.loop-which.which) [
      | inl before ↦ c.loop-which.invariant k before
      | inr past ↦
          let same : c.loop-which.which ≡ k = omega (arith, low, past) in
          ap (λ (n : ℕ). section_named o (list_name n)) (sym same) ∙ none_there (section_named o (list_name c.loop-which.which)) (sym c.has_list.ensures ∙ c.if-has_list.false)
    ]

pub returns-then-has_list-clause-some : goal.returns-then-has_list-clause-some
returns-then-has_list-clause-some c = λ e. record {
  which = c.loop-which.which;
  inside = omega (arith, c.loop-which-test.true, c.loop-which.auto.which-end);
  there = sym c.has_list.ensures ∙ c.if-has_list.true;
}
