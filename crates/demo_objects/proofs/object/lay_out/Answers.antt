use Rattle.std.proofs.Common.{◌≡◌, ◌+◌, ◌<◌, ◌^◌, List, length, sym, ap, subst, ◌∙◌, arith}
use Rattle.elf_write.specs.Layout.{NewEntry, new_names}
use Rattle.elf_write.specs.New.{entries}
use Rattle.demo_objects.specs.Checked.{PartsFit, SectionsFit}
use Rattle.demo_objects.specs.Made.{all_sections}
use Rattle.demo_objects.specs.Spec.{spec_of, symbols_of}
use Rattle.demo_objects.proofs.Can.{all-aligned, can-lay-out, few-sections, parts-fit, room}
use Rattle.demo_objects.proofs.Sizes.{AreAligned}
use Rattle.demo_objects.proofs.object.lay_out.Goals as goal

pub returns-then-not-parts_fit-clause-exact : goal.returns-then-not-parts_fit-clause-exact
returns-then-not-parts_fit-clause-exact c = (
  λ h. absurd cc,
  λ can. (let passes = c.parts_fit.ensures.1 (parts-fit (spec_of c.args.spec.now) can) in let fails = c.if-not-parts_fit.true in grind arith),
)

pub all_sections-requires-clause-few : goal.all_sections-requires-clause-few
all_sections-requires-clause-few c =
    let fit : PartsFit (spec_of c.args.spec.now) = c.parts_fit.ensures.0 (let passes = c.if-not-parts_fit.false in grind arith) in
    few-sections (spec_of c.args.spec.now) fit.few_sections

pub sections_fit-requires : goal.sections_fit-requires
sections_fit-requires c =
    let fit : PartsFit (spec_of c.args.spec.now) = c.parts_fit.ensures.0 (let passes = c.if-not-parts_fit.false in grind arith) in
    let is : entries c.deref.result.now ≡ all_sections (spec_of c.args.spec.now) = ap entries c.deref.ensures.value ∙ c.in_ok-sections.ensures.all in
    subst AreAligned (sym is) (all-aligned (spec_of c.args.spec.now) fit.parts.sections)

pub file_of-requires-clause-aligned : goal.file_of-requires-clause-aligned
file_of-requires-clause-aligned c =
    let fit : PartsFit (spec_of c.args.spec.now) = c.parts_fit.ensures.0 (let passes = c.if-not-parts_fit.false in grind arith) in
    let is : entries c.deref-3.result.now ≡ all_sections (spec_of c.args.spec.now) = ap entries c.deref-3.ensures.value ∙ c.in_ok-sections.ensures.all in
    subst AreAligned (sym is) (all-aligned (spec_of c.args.spec.now) fit.parts.sections)

pub file_of-requires-clause-names : goal.file_of-requires-clause-names
file_of-requires-clause-names c =
    let s = spec_of c.args.spec.now in
    let fit : PartsFit s = c.parts_fit.ensures.0 (let passes = c.if-not-parts_fit.false in grind arith) in
    let first : entries c.deref.result.now ≡ all_sections s = ap entries c.deref.ensures.value ∙ c.in_ok-sections.ensures.all in
    let is : entries c.deref-3.result.now ≡ all_sections s = ap entries c.deref-3.ensures.value ∙ c.in_ok-sections.ensures.all in
    let all : SectionsFit (entries c.deref.result.now) (symbols_of c.deref-2.result.now) = c.sections_fit.ensures.0 (let passes = c.if-not-sections_fit.false in grind arith) in
    let all' : SectionsFit (entries c.deref.result.now) s.symbols = subst (λ xs. SectionsFit (entries c.deref.result.now) (symbols_of xs)) c.deref-2.ensures.value all in
    let all'' : SectionsFit (all_sections s) s.symbols = subst (λ es. SectionsFit es s.symbols) first all' in
    subst (λ (es : List NewEntry). 1 + length (new_names es) < 2 ^ 32) (sym is) (room s (can-lay-out s fit c.in_ok-sections.ensures.numbers all'')).names
