use Rattle.std.proofs.Common.{◌≡◌, IfOk, ℕ, List, ◌∷◌, [], refl, sym, subst}
use Rattle.std.proofs.lemmas.Result.{IfOk-weaker}
use Rattle.elf_objects.specs.Contents.{section_symbol_of}
use Rattle.elf_objects.specs.Elf.{Elf}
use Rattle.elf_objects.specs.Object.{IsObject}
use Rattle.elf_write.specs.Added.{CanAdd, object_with}
use Rattle.elf_write.specs.Appended.{CanAppend}
use Rattle.elf_write.specs.Layout.{NewEntry}
use Rattle.elf_write.specs.Object.{appended_to}
use Rattle.elf_write.proofs.Wide.{can_append}
use Rattle.orc_output.proofs.Known.{known}
use Rattle.site_lists.specs.Listed.{Listed, listed}
use Rattle.site_lists.specs.Sections.{HoldsSites, rela_section, slot_section}
use Rattle.site_lists.specs.SiteOutput.{list_entry, rela_entry, site_sections, with_lists_object}
use Rattle.site_lists.proofs.Addable.{can_add}
use Rattle.site_lists.proofs.OutputHeld.{held}
use Rattle.site_lists.proofs.output.with_lists.Goals as goal

-- the six that the code makes
six : (o : Elf) (lists : Listed) (a p b q c r : NewEntry) (x x' y y' z z' : List ℕ)
    → a ≡ list_entry 0 x → p ≡ rela_entry o 0 x' → b ≡ list_entry 1 y → q ≡ rela_entry o 1 y' → c ≡ list_entry 2 z → r ≡ rela_entry o 2 z'
    → x ≡ slot_section lists.retpoline → x' ≡ rela_section (section_symbol_of o) lists.retpoline
    → y ≡ slot_section lists.returns → y' ≡ rela_section (section_symbol_of o) lists.returns
    → z ≡ slot_section lists.calls → z' ≡ rela_section (section_symbol_of o) lists.calls
    → (a ∷ p ∷ b ∷ q ∷ c ∷ r ∷ []) ≡ site_sections o lists
six o lists a p b q c r x x' y y' z z' h1 h2 h3 h4 h5 h6 k1 k2 k3 k4 k5 k6 = rw (h1, h2, h3, h4, h5, h6, k1, k2, k3, k4, k5, k6) refl

pub append-requires : goal.append-requires
append-requires c =
    let o : Elf = c.args.object.now in
    let lists : Listed = listed c.args.lists.now in
    let made = c.in_ok-retpoline.ensures in
    let is = six o lists _ _ _ _ _ _ _ _ _ _ _ _ c.in_ok-list_section.ensures c.in_ok-rela_section.ensures c.in_ok-list_section-2.ensures c.in_ok-rela_section-2.ensures c.in_ok-list_section-3.ensures c.in_ok-rela_section-3.ensures
    made.retpoline_body made.retpoline_rela made.returns_body made.returns_rela made.calls_body made.calls_rela in
    let can = can_add o lists (known o.bytes o c.sections-first.ensures.object) c.requires in
    subst (CanAppend o) (sym is) (can_append o.bytes o (site_sections o lists) c.sections-first.ensures.object can)

pub returns-clause-layout : goal.returns-clause-layout
returns-clause-layout c =
    let o : Elf = c.args.object.now in
    let lists : Listed = listed c.args.lists.now in
    let made = c.in_ok-retpoline.ensures in
    let is = six o lists _ _ _ _ _ _ _ _ _ _ _ _ c.in_ok-list_section.ensures c.in_ok-rela_section.ensures c.in_ok-list_section-2.ensures c.in_ok-rela_section-2.ensures c.in_ok-list_section-3.ensures c.in_ok-rela_section-3.ensures
    made.retpoline_body made.retpoline_rela made.returns_body made.returns_rela made.calls_body made.calls_rela in
    subst (λ (new : List NewEntry). IfOk c.append.result (λ file. file.items ≡ appended_to o new)) is c.append.ensures.layout

pub returns-clause-object : goal.returns-clause-object
returns-clause-object c =
    let o : Elf = c.args.object.now in
    let lists : Listed = listed c.args.lists.now in
    let made = c.in_ok-retpoline.ensures in
    let is = six o lists _ _ _ _ _ _ _ _ _ _ _ _ c.in_ok-list_section.ensures c.in_ok-rela_section.ensures c.in_ok-list_section-2.ensures c.in_ok-rela_section-2.ensures c.in_ok-list_section-3.ensures c.in_ok-rela_section-3.ensures
    made.retpoline_body made.retpoline_rela made.returns_body made.returns_rela made.calls_body made.calls_rela in
    let can = can_add o lists (known o.bytes o c.sections-first.ensures.object) c.requires in
    subst (λ (new : List NewEntry). IfOk c.append.result (λ file. IsObject file.items (object_with o new))) is (c.append.ensures.object (subst (CanAdd o) (sym is) can))

pub returns-clause-holds : goal.returns-clause-holds
returns-clause-holds c =
    let o : Elf = c.args.object.now in
    let lists : Listed = listed c.args.lists.now in
    let done = held o lists (known o.bytes o c.sections-first.ensures.object) c.requires in
    IfOk-weaker c.append.result (λ file. file.items ≡ _) (λ _. HoldsSites (with_lists_object o lists) lists) (λ file e. done) c.append.ensures.layout
