use Rattle.std.proofs.Common.{◌≡◌, IfOk, ℕ, List, ◌∷◌, [], sym, subst}
use Rattle.std.proofs.lemmas.Result.{IfOk-weaker}
use Rattle.ot_base.specs.declared.row.PlacedRow.{PlacedRow}
use Rattle.elf_objects.specs.Contents.{section_symbol_of}
use Rattle.elf_objects.specs.Elf.{Elf}
use Rattle.elf_objects.specs.Object.{IsObject}
use Rattle.elf_write.specs.Added.{CanAdd, object_with}
use Rattle.elf_write.specs.Appended.{CanAppend}
use Rattle.elf_write.specs.Layout.{NewEntry}
use Rattle.elf_write.specs.Object.{appended_to}
use Rattle.elf_write.proofs.Wide.{can_append}
use Rattle.orc_bytes.specs.Sections.{HoldsOrc, row_section, ip_section, rela_section}
use Rattle.orc_output.specs.OrcOutput.{ip_entry, orc_entry, orc_sections, rela_entry, with_orc_object}
use Rattle.orc_output.proofs.Known.{known}
use Rattle.orc_output.proofs.Addable.{can_add}
use Rattle.orc_output.proofs.Held.{held}
use Rattle.orc_output.proofs.output.with_orc.Goals as goal

-- the three that the code makes
three : (o : Elf) (rows : List PlacedRow) (orc ip rela : NewEntry) (a b d : List ℕ) → orc ≡ orc_entry a → ip ≡ ip_entry b → rela ≡ rela_entry o d
    → a ≡ row_section rows → b ≡ ip_section rows → d ≡ rela_section (section_symbol_of o) rows
    → (orc ∷ ip ∷ rela ∷ []) ≡ orc_sections o rows
three o rows orc ip rela a b d h1 h2 h3 k1 k2 k3 = cc

pub append-requires : goal.append-requires
append-requires c =
    let o : Elf = c.args.object.now in
    let made = c.in_ok-orc.ensures in
    let is = three o c.args.rows.now _ _ _ _ _ _ c.in_ok-orc_section.ensures c.in_ok-ip_section.ensures c.in_ok-rela_section.ensures made.orc made.ip made.rela in
    let can = can_add o c.args.rows.now (known o.bytes o c.sections-ip_number.ensures.object) c.requires in
    subst (CanAppend o) (sym is) (can_append o.bytes o (orc_sections o c.args.rows.now) c.sections-ip_number.ensures.object can)

pub returns-clause-layout : goal.returns-clause-layout
returns-clause-layout c =
    let o : Elf = c.args.object.now in
    let made = c.in_ok-orc.ensures in
    let is = three o c.args.rows.now _ _ _ _ _ _ c.in_ok-orc_section.ensures c.in_ok-ip_section.ensures c.in_ok-rela_section.ensures made.orc made.ip made.rela in
    subst (λ (new : List NewEntry). IfOk c.append.result (λ file. file.items ≡ appended_to o new)) is c.append.ensures.layout

pub returns-clause-object : goal.returns-clause-object
returns-clause-object c =
    let o : Elf = c.args.object.now in
    let made = c.in_ok-orc.ensures in
    let is = three o c.args.rows.now _ _ _ _ _ _ c.in_ok-orc_section.ensures c.in_ok-ip_section.ensures c.in_ok-rela_section.ensures made.orc made.ip made.rela in
    let can = can_add o c.args.rows.now (known o.bytes o c.sections-ip_number.ensures.object) c.requires in
    subst (λ (new : List NewEntry). IfOk c.append.result (λ file. IsObject file.items (object_with o new))) is (c.append.ensures.object (subst (CanAdd o) (sym is) can))

pub returns-clause-holds : goal.returns-clause-holds
returns-clause-holds c =
    let o : Elf = c.args.object.now in
    let done = held o c.args.rows.now (known o.bytes o c.sections-ip_number.ensures.object) c.requires in
    IfOk-weaker c.append.result (λ file. file.items ≡ _) (λ _. HoldsOrc (with_orc_object o c.args.rows.now) c.args.rows.now) (λ file e. done) c.append.ensures.layout
