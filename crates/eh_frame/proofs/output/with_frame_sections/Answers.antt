use Rattle.std.proofs.Common.{◌≡◌, IfOk, ℕ, List, ◌∷◌, [], sym, subst}
use Rattle.std.proofs.lemmas.Result.{IfOk-weaker}
use Rattle.ot_base.specs.declared.row.PlacedRow.{PlacedRow}
use Rattle.elf_objects.specs.Elf.{Elf}
use Rattle.elf_objects.specs.Object.{IsObject}
use Rattle.elf_write.specs.Added.{CanAdd, object_with}
use Rattle.elf_write.specs.Appended.{CanAppend}
use Rattle.elf_write.specs.Layout.{NewEntry}
use Rattle.elf_write.specs.Object.{appended_to}
use Rattle.elf_write.proofs.Wide.{can_append}
use Rattle.orc_output.proofs.Known.{known}
use Rattle.eh_frame.specs.Laws.{HoldsFrames}
use Rattle.eh_frame.specs.RowFrames.{frame_rela, frame_section}
use Rattle.eh_frame.specs.FrameOutput.{frame_entry, frame_sections, rela_entry, with_frames_object}
use Rattle.eh_frame.proofs.Addable.{can_add}
use Rattle.eh_frame.proofs.Held.{held}
use Rattle.eh_frame.proofs.output.with_frame_sections.Goals as goal

-- the two that the code makes
two : (o : Elf) (rows : List PlacedRow) (frame rela : NewEntry) (a b : List ℕ) → frame ≡ frame_entry a → rela ≡ rela_entry o b
    → a ≡ frame_section o rows → b ≡ frame_rela o rows
    → (frame ∷ rela ∷ []) ≡ frame_sections o rows
two o rows frame rela a b h1 h2 k1 k2 = cc

pub encode-requires : goal.encode-requires
encode-requires c = c.requires.frames

pub append-requires : goal.append-requires
append-requires c =
    let o : Elf = c.args.object.now in
    let made = c.in_ok-body.ensures in
    let is = two o c.args.rows.now _ _ _ _ c.in_ok-frame_section.ensures c.in_ok-rela_section.ensures made.body made.rela in
    let can = can_add o c.args.rows.now (known o.bytes o c.sections-frame_number.ensures.object) c.requires in
    subst (CanAppend o) (sym is) (can_append o.bytes o (frame_sections o c.args.rows.now) c.sections-frame_number.ensures.object can)

pub returns-clause-layout : goal.returns-clause-layout
returns-clause-layout c =
    let o : Elf = c.args.object.now in
    let made = c.in_ok-body.ensures in
    let is = two o c.args.rows.now _ _ _ _ c.in_ok-frame_section.ensures c.in_ok-rela_section.ensures made.body made.rela in
    subst (λ (new : List NewEntry). IfOk c.append.result (λ file. file.items ≡ appended_to o new)) is c.append.ensures.layout

pub returns-clause-object : goal.returns-clause-object
returns-clause-object c =
    let o : Elf = c.args.object.now in
    let made = c.in_ok-body.ensures in
    let is = two o c.args.rows.now _ _ _ _ c.in_ok-frame_section.ensures c.in_ok-rela_section.ensures made.body made.rela in
    let can = can_add o c.args.rows.now (known o.bytes o c.sections-frame_number.ensures.object) c.requires in
    subst (λ (new : List NewEntry). IfOk c.append.result (λ file. IsObject file.items (object_with o new))) is (c.append.ensures.object (subst (CanAdd o) (sym is) can))

pub returns-clause-holds : goal.returns-clause-holds
returns-clause-holds c =
    let o : Elf = c.args.object.now in
    let done = held o c.args.rows.now (known o.bytes o c.sections-frame_number.ensures.object) c.requires in
    IfOk-weaker c.append.result (λ file. file.items ≡ _) (λ _. HoldsFrames (with_frames_object o c.args.rows.now) c.args.rows.now) (λ file e. done) c.append.ensures.layout
