use Rattle.std.proofs.Common.{◌≡◌, sym, subst}
use Rattle.std.proofs.lemmas.Result.{IfOk-weaker}
use Rattle.elf_objects.specs.Elf.{Elf}
use Rattle.elf_write.specs.SymbolObject.{CanInsert}
use Rattle.elf_write.specs.Taken.{AreFree}
use Rattle.elf_write.specs.Object.{appended_to}
use Rattle.orc_output.proofs.Insertable.{all_free, can_insert}
use Rattle.orc_output.proofs.Inserted.{nothing_needed, read_is}
use Rattle.eh_frame.specs.FrameOutput.{CanHaveSections, frame_sections}
use Rattle.eh_frame.specs.Framed.{FollowsRows, IsFramed}
use Rattle.eh_frame.proofs.Written.{can_have_sections, follows_rows, has_room, is_framed}
use Rattle.eh_frame.proofs.frames.write_frames.Goals as goal

pub with_frame_sections-requires : goal.with_frame_sections-requires
with_frame_sections-requires c =
    let o : Elf = c.args.object.now in
    subst (λ (x : Elf). CanHaveSections x c.args.rows.now) (sym (nothing_needed o c.args.secs.now _ c.if-is_empty.ensures c.requires.needed)) (can_have_sections o c.args.rows.now c.requires.fit)

pub returns-then-is_empty-clause-frames : goal.returns-then-is_empty-clause-frames
returns-then-is_empty-clause-frames c =
    let o : Elf = c.args.object.now in
    IfOk-weaker c.with_frame_sections.result (λ file. file.items ≡ appended_to o (frame_sections o c.args.rows.now)) (λ file. IsFramed o c.args.rows.now file.items)
    (λ file e. is_framed o c.args.rows.now o.bytes o file.items c.requires.fit c.requires.fit.object (nothing_needed o c.args.secs.now _ c.if-is_empty.ensures c.requires.needed) e)
    c.with_frame_sections.ensures.layout

pub returns-then-is_empty-clause-rules : goal.returns-then-is_empty-clause-rules
returns-then-is_empty-clause-rules c =
    let o : Elf = c.args.object.now in
    IfOk-weaker c.with_frame_sections.result (λ file. file.items ≡ appended_to o (frame_sections o c.args.rows.now)) (λ file. FollowsRows o c.args.rows.now file.items)
    (λ file e. follows_rows o c.args.rows.now file.items c.requires.fit (is_framed o c.args.rows.now o.bytes o file.items c.requires.fit c.requires.fit.object (nothing_needed o c.args.secs.now _ c.if-is_empty.ensures c.requires.needed) e))
    c.with_frame_sections.ensures.layout

pub insert_symbols-requires-clause-can : goal.insert_symbols-requires-clause-can
insert_symbols-requires-clause-can c =
    subst (CanInsert c.args.object.now) (sym c.requires.needed) (can_insert c.args.object.now c.args.rows.now (has_room c.args.object.now c.args.rows.now c.requires.fit))

pub insert_symbols-requires-clause-free : goal.insert_symbols-requires-clause-free
insert_symbols-requires-clause-free c = subst (AreFree c.args.object.now) (sym c.requires.needed) (all_free c.args.object.now c.args.rows.now)

pub with_frame_sections-requires-2 : goal.with_frame_sections-requires-2
with_frame_sections-requires-2 c =
    let o : Elf = c.args.object.now in
    let is = read_is o _ c.args.secs.now c.in_ok-file.file.items c.deref.result.now c.in_ok-named.named c.requires.needed c.in_ok-file.ensures.object c.deref.ensures.value c.in_ok-named.ensures in
    subst (λ (x : Elf). CanHaveSections x c.args.rows.now) (sym is) (can_have_sections o c.args.rows.now c.requires.fit)

pub returns-clause-frames : goal.returns-clause-frames
returns-clause-frames c =
    let o : Elf = c.args.object.now in
    let is = read_is o _ c.args.secs.now c.in_ok-file.file.items c.deref.result.now c.in_ok-named.named c.requires.needed c.in_ok-file.ensures.object c.deref.ensures.value c.in_ok-named.ensures in
    IfOk-weaker c.with_frame_sections-2.result (λ file. file.items ≡ appended_to c.in_ok-named.named (frame_sections c.in_ok-named.named c.args.rows.now)) (λ file. IsFramed o c.args.rows.now file.items)
    (λ file e. is_framed o c.args.rows.now c.deref.result.now c.in_ok-named.named file.items c.requires.fit c.in_ok-named.ensures is e)
    c.with_frame_sections-2.ensures.layout

pub returns-clause-rules : goal.returns-clause-rules
returns-clause-rules c =
    let o : Elf = c.args.object.now in
    let is = read_is o _ c.args.secs.now c.in_ok-file.file.items c.deref.result.now c.in_ok-named.named c.requires.needed c.in_ok-file.ensures.object c.deref.ensures.value c.in_ok-named.ensures in
    IfOk-weaker c.with_frame_sections-2.result (λ file. file.items ≡ appended_to c.in_ok-named.named (frame_sections c.in_ok-named.named c.args.rows.now)) (λ file. FollowsRows o c.args.rows.now file.items)
    (λ file e. follows_rows o c.args.rows.now file.items c.requires.fit (is_framed o c.args.rows.now c.deref.result.now c.in_ok-named.named file.items c.requires.fit c.in_ok-named.ensures is e))
    c.with_frame_sections-2.ensures.layout
