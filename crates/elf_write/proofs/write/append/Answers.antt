use Rattle.std.proofs.Common.{◌≡◌, ℕ, ◌+◌, ◌*◌, List, length, refl, sym, ap, ◌∙◌, subst, arith}
use Rattle.std.specs.Prelude.{slice_range}
use Rattle.std.proofs.lemmas.Result.{IfOk-weaker}
use Rattle.elf_objects.specs.Contents.{section_at}
use Rattle.elf_objects.specs.Elf.{Elf, SectionEntry}
use Rattle.elf_objects.specs.Object.{IsObject}
use Rattle.elf_write.specs.Added.{object_with}
use Rattle.elf_write.specs.Appended.{ReadsMore}
use Rattle.elf_write.specs.Layout.{Input, NewEntry, appended}
use Rattle.elf_write.specs.New.{entries}
use Rattle.elf_write.specs.Object.{input_of_object}
use Rattle.elf_write.proofs.Result.{Holds, appended-is_object, holds, input_from}
use Rattle.elf_write.proofs.Wide.{reads_more}
use Rattle.elf_write.proofs.write.append.Goals as goal

pub headers-requires : goal.headers-requires
headers-requires c =
    let o : Elf = c.args.object.now in
    let h : Holds c.bytes-bytes.result.now o = holds c.bytes-bytes.result.now o c.bytes-bytes.ensures.object in
    omega (arith, h.headers, c.headers_at.ensures, c.sections.ensures.value)

pub returns-clause-object : goal.returns-clause-object
returns-clause-object c can =
    let o : Elf = c.args.object.now in
    let new : List NewEntry = entries c.args.new.now in
    let ok = c.bytes-bytes.ensures.object in
    let at : c.headers_at.result + 64 * c.sections.result ≡ o.headers_at + 64 * length o.sections = omega (arith, c.headers_at.ensures, c.sections.ensures.value) in
    let headers : c.headers.result.now ≡ slice_range o.bytes o.headers_at (o.headers_at + 64 * length o.sections) =
    c.headers.ensures ∙ rw (c.bytes-bytes.ensures.value, at, c.headers_at.ensures) refl in
    let names : c.section.result.body.now ≡ (section_at o o.name_table).body =
    ap (λ (s : SectionEntry). s.body) c.section.ensures.value ∙ ap (λ (k : ℕ). (section_at o k).body) c.name_table-name_table.ensures.value in
    let i : Input = record { bytes = c.bytes-bytes.result.now; headers = c.headers.result.now; name_table = c.name_table-name_table.result; names = c.section.result.body.now } in
    let is : i ≡ input_of_object o = input_from o i c.bytes-bytes.ensures.value headers c.name_table-name_table.ensures.value names in
    let done = appended-is_object c.bytes-bytes.result.now o new ok can in
    IfOk-weaker c.append_to.result (λ file. file.items ≡ appended i new) (λ file. IsObject file.items (object_with o new))
    (λ file e. subst (λ (bytes : List ℕ). IsObject bytes (object_with o new)) (sym (e ∙ ap (λ (x : Input). appended x new) is)) done)
    c.append_to.ensures

pub returns-clause-reads : goal.returns-clause-reads
returns-clause-reads c =
    let o : Elf = c.args.object.now in
    let new : List NewEntry = entries c.args.new.now in
    let ok = c.bytes-bytes.ensures.object in
    let at : c.headers_at.result + 64 * c.sections.result ≡ o.headers_at + 64 * length o.sections = omega (arith, c.headers_at.ensures, c.sections.ensures.value) in
    let headers : c.headers.result.now ≡ slice_range o.bytes o.headers_at (o.headers_at + 64 * length o.sections) =
    c.headers.ensures ∙ rw (c.bytes-bytes.ensures.value, at, c.headers_at.ensures) refl in
    let names : c.section.result.body.now ≡ (section_at o o.name_table).body =
    ap (λ (s : SectionEntry). s.body) c.section.ensures.value ∙ ap (λ (k : ℕ). (section_at o k).body) c.name_table-name_table.ensures.value in
    let i : Input = record { bytes = c.bytes-bytes.result.now; headers = c.headers.result.now; name_table = c.name_table-name_table.result; names = c.section.result.body.now } in
    let is : i ≡ input_of_object o = input_from o i c.bytes-bytes.ensures.value headers c.name_table-name_table.ensures.value names in
    let done = reads_more c.bytes-bytes.result.now o new ok c.requires in
    IfOk-weaker c.append_to.result (λ file. file.items ≡ appended i new) (λ file. ReadsMore o new file.items)
    (λ file e. subst (λ (bytes : List ℕ). ReadsMore o new bytes) (sym (e ∙ ap (λ (x : Input). appended x new) is)) done)
    c.append_to.ensures
