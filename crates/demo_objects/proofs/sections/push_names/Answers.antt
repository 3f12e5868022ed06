use Rattle.std.proofs.Common.{◌≡◌, ℕ, List, [], ◌∷◌, ◌++◌, ap, ◌∙◌}
use Rattle.std.specs.Prelude.{codes}
use Rattle.std.proofs.lemmas.List.{map-append}
use Rattle.elf_objects.specs.declared.TheConstants.{SHT_STRTAB}
use Rattle.elf_write.specs.declared.section.NewSection.{NewSection}
use Rattle.elf_write.specs.Layout.{NewEntry, new_names}
use Rattle.elf_write.specs.New.{entries, entry_of}
use Rattle.demo_objects.specs.Layout.{names_entry}
use Rattle.demo_objects.proofs.sections.push_names.Goals as goal

abbrev names_of_body : List ℕ → NewEntry
names_of_body body = record {
  name = codes ".shstrtab";
  kind = SHT_STRTAB;
  flags = 0;
  link = 0;
  info = 0;
  align = 1;
  entsize = 0;
  body = body;
}

pub returns : goal.returns
returns c =
    let old : List NewSection = c.args.all.now.items in
    let body : c.push_bytes.new.out.items ≡ (names_entry (entries old)).body =
    c.in_ok-push_bytes.ensures
    ∙ ap (λ (xs : List ℕ). xs ++ (codes ".shstrtab" ++ 0 ∷ [])) (c.in_ok-names.ensures ∙ ap (λ (ss : List NewSection). 0 ∷ new_names (entries ss)) c.deref.ensures.value) in
    ap entries c.in_ok-push.ensures.items
    ∙ map-append entry_of old (c.in_ok-string_table.field-0 ∷ [])
    ∙ ap (λ (e : NewEntry). entries old ++ e ∷ []) (c.in_ok-string_table.ensures ∙ ap names_of_body body)
