use Rattle.std.proofs.Common.{◌≡◌, Bool, true, false, not, length, refl, sym, ap, ◌∙◌}
use Rattle.elf_objects.specs.Elf.{Elf}
use Rattle.flow_defs.specs.Coded.{Coded}
use Rattle.flow_defs.specs.Program.{is_patch_section}
use Rattle.std.specs.Prelude.{IsTrue}
use Rattle.std.proofs.lemmas.Bool.{false≢true}
use Rattle.elf_objects.specs.Contents.{is_text, section_at}
use Rattle.symbols_relocs.specs.Covers.{is_behind_symbol, is_covered}
use Rattle.symbols_relocs.specs.NamedCode.{is_in_named_code}
use Rattle.object_points.proofs.OwnersOf.{no_bytes}
use Rattle.object_points.proofs.owner_table.OwnerTable.build.Goals as goal

pub invariant_of-result : goal.invariant_of-result
invariant_of-result c =
    let o : Coded = c.args.places.now in
    let object : c.object-object.result.now ≡ o.elf = c.object-object.ensures ∙ ap (λ (e : Coded). e.elf) c.linked.ensures in (
      record {
        told = c.code_owners-told.ensures.told;
        few = c.code_owners-told.ensures.few;
        all = c.in_ok-owners.ensures;
        loose_code = λ place. c.in_ok-loose.ensures place ∙ ap (λ (e : Elf). is_in_named_code e c.args.lists.now.loose place) object;
        none_loose = λ none place. no_bytes c.in_ok-loose.loose place (empty c.is_empty-has_loose.result none c.is_empty-has_loose.ensures);
        covered_code = record {
          bytes = λ place text. c.in_ok-covered.ensures.bytes place (ap (λ (e : Elf). is_text (section_at e place.sec)) object ∙ text) ∙ ap (λ (e : Elf). is_covered e place) object;
          starts = λ place text. c.in_ok-covered.ensures.starts place (ap (λ (e : Elf). is_text (section_at e place.sec)) object ∙ text) ∙ ap (λ (e : Elf). is_behind_symbol e place) object;
        };
      },
      λ sec. c.in_ok-patches.ensures sec ∙ ap (λ (e : Elf). is_patch_section e sec) object,
    )
  where
    empty : (b : Bool) → not b ≡ false → (IsTrue b → length c.in_ok-loose.loose ≡ 0) → length c.in_ok-loose.loose ≡ 0
    empty true none is = is refl
    empty false none is = absurd (false≢true (sym none))
