-- The six sections of site lists may be added.
use Rattle.std.proofs.Common.{◌≡◌, ◌≢◌, true, ℕ, zero, suc, ◌*◌, ◌^◌, ◌<◌, List, ◌∷◌, [], length, refl, ◌∙◌, arith}
use Rattle.std.specs.Prelude.{All, AllPairs, slice_index, not, ◌==◌}
use Rattle.std.specs.List.{list_all}
use Rattle.std.proofs.lemmas.List.{length-replicate}
use Rattle.std.proofs.lemmas.List.Elements.{All-nil, All-cons}
use Rattle.ot_base.specs.declared.place.Place.{Place}
use Rattle.elf_objects.specs.Contents.{section_symbol_of}
use Rattle.elf_objects.specs.Elf.{Elf}
use Rattle.elf_objects.specs.declared.TheConstants.{SHT_RELA}
use Rattle.elf_write.specs.Added.{AreApart, CanAdd, IsAddable, sizes}
use Rattle.elf_write.specs.Layout.{NewEntry}
use Rattle.orc_output.proofs.Known.{Known}
use Rattle.orc_output.proofs.NewSections.{data_addable, new_size, relocs_addable}
use Rattle.site_lists.specs.Listed.{Listed}
use Rattle.site_lists.specs.Sections.{IsSite, list_name, rela_section, slot_relocs, slot_section}
use Rattle.site_lists.specs.SiteOutput.{CanHaveLists, list_entry, list_number, rela_entry, rela_name, site_sections}
use Rattle.site_lists.proofs.OutputSlots.{slots_inside}
use Rattle.site_lists.proofs.FileRoom.{room}

rela_addable : (o : Elf) (lists : Listed) (which : ℕ) (places : List Place) → Known o → CanHaveLists o lists
    → which < 3 → All (IsSite o) places → length places < 2 ^ 32
    → slice_index (sizes o (site_sections o lists)) (list_number o which) ≡ 4 * length places
    → list_all (λ c. not (c == 0)) (rela_name which) ≡ true
    → IsAddable o (site_sections o lists) (rela_entry o which (rela_section (section_symbol_of o) places))
rela_addable o lists which places k can inside each few target name =
    let room_left = can.few in
    let few_symbols = k.few_symbols in
    relocs_addable o (site_sections o lists) (rela_name which) (list_number o which) (4 * length places) (slot_relocs (section_symbol_of o) places) k name
    (omega arith) (omega arith) (omega arith) target (slots_inside o places few (omega arith) each)

-- of six sections every second one has relocations, each of another section
apart_of : (a p b q c r : NewEntry) → a.kind ≢ SHT_RELA → b.kind ≢ SHT_RELA → c.kind ≢ SHT_RELA → p.info ≢ q.info → p.info ≢ r.info → q.info ≢ r.info
    → AllPairs AreApart (a ∷ p ∷ b ∷ q ∷ c ∷ r ∷ [])
apart_of a p b q c r na nb nc pq pr qr zero j d lt within = λ k l. absurd (na k)
apart_of a p b q c r na nb nc pq pr qr (suc zero) zero d lt within = absurd (omega arith)
apart_of a p b q c r na nb nc pq pr qr (suc zero) (suc zero) d lt within = absurd (omega arith)
apart_of a p b q c r na nb nc pq pr qr (suc zero) (suc (suc zero)) d lt within = λ k l. absurd (nb l)
apart_of a p b q c r na nb nc pq pr qr (suc zero) (suc (suc (suc zero))) d lt within = λ k l. pq
apart_of a p b q c r na nb nc pq pr qr (suc zero) (suc (suc (suc (suc zero)))) d lt within = λ k l. absurd (nc l)
apart_of a p b q c r na nb nc pq pr qr (suc zero) (suc (suc (suc (suc (suc zero))))) d lt within = λ k l. pr
apart_of a p b q c r na nb nc pq pr qr (suc zero) (suc (suc (suc (suc (suc (suc j)))))) d lt within = absurd (omega arith)
apart_of a p b q c r na nb nc pq pr qr (suc (suc zero)) j d lt within = λ k l. absurd (nb k)
apart_of a p b q c r na nb nc pq pr qr (suc (suc (suc zero))) zero d lt within = absurd (omega arith)
apart_of a p b q c r na nb nc pq pr qr (suc (suc (suc zero))) (suc zero) d lt within = absurd (omega arith)
apart_of a p b q c r na nb nc pq pr qr (suc (suc (suc zero))) (suc (suc zero)) d lt within = absurd (omega arith)
apart_of a p b q c r na nb nc pq pr qr (suc (suc (suc zero))) (suc (suc (suc zero))) d lt within = absurd (omega arith)
apart_of a p b q c r na nb nc pq pr qr (suc (suc (suc zero))) (suc (suc (suc (suc zero)))) d lt within = λ k l. absurd (nc l)
apart_of a p b q c r na nb nc pq pr qr (suc (suc (suc zero))) (suc (suc (suc (suc (suc zero))))) d lt within = λ k l. qr
apart_of a p b q c r na nb nc pq pr qr (suc (suc (suc zero))) (suc (suc (suc (suc (suc (suc j)))))) d lt within = absurd (omega arith)
apart_of a p b q c r na nb nc pq pr qr (suc (suc (suc (suc zero)))) j d lt within = λ k l. absurd (nc k)
apart_of a p b q c r na nb nc pq pr qr (suc (suc (suc (suc (suc i))))) j d lt within = absurd (omega arith)

pub can_add : (o : Elf) (lists : Listed) → Known o → CanHaveLists o lists → CanAdd o (site_sections o lists)
can_add o lists k can =
    let new : List NewEntry = site_sections o lists in
    let ss = section_symbol_of o in
    let room_left = can.few in
    let few0 : length lists.retpoline < 2 ^ 32 = (let f = can.few_places.retpoline in omega arith) in
    let few1 : length lists.returns < 2 ^ 32 = (let f = can.few_places.returns in omega arith) in
    let few2 : length lists.calls < 2 ^ 32 = (let f = can.few_places.calls in omega arith) in
    let size0 = new_size o new (list_number o 0) 0 (omega arith) ∙ length-replicate (4 * length lists.retpoline) 0 in
    let size1 = new_size o new (list_number o 1) 2 (omega arith) ∙ length-replicate (4 * length lists.returns) 0 in
    let size2 = new_size o new (list_number o 2) 4 (omega arith) ∙ length-replicate (4 * length lists.calls) 0 in
    let P = IsAddable o new in
    let a : NewEntry = list_entry 0 (slot_section lists.retpoline) in
    let p : NewEntry = rela_entry o 0 (rela_section ss lists.retpoline) in
    let b : NewEntry = list_entry 1 (slot_section lists.returns) in
    let q : NewEntry = rela_entry o 1 (rela_section ss lists.returns) in
    let c : NewEntry = list_entry 2 (slot_section lists.calls) in
    let r : NewEntry = rela_entry o 2 (rela_section ss lists.calls) in
    record {
      few = omega arith;
      size = room o lists k can;
      each =
          All-cons P a (p ∷ b ∷ q ∷ c ∷ r ∷ []) (data_addable o new (list_name 0) 4 4 (slot_section lists.retpoline) refl (omega arith) (omega arith))
          (All-cons P p (b ∷ q ∷ c ∷ r ∷ []) (rela_addable o lists 0 lists.retpoline k can (omega arith) can.each.retpoline few0 size0 refl)
          (All-cons P b (q ∷ c ∷ r ∷ []) (data_addable o new (list_name 1) 4 4 (slot_section lists.returns) refl (omega arith) (omega arith))
          (All-cons P q (c ∷ r ∷ []) (rela_addable o lists 1 lists.returns k can (omega arith) can.each.returns few1 size1 refl)
          (All-cons P c (r ∷ []) (data_addable o new (list_name 2) 4 4 (slot_section lists.calls) refl (omega arith) (omega arith))
          (All-cons P r [] (rela_addable o lists 2 lists.calls k can (omega arith) can.each.calls few2 size2 refl)
          (All-nil P))))));
      apart = apart_of a p b q c r (λ e. omega arith) (λ e. omega arith) (λ e. omega arith) (λ e. omega arith) (λ e. omega arith) (λ e. omega arith);
    }
