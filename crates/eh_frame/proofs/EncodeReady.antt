-- What the rows of one section ask for, and have.
use Rattle.std.proofs.Common.{◌≡◌, ℕ, ◌+◌, ◌-◌, ◌*◌, ◌<◌, ◌≤◌, ◌^◌, ◌⊎◌, List, [], ◌∷◌, length, take, drop, get_or, Some, refl, sym, ◌∙◌, ap, subst, inl, inr, arith}
use Rattle.std.specs.Prelude.{All, AllPairs, IsSome, slice_get, pos}
use Rattle.std.proofs.lemmas.List.{get_or-drop, get_or-take, length-drop, length-take-le}
use Rattle.std.proofs.lemmas.List.Elements.{All-get_or}
use Rattle.std.proofs.lemmas.Option.{get_or_from_slice_get}
use Rattle.ot_base.specs.declared.row.PlacedRow.{PlacedRow}
use Rattle.elf_objects.specs.Contents.{no_section, section_at, section_symbol_of}
use Rattle.elf_objects.specs.Elf.{Elf, SectionEntry}
use Rattle.table_defs.specs.Order.{ComesBefore}
use Rattle.eh_frame.specs.RowFrames.{spelled_rows, CanHaveFrames, IsFrameRowOf}
use Rattle.eh_frame.proofs.EncodeSteps.{EncodedTo, IsRun, no_row}
use Rattle.eh_frame.proofs.RowSpelling.{spelled_bound}

module _ (object : Elf) (rows : List PlacedRow) (can : CanHaveFrames object rows) (from to sec : ℕ) (run : IsRun rows from to sec) (some : from < to) where
  high : to ≤ length rows
  high = run.high

  first : IsFrameRowOf object (get_or rows from no_row)
  first = All-get_or (IsFrameRowOf object) rows from no_row (omega arith) can.each

  here : (get_or rows from no_row).place.sec ≡ sec
  here = run.own from no_row (omega arith) some

  pub has_symbol : IsSome (section_symbol_of object sec)
  has_symbol = subst (λ (n : ℕ). IsSome (section_symbol_of object n)) here first.symbol

  pub size_fits : (section_at object sec).size < 2 ^ 32
  size_fits =
      let at : slice_get object.sections sec ≡ Some first.section = subst (λ (n : ℕ). slice_get object.sections n ≡ Some first.section) here first.at in
      let same : (section_at object sec).size ≡ first.section.size = ap (λ (s : SectionEntry). s.size) (get_or_from_slice_get object.sections sec first.section no_section at) in
      let short = first.short in
      omega arith

  few : length (take (to - from) (drop from rows)) ≡ to - from
  few = let l = length-drop from rows in let h = high in length-take-le (to - from) (drop from rows) (omega arith)

  own : (i : ℕ) (d : PlacedRow) → i < to - from → get_or (take (to - from) (drop from rows)) i d ≡ get_or rows (from + i) d
  own i d h = get_or-take (to - from) (drop from rows) i d h ∙ get_or-drop from rows i d

  pub offsets_ascend : AllPairs (λ one other. one.place.off < other.place.off) (take (to - from) (drop from rows))
  offsets_ascend i j d below inside =
      let l = few in
      let h = high in
      let k : j < to - from = omega arith in
      subst (λ (one : PlacedRow). one.place.off < (get_or (take (to - from) (drop from rows)) j d).place.off) (sym (own i d (omega arith)))
      (subst (λ (other : PlacedRow). (get_or rows (from + i) d).place.off < other.place.off) (sym (own j d k))
      (lower (get_or rows (from + i) d) (get_or rows (from + j) d) (run.own (from + i) d (omega arith) (omega arith)) (run.own (from + j) d (omega arith) (omega arith)) (can.ascend (from + i) (from + j) d (omega arith) (omega arith))))
    where
      lower : (one other : PlacedRow) → one.place.sec ≡ sec → other.place.sec ≡ sec → ComesBefore one.place other.place → one.place.off < other.place.off
      lower one other e f (inl below) = absurd (omega arith)
      lower one other e f (inr same) = same.1

  pub entry_fits : (body rela spelled : List ℕ) → sec ≤ 262144 → EncodedTo object rows sec from body rela → spelled ≡ spelled_rows (section_at object sec).size (take (to - from) (drop from rows)) → length body + 17 + length spelled < 2 ^ 32
  entry_fits body rela spelled h encoded is =
      let bound = spelled_bound (section_at object sec).size (take (to - from) (drop from rows)) in
      let long : length spelled ≡ length (spelled_rows (section_at object sec).size (take (to - from) (drop from rows))) = ap length is in
      let short = encoded.short in
      let all = can.few in
      let l = few in
      let k = high in
      omega arith
