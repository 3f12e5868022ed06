-- The call frame information of rows is the same in an object with more sections behind.
use Rattle.std.proofs.Common.{◌≡◌, ℕ, zero, suc, ◌+◌, ◌-◌, ◌<◌, ◌≤◌, Bool, false, cond, List, [], ◌∷◌, ◌++◌, length, Option, refl, sym, ◌∙◌, ap, arith, append-nil}
use Rattle.std.specs.Prelude.{◌==◌, All, filter}
use Rattle.std.specs.List.{list_any, range_with_len}
use Rattle.std.proofs.lemmas.Bool.{ne_eqb}
use Rattle.std.proofs.lemmas.List.Elements.{All-head, All-tail, All-weaker, filter-append}
use Rattle.std.proofs.lemmas.List.Folds.{list_any_none}
use Rattle.ot_base.specs.declared.row.PlacedRow.{PlacedRow}
use Rattle.elf_objects.specs.declared.symbol.Reloc.{Reloc}
use Rattle.elf_objects.specs.Contents.{section_at, section_symbol_of}
use Rattle.elf_objects.specs.Elf.{Elf}
use Rattle.eh_frame.specs.Records.{cie, entry_bytes, terminator}
use Rattle.eh_frame.specs.RowFrames.{address_slot, entries_bytes, frame_section, frame_slots, has_row, rows_in, sections_with, slots_from, spelled_in, spelled_rows}
use Rattle.eh_frame.proofs.EncodeSteps.{range_more}

-- numbers that don't pass behind others
none_behind : (p : ℕ → Bool) (n k : ℕ) → ((m : ℕ) → n ≤ m → p m ≡ false) → filter p (range_with_len 0 (n + k)) ≡ filter p (range_with_len 0 n)
none_behind p n zero none = ap (λ (m : ℕ). filter p (range_with_len 0 m)) (let e : n + 0 ≡ n = omega arith in e)
none_behind p n (suc k) none =
    let next : n + suc k ≡ suc (n + k) = omega arith in
    let no : p (0 + (n + k)) ≡ false = none (0 + (n + k)) (omega arith) in
    ap (λ (m : ℕ). filter p (range_with_len 0 m)) next
    ∙ ap (filter p) (range_more (n + k) 0)
    ∙ filter-append p (range_with_len 0 (n + k)) ((0 + (n + k)) ∷ [])
    ∙ ap (λ (b : Bool). filter p (range_with_len 0 (n + k)) ++ cond b ((0 + (n + k)) ∷ []) []) no
    ∙ append-nil (filter p (range_with_len 0 (n + k)))
    ∙ none_behind p n k none

no_row : (rows : List PlacedRow) (n sec : ℕ) → All (λ placed. placed.place.sec < n) rows → n ≤ sec → has_row rows sec ≡ false
no_row rows n sec inside h =
    list_any_none (λ (placed : PlacedRow). placed.place.sec == sec) rows
    (All-weaker (λ (placed : PlacedRow). placed.place.sec < n) (λ (placed : PlacedRow). (placed.place.sec == sec) ≡ false) (λ placed k. ne_eqb placed.place.sec sec (λ e. absurd (omega arith))) rows inside)

sections_same : (a b : Elf) (rows : List PlacedRow) → length a.sections ≤ length b.sections → All (λ placed. placed.place.sec < length a.sections) rows → sections_with b rows ≡ sections_with a rows
sections_same a b rows h inside =
    let all : length b.sections ≡ length a.sections + (length b.sections - length a.sections) = omega arith in
    ap (λ (n : ℕ). filter (has_row rows) (range_with_len 0 n)) all
    ∙ none_behind (has_row rows) (length a.sections) (length b.sections - length a.sections) (λ m k. no_row rows (length a.sections) m inside k)

module _ (a b : Elf) (rows : List PlacedRow) where
  abbrev pub IsSameSize : ℕ → Type 0
  IsSameSize sec = (section_at a sec).size ≡ (section_at b sec).size

  spelled_same : (sec : ℕ) → IsSameSize sec → spelled_in a rows sec ≡ spelled_in b rows sec
  spelled_same sec h = ap (λ (n : ℕ). spelled_rows n (rows_in rows sec)) h

  entries_same : (secs : List ℕ) (at : ℕ) → All IsSameSize secs → entries_bytes a rows at secs ≡ entries_bytes b rows at secs
  entries_same [] at h = refl
  entries_same (sec ∷ secs) at h =
      let here : IsSameSize sec = All-head IsSameSize sec secs h in
      let own = spelled_same sec here in
      ap (λ (n : ℕ). entry_bytes at n (spelled_in a rows sec) ++ entries_bytes a rows (at + 17 + length (spelled_in a rows sec)) secs) here
      ∙ ap (λ (bs : List ℕ). entry_bytes at (section_at b sec).size bs ++ entries_bytes a rows (at + 17 + length bs) secs) own
      ∙ ap (λ (bs : List ℕ). entry_bytes at (section_at b sec).size (spelled_in b rows sec) ++ bs) (entries_same secs (at + 17 + length (spelled_in b rows sec)) (All-tail IsSameSize sec secs h))

  slots_same : (secs : List ℕ) (at : ℕ) → ((sec : ℕ) → section_symbol_of a sec ≡ section_symbol_of b sec) → All IsSameSize secs → slots_from a rows at secs ≡ slots_from b rows at secs
  slots_same [] at symbols h = refl
  slots_same (sec ∷ secs) at symbols h =
      let here : IsSameSize sec = All-head IsSameSize sec secs h in
      let slot : address_slot (section_symbol_of a) at sec ≡ address_slot (section_symbol_of b) at sec = ap (λ (o : Option ℕ). address_slot (λ _. o) at sec) (symbols sec) in
      ap (λ (r : Reloc). r ∷ slots_from a rows (at + 17 + length (spelled_in a rows sec)) secs) slot
      ∙ ap (λ (bs : List ℕ). address_slot (section_symbol_of b) at sec ∷ slots_from a rows (at + 17 + length bs) secs) (spelled_same sec here)
      ∙ ap (λ (rs : List Reloc). address_slot (section_symbol_of b) at sec ∷ rs) (slots_same secs (at + 17 + length (spelled_in b rows sec)) symbols (All-tail IsSameSize sec secs h))

  pub frame_section_same : length a.sections ≤ length b.sections → All (λ placed. placed.place.sec < length a.sections) rows → All IsSameSize (sections_with a rows) → frame_section a rows ≡ frame_section b rows
  unfolding frame_section
  frame_section_same h inside same =
      ap (λ (bs : List ℕ). cie ++ (bs ++ terminator)) (entries_same (sections_with a rows) 24 same)
      ∙ ap (λ (secs : List ℕ). cie ++ (entries_bytes b rows 24 secs ++ terminator)) (sym (sections_same a b rows h inside))

  pub frame_slots_same : length a.sections ≤ length b.sections → All (λ placed. placed.place.sec < length a.sections) rows → ((sec : ℕ) → section_symbol_of a sec ≡ section_symbol_of b sec) → All IsSameSize (sections_with a rows) → frame_slots a rows ≡ frame_slots b rows
  unfolding frame_slots
  frame_slots_same h inside symbols same =
      slots_same (sections_with a rows) 24 symbols same
      ∙ ap (λ (secs : List ℕ). slots_from b rows 24 secs) (sym (sections_same a b rows h inside))
