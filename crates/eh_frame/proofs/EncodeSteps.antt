-- Section by section, the code writes the entries of rows.
use Rattle.std.proofs.Common.{◌≡◌, ◌≢◌, ℕ, zero, suc, ◌+◌, ◌-◌, ◌*◌, ◌%◌, ◌<◌, ◌≤◌, ◌^◌, ◌⊎◌, Bool, true, false, cond, List, [], ◌∷◌, ◌++◌, length, take, drop, get_or, refl, sym, ◌∙◌, ap, subst, inl, inr, arith, append_assoc, append-nil, length-append}
use Rattle.std.specs.Prelude.{◌==◌, ◌||◌, filter, flat_map, All, AllPairs, pos}
use Rattle.std.specs.List.{list_any, range_with_len}
use Rattle.std.proofs.lemmas.Bool.{eq-eqb, ne_eqb, cases_eq, cases_lt}
use Rattle.std.proofs.lemmas.List.{take-append-drop, drop-drop, get_or-drop, get_or-take, length-drop, length-take-le, drop_all}
use Rattle.std.proofs.lemmas.List.Concat.{flat_map-append}
use Rattle.std.proofs.lemmas.List.Folds.{list_any_none, list_any_at}
use Rattle.std.proofs.lemmas.List.Elements.{All-nil, All-cons, All-head, All-tail, All-weaker, All-append, All-from_get_or, All-get_or, filter-append}
use Rattle.ot_base.specs.declared.row.PlacedRow.{PlacedRow}
use Rattle.elf_objects.specs.Elf.{Elf}
use Rattle.elf_objects.specs.Contents.{section_at, section_symbol_of}
use Rattle.table_defs.specs.Order.{ComesBefore}
use Rattle.orc_bytes.specs.RelocBytes.{bytes_of_reloc}
use Rattle.eh_frame.specs.Records.{cie, entry_bytes, terminator}
use Rattle.eh_frame.specs.RowFrames.{address_slot, entries_bytes, frame_rela, frame_section, frame_slots, has_row, rows_in, slots_from, spelled_in, spelled_rows}
use Rattle.elf_objects.specs.declared.symbol.Reloc.{Reloc}
use Rattle.eh_frame.proofs.EntryLemmas.{entry_length}
use Rattle.eh_frame.proofs.RowSpelling.{spelled_bound}

abbrev pub Ascends : List PlacedRow → Type 0
Ascends rows = AllPairs (λ one other. ComesBefore one.place other.place) rows

-- the sections before one that have rows
pub sections_before : List PlacedRow → ℕ → List ℕ
sections_before rows sec = filter (has_row rows) (range_with_len 0 sec)

-- So many sections are written, and so many rows.
pub record EncodedTo (object : Elf) (rows : List PlacedRow) (sec from : ℕ) (body rela : List ℕ) : Type 0 where
  pub within : from ≤ length rows
  pub before : All (λ placed. placed.place.sec < sec) (take from rows)
  pub behind : All (λ placed. sec ≤ placed.place.sec) (drop from rows)
  pub written : body ≡ cie ++ entries_bytes object rows 24 (sections_before rows sec)
  pub relocated : rela ≡ flat_map bytes_of_reloc (slots_from object rows 24 (sections_before rows sec))
  pub short : length body ≤ 24 + 26 * sec + 16 * from

pub no_row : PlacedRow
no_row = record {
  place = record { sec = 0; off = 0 };
  row = record { sp_offset = pos 0; bp_offset = pos 0; sp_reg = 0; bp_reg = 0; kind = 0; signal = false };
}

pub none_encoded : (object : Elf) (rows : List PlacedRow) → EncodedTo object rows 0 0 cie []
unfolding sections_before
none_encoded object rows = record {
  within = omega arith;
  before = All-nil (λ (placed : PlacedRow). placed.place.sec < 0);
  behind = All-from_get_or (λ (placed : PlacedRow). 0 ≤ placed.place.sec) rows no_row (λ i h. omega arith);
  written = refl;
  relocated = refl;
  short = omega arith;
}

-- when all sections are written
pub all_written : (object : Elf) (rows : List PlacedRow) (sec from : ℕ) (body rela new : List ℕ) → sec ≡ length object.sections → EncodedTo object rows sec from body rela → new ≡ body ++ terminator → new ≡ frame_section object rows
unfolding frame_section sections_before
all_written object rows sec from body rela new same encoded e =
    e
    ∙ ap (λ (bs : List ℕ). bs ++ terminator) encoded.written
    ∙ ap (λ (n : ℕ). (cie ++ entries_bytes object rows 24 (sections_before rows n)) ++ terminator) same
    ∙ append_assoc cie (entries_bytes object rows 24 (sections_before rows (length object.sections))) terminator

pub all_relocated : (object : Elf) (rows : List PlacedRow) (sec from : ℕ) (body rela : List ℕ) → sec ≡ length object.sections → EncodedTo object rows sec from body rela → rela ≡ frame_rela object rows
unfolding frame_slots sections_before
all_relocated object rows sec from body rela same encoded =
    encoded.relocated ∙ ap (λ (n : ℕ). flat_map bytes_of_reloc (slots_from object rows 24 (sections_before rows n))) same

-- one number more
pub range_more : (n from : ℕ) → range_with_len from (suc n) ≡ range_with_len from n ++ (from + n) ∷ []
range_more zero from = ap (λ (k : ℕ). k ∷ []) (omega arith)
range_more (suc n) from = ap (λ (ks : List ℕ). from ∷ ks) (range_more n (from + 1) ∙ ap (λ (k : ℕ). range_with_len (from + 1) n ++ k ∷ []) (let e : from + 1 + n ≡ from + suc n = omega arith in e))

sections_more : (rows : List PlacedRow) (sec : ℕ) (b : Bool) → has_row rows sec ≡ b → sections_before rows (suc sec) ≡ sections_before rows sec ++ cond b (sec ∷ []) []
unfolding sections_before
sections_more rows sec b e =
    ap (filter (has_row rows)) (range_more sec 0)
    ∙ filter-append (has_row rows) (range_with_len 0 sec) ((0 + sec) ∷ [])
    ∙ ap (λ (k : ℕ). filter (has_row rows) (range_with_len 0 sec) ++ filter (has_row rows) (k ∷ [])) (let z : 0 + sec ≡ sec = omega arith in z)
    ∙ ap (λ (c : Bool). filter (has_row rows) (range_with_len 0 sec) ++ cond c (sec ∷ []) []) e

entries_more : (object : Elf) (rows : List PlacedRow) (secs : List ℕ) (at sec : ℕ) → entries_bytes object rows at (secs ++ sec ∷ []) ≡ entries_bytes object rows at secs ++ entry_bytes (at + length (entries_bytes object rows at secs)) (section_at object sec).size (spelled_in object rows sec)
entries_more object rows [] at sec = append-nil _ ∙ ap (λ (k : ℕ). entry_bytes k (section_at object sec).size (spelled_in object rows sec)) (let z : at ≡ at + 0 = omega arith in z)
entries_more object rows (s ∷ secs) at sec =
    let own : List ℕ = entry_bytes at (section_at object s).size (spelled_in object rows s) in
    let next : ℕ = at + 17 + length (spelled_in object rows s) in
    let long : length (entry_bytes at (section_at object s).size (spelled_in object rows s) ++ entries_bytes object rows (at + 17 + length (spelled_in object rows s)) secs) ≡ 17 + length (spelled_in object rows s) + length (entries_bytes object rows (at + 17 + length (spelled_in object rows s)) secs) =
    length-append (entry_bytes at (section_at object s).size (spelled_in object rows s)) (entries_bytes object rows (at + 17 + length (spelled_in object rows s)) secs)
    ∙ ap (λ (k : ℕ). k + length (entries_bytes object rows (at + 17 + length (spelled_in object rows s)) secs)) (entry_length at (section_at object s).size (spelled_in object rows s)) in
    let place : at + 17 + length (spelled_in object rows s) + length (entries_bytes object rows (at + 17 + length (spelled_in object rows s)) secs) ≡ at + length (entry_bytes at (section_at object s).size (spelled_in object rows s) ++ entries_bytes object rows (at + 17 + length (spelled_in object rows s)) secs) = omega arith in
    ap (λ (bs : List ℕ). entry_bytes at (section_at object s).size (spelled_in object rows s) ++ bs) (entries_more object rows secs (at + 17 + length (spelled_in object rows s)) sec)
    ∙ sym (append_assoc (entry_bytes at (section_at object s).size (spelled_in object rows s)) (entries_bytes object rows (at + 17 + length (spelled_in object rows s)) secs) (entry_bytes (at + 17 + length (spelled_in object rows s) + length (entries_bytes object rows (at + 17 + length (spelled_in object rows s)) secs)) (section_at object sec).size (spelled_in object rows sec)))
    ∙ ap (λ (k : ℕ). (entry_bytes at (section_at object s).size (spelled_in object rows s) ++ entries_bytes object rows (at + 17 + length (spelled_in object rows s)) secs) ++ entry_bytes k (section_at object sec).size (spelled_in object rows sec)) place

-- The rows of a section stand together.
in_three : (rows : List PlacedRow) (from to sec : ℕ) → from ≤ to → to ≤ length rows → All (λ placed. placed.place.sec < sec) (take from rows) → All (λ placed. placed.place.sec ≡ sec) (take (to - from) (drop from rows)) → All (λ placed. sec < placed.place.sec) (drop to rows) → rows_in rows sec ≡ take (to - from) (drop from rows)
in_three rows from to sec h k before own behind =
    let front : rows ≡ take from rows ++ (take (to - from) (drop from rows) ++ drop to rows) =
    sym (take-append-drop from rows)
    ∙ ap (λ (rs : List PlacedRow). take from rows ++ rs) (sym (take-append-drop (to - from) (drop from rows)) ∙ ap (λ (rs : List PlacedRow). take (to - from) (drop from rows) ++ rs) (drop-drop (to - from) from rows ∙ ap (λ (n : ℕ). drop n rows) (let e : from + (to - from) ≡ to = omega arith in e))) in
    ap (λ (rs : List PlacedRow). rows_in rs sec) front
    ∙ filter-append (λ (placed : PlacedRow). placed.place.sec == sec) (take from rows) (take (to - from) (drop from rows) ++ drop to rows)
    ∙ ap (λ (rs : List PlacedRow). rs ++ rows_in (take (to - from) (drop from rows) ++ drop to rows) sec) (none_in (take from rows) (All-weaker (λ (placed : PlacedRow). placed.place.sec < sec) (λ (placed : PlacedRow). placed.place.sec ≢ sec) (λ placed l e. absurd (omega arith)) (take from rows) before))
    ∙ filter-append (λ (placed : PlacedRow). placed.place.sec == sec) (take (to - from) (drop from rows)) (drop to rows)
    ∙ ap (λ (rs : List PlacedRow). rs ++ rows_in (drop to rows) sec) (all_in (take (to - from) (drop from rows)) own)
    ∙ ap (λ (rs : List PlacedRow). take (to - from) (drop from rows) ++ rs) (none_in (drop to rows) (All-weaker (λ (placed : PlacedRow). sec < placed.place.sec) (λ (placed : PlacedRow). placed.place.sec ≢ sec) (λ placed l e. absurd (omega arith)) (drop to rows) behind))
    ∙ append-nil (take (to - from) (drop from rows))
  where
    none_in : (rs : List PlacedRow) → All (λ placed. placed.place.sec ≢ sec) rs → rows_in rs sec ≡ []
    none_in [] h = refl
    none_in (r ∷ rs) h =
        let no : (r.place.sec == sec) ≡ false = ne_eqb r.place.sec sec (All-head (λ (placed : PlacedRow). placed.place.sec ≢ sec) r rs h) in
        rw no (none_in rs (All-tail (λ (placed : PlacedRow). placed.place.sec ≢ sec) r rs h))

    all_in : (rs : List PlacedRow) → All (λ placed. placed.place.sec ≡ sec) rs → rows_in rs sec ≡ rs
    all_in [] h = refl
    all_in (r ∷ rs) h =
        let yes : (r.place.sec == sec) ≡ true = eq-eqb r.place.sec sec (All-head (λ (placed : PlacedRow). placed.place.sec ≡ sec) r rs h) in
        rw yes (ap (λ (xs : List PlacedRow). r ∷ xs) (all_in rs (All-tail (λ (placed : PlacedRow). placed.place.sec ≡ sec) r rs h)))

-- Where the rows of a section end.
pub record IsRun (rows : List PlacedRow) (from to sec : ℕ) : Type 0 where
  pub low : from ≤ to
  pub high : to ≤ length rows
  pub own : (k : ℕ) (d : PlacedRow) → from ≤ k → k < to → (get_or rows k d).place.sec ≡ sec
  pub next : (d : PlacedRow) → to < length rows → (get_or rows to d).place.sec ≡ sec → ⊥

run_own : (rows : List PlacedRow) (from to sec : ℕ) → IsRun rows from to sec → All (λ placed. placed.place.sec ≡ sec) (take (to - from) (drop from rows))
run_own rows from to sec run = All-from_get_or (λ (placed : PlacedRow). placed.place.sec ≡ sec) (take (to - from) (drop from rows)) no_row (λ i h.
    let low = run.low in
    let high = run.high in
    let l = length-drop from rows in
    let k : length (take (to - from) (drop from rows)) ≡ to - from = length-take-le (to - from) (drop from rows) (omega arith) in
    subst (λ (placed : PlacedRow). placed.place.sec ≡ sec) (sym (get_or-take (to - from) (drop from rows) i no_row (omega arith) ∙ get_or-drop from rows i no_row)) (run.own (from + i) no_row (omega arith) (omega arith)))

run_behind : (rows : List PlacedRow) (from to sec : ℕ) → Ascends rows → IsRun rows from to sec → All (λ placed. sec ≤ placed.place.sec) (drop from rows) → All (λ placed. sec < placed.place.sec) (drop to rows)
run_behind rows from to sec up run behind = All-from_get_or (λ (placed : PlacedRow). sec < placed.place.sec) (drop to rows) no_row (λ i h.
    let low = run.low in
    let l = length-drop to rows in
    let k = length-drop from rows in
    let inside : to < length rows = omega arith in
    let first : sec ≤ (get_or rows to no_row).place.sec =
    subst (λ (placed : PlacedRow). sec ≤ placed.place.sec) (get_or-drop from rows (to - from) no_row ∙ ap (λ (n : ℕ). get_or rows n no_row) (let e : from + (to - from) ≡ to = omega arith in e)) (All-get_or (λ (placed : PlacedRow). sec ≤ placed.place.sec) (drop from rows) (to - from) no_row (omega arith) behind) in
    let other = run.next no_row inside in
    let above : sec < (get_or rows to no_row).place.sec = further first other in
    subst (λ (placed : PlacedRow). sec < placed.place.sec) (sym (get_or-drop to rows i no_row)) (later i (omega arith) inside above))
  where
    further : {m n : ℕ} → m ≤ n → (n ≡ m → ⊥) → m < n
    further {m} {n} h k = elim (cases_eq n m) [
      | inl same ↦ absurd (k same)
      | inr different ↦ omega arith
    ]

    later : (i : ℕ) → to + i < length rows → to < length rows → sec < (get_or rows to no_row).place.sec → sec < (get_or rows (to + i) no_row).place.sec
    later zero h k above = subst (λ (n : ℕ). sec < (get_or rows n no_row).place.sec) (let e : to ≡ to + 0 = omega arith in e) above
    later (suc i) h k above = elim (up to (to + suc i) no_row (omega arith) h) [
      | inl lower ↦ omega arith
      | inr same ↦ let e = same.0 in omega arith
    ]

has_none : (rows : List PlacedRow) (sec : ℕ) → All (λ placed. placed.place.sec ≢ sec) rows → has_row rows sec ≡ false
has_none rows sec h = list_any_none (λ (placed : PlacedRow). placed.place.sec == sec) rows (All-weaker (λ (placed : PlacedRow). placed.place.sec ≢ sec) (λ (placed : PlacedRow). (placed.place.sec == sec) ≡ false) (λ placed k. ne_eqb placed.place.sec sec k) rows h)

has_some : (rows : List PlacedRow) (sec i : ℕ) → i < length rows → (get_or rows i no_row).place.sec ≡ sec → has_row rows sec ≡ true
has_some rows sec i h e = list_any_at (λ (placed : PlacedRow). placed.place.sec == sec) rows i no_row h (eq-eqb _ _ e)

apart : (rows : List PlacedRow) (from sec : ℕ) → All (λ placed. placed.place.sec < sec) (take from rows) → All (λ placed. sec < placed.place.sec) (drop from rows) → All (λ placed. placed.place.sec ≢ sec) rows
apart rows from sec before behind =
    subst (λ (rs : List PlacedRow). All (λ placed. placed.place.sec ≢ sec) rs) (take-append-drop from rows)
    (All-append (λ (placed : PlacedRow). placed.place.sec ≢ sec) (take from rows) (drop from rows)
    (All-weaker (λ (placed : PlacedRow). placed.place.sec < sec) (λ (placed : PlacedRow). placed.place.sec ≢ sec) (λ placed l e. absurd (omega arith)) (take from rows) before)
    (All-weaker (λ (placed : PlacedRow). sec < placed.place.sec) (λ (placed : PlacedRow). placed.place.sec ≢ sec) (λ placed l e. absurd (omega arith)) (drop from rows) behind))

slots_more : (object : Elf) (rows : List PlacedRow) (secs : List ℕ) (at sec : ℕ) → slots_from object rows at (secs ++ sec ∷ []) ≡ slots_from object rows at secs ++ address_slot (section_symbol_of object) (at + length (entries_bytes object rows at secs)) sec ∷ []
slots_more object rows [] at sec = ap (λ (k : ℕ). address_slot (section_symbol_of object) k sec ∷ []) (let z : at ≡ at + 0 = omega arith in z)
slots_more object rows (s ∷ secs) at sec =
    let long : length (entry_bytes at (section_at object s).size (spelled_in object rows s) ++ entries_bytes object rows (at + 17 + length (spelled_in object rows s)) secs) ≡ 17 + length (spelled_in object rows s) + length (entries_bytes object rows (at + 17 + length (spelled_in object rows s)) secs) =
    length-append (entry_bytes at (section_at object s).size (spelled_in object rows s)) (entries_bytes object rows (at + 17 + length (spelled_in object rows s)) secs)
    ∙ ap (λ (k : ℕ). k + length (entries_bytes object rows (at + 17 + length (spelled_in object rows s)) secs)) (entry_length at (section_at object s).size (spelled_in object rows s)) in
    let place : at + 17 + length (spelled_in object rows s) + length (entries_bytes object rows (at + 17 + length (spelled_in object rows s)) secs) ≡ at + length (entry_bytes at (section_at object s).size (spelled_in object rows s) ++ entries_bytes object rows (at + 17 + length (spelled_in object rows s)) secs) = omega arith in
    ap (λ (rs : List Reloc). address_slot (section_symbol_of object) at s ∷ rs) (slots_more object rows secs (at + 17 + length (spelled_in object rows s)) sec
    ∙ ap (λ (k : ℕ). slots_from object rows (at + 17 + length (spelled_in object rows s)) secs ++ address_slot (section_symbol_of object) k sec ∷ []) place)

module _ (object : Elf) (rows : List PlacedRow) (sec from to : ℕ) (body rela : List ℕ) (up : Ascends rows) (encoded : EncodedTo object rows sec from body rela) (run : IsRun rows from to sec) where
  behind : All (λ placed. sec < placed.place.sec) (drop to rows)
  behind = run_behind rows from to sec up run encoded.behind

  next_behind : All (λ placed. sec + 1 ≤ placed.place.sec) (drop to rows)
  next_behind = All-weaker (λ (placed : PlacedRow). sec < placed.place.sec) (λ (placed : PlacedRow). sec + 1 ≤ placed.place.sec) (λ placed h. omega arith) (drop to rows) behind

  next_before : All (λ placed. placed.place.sec < sec + 1) (take to rows)
  next_before = All-from_get_or (λ (placed : PlacedRow). placed.place.sec < sec + 1) (take to rows) no_row (λ i h.
      let high = run.high in
      let l : length (take to rows) ≡ to = length-take-le to rows high in
      subst (λ (placed : PlacedRow). placed.place.sec < sec + 1) (sym (get_or-take to rows i no_row (omega arith))) (elim (cases_lt i from) [
        | inl front ↦
            let w = encoded.within in
            let k : length (take from rows) ≡ from = length-take-le from rows w in
            let below : (get_or rows i no_row).place.sec < sec = subst (λ (placed : PlacedRow). placed.place.sec < sec) (get_or-take from rows i no_row front) (All-get_or (λ (placed : PlacedRow). placed.place.sec < sec) (take from rows) i no_row (omega arith) encoded.before) in
            omega arith
        | inr later ↦ let is = run.own i no_row later (omega arith) in omega arith
      ]))

  -- a section without rows
  pub none_more : to ≤ from → EncodedTo object rows (sec + 1) to body rela
  none_more h =
      let low = run.low in
      let same : to ≡ from = omega arith in
      let next : suc sec ≡ sec + 1 = omega arith in
      let no = has_none rows sec (apart rows from sec encoded.before (subst (λ (n : ℕ). All (λ placed. sec < placed.place.sec) (drop n rows)) same behind)) in
      let secs : sections_before rows (sec + 1) ≡ sections_before rows sec = ap (sections_before rows) (sym next) ∙ sections_more rows sec false no ∙ append-nil (sections_before rows sec) in
      record {
        within = run.high;
        before = next_before;
        behind = next_behind;
        written = encoded.written ∙ ap (λ (ss : List ℕ). cie ++ entries_bytes object rows 24 ss) (sym secs);
        relocated = encoded.relocated ∙ ap (λ (ss : List ℕ). flat_map bytes_of_reloc (slots_from object rows 24 ss)) (sym secs);
        short = let s = encoded.short in omega arith;
      }

  -- a section with rows
  pub one_more : (body' rela' spelled : List ℕ) → from < to → spelled ≡ spelled_rows (section_at object sec).size (take (to - from) (drop from rows)) → body' ≡ body ++ entry_bytes (length body) (section_at object sec).size spelled → rela' ≡ rela ++ bytes_of_reloc (address_slot (section_symbol_of object) (length body) sec) → EncodedTo object rows (sec + 1) to body' rela'
  one_more body' rela' spelled h is more moved =
      let low = run.low in
      let high = run.high in
      let next : suc sec ≡ sec + 1 = omega arith in
      let yes = has_some rows sec from (omega arith) (run.own from no_row (omega arith) h) in
      let secs : sections_before rows (sec + 1) ≡ sections_before rows sec ++ sec ∷ [] = ap (sections_before rows) (sym next) ∙ sections_more rows sec true yes in
      let own : rows_in rows sec ≡ take (to - from) (drop from rows) = in_three rows from to sec low high encoded.before (run_own rows from to sec run) behind in
      let bytes : spelled ≡ spelled_in object rows sec = is ∙ ap (spelled_rows (section_at object sec).size) (sym own) in
      let at : length body ≡ 24 + length (entries_bytes object rows 24 (sections_before rows sec)) = ap length encoded.written ∙ length-append cie (entries_bytes object rows 24 (sections_before rows sec)) in
      let l = length-drop from rows in
      let few : length (take (to - from) (drop from rows)) ≡ to - from = length-take-le (to - from) (drop from rows) (omega arith) in
      let bound = spelled_bound (section_at object sec).size (take (to - from) (drop from rows)) in
      let grown : length body' ≡ length body + (17 + length spelled) = ap length more ∙ length-append body (entry_bytes (length body) (section_at object sec).size spelled) ∙ ap (λ (k : ℕ). length body + k) (entry_length (length body) (section_at object sec).size spelled) in
      let shown : length spelled ≡ length (spelled_rows (section_at object sec).size (take (to - from) (drop from rows))) = ap length is in
      record {
        within = run.high;
        before = next_before;
        behind = next_behind;
        written =
            more
            ∙ ap (λ (bs : List ℕ). body ++ entry_bytes (length body) (section_at object sec).size bs) bytes
            ∙ ap (λ (k : ℕ). body ++ entry_bytes k (section_at object sec).size (spelled_in object rows sec)) at
            ∙ ap (λ (bs : List ℕ). bs ++ entry_bytes (24 + length (entries_bytes object rows 24 (sections_before rows sec))) (section_at object sec).size (spelled_in object rows sec)) encoded.written
            ∙ append_assoc cie (entries_bytes object rows 24 (sections_before rows sec)) (entry_bytes (24 + length (entries_bytes object rows 24 (sections_before rows sec))) (section_at object sec).size (spelled_in object rows sec))
            ∙ ap (λ (bs : List ℕ). cie ++ bs) (sym (entries_more object rows (sections_before rows sec) 24 sec))
            ∙ ap (λ (ss : List ℕ). cie ++ entries_bytes object rows 24 ss) (sym secs);
        relocated =
            moved
            ∙ ap (λ (bs : List ℕ). bs ++ bytes_of_reloc (address_slot (section_symbol_of object) (length body) sec)) encoded.relocated
            ∙ ap (λ (k : ℕ). flat_map bytes_of_reloc (slots_from object rows 24 (sections_before rows sec)) ++ bytes_of_reloc (address_slot (section_symbol_of object) k sec)) at
            ∙ ap (λ (bs : List ℕ). flat_map bytes_of_reloc (slots_from object rows 24 (sections_before rows sec)) ++ bs) (sym (append-nil (bytes_of_reloc (address_slot (section_symbol_of object) (24 + length (entries_bytes object rows 24 (sections_before rows sec))) sec))))
            ∙ sym (flat_map-append bytes_of_reloc (slots_from object rows 24 (sections_before rows sec)) (address_slot (section_symbol_of object) (24 + length (entries_bytes object rows 24 (sections_before rows sec))) sec ∷ []))
            ∙ ap (flat_map bytes_of_reloc) (sym (slots_more object rows (sections_before rows sec) 24 sec))
            ∙ ap (λ (ss : List ℕ). flat_map bytes_of_reloc (slots_from object rows 24 ss)) (sym secs);
        short = let s = encoded.short in omega arith;
      }
