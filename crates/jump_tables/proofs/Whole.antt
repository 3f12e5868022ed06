-- What is kept gives the tables of all jumps.
use Rattle.std.proofs.Common.{◌≡◌, ℕ, zero, suc, ◌<◌, Bool, true, false, cond, eqb, ◌||◌, List, [], ◌∷◌, length, get_or, map, Option, Some, None, option_and_then, arith, refl, sym, ap, subst, ◌∙◌}
use Rattle.std.specs.List.{list_any}
use Rattle.ot_base.specs.declared.place.Place.{Place}
use Rattle.ot_base.specs.Places.{same_place}
use Rattle.x86_text.specs.Code.{code_of}
use Rattle.elf_objects.specs.Elf.{Elf}
use Rattle.special_sections.specs.declared.entries.AltEntry.{AltEntry}
use Rattle.alternatives.specs.declared.point.Point.{Point}
use Rattle.alternatives.specs.declared.texts.SectionText.{SectionText}
use Rattle.alternatives.specs.Texts.{AscendBySection}
use Rattle.jump_tables.specs.declared.jump.Jump.{Jump}
use Rattle.jump_tables.specs.declared.table.Table.{Table}
use Rattle.flow_defs.specs.Tables.{entries_by, entries_for, jump_table, table_of, tables_of}
use Rattle.jump_tables.specs.Jumps.{jump_among, jumps_of, HaveSameJumps, IsAscending}
use Rattle.jump_tables.specs.Kept.{of_start, of_table, start_at, table_at, table_in, AreStarts, AreTables, IsTableFrom}
use Rattle.jump_tables.proofs.Jumping.{start_is, tables_are}
use Rattle.jump_tables.proofs.Order.{is_same, same_is}

or_true : (a b : Bool) → b ≡ true → (a || b) ≡ true
or_true true b h = refl
or_true false b h = h

-- the table of a jump that is found begins among those of the jumps
found_any : (jumps : List Jump) (place : Place) (j : Jump) → jump_among jumps place ≡ Some j → list_any (same_place j.table) (map (λ (i : Jump). i.table) jumps) ≡ true
found_any [] place j found = cc
found_any (x ∷ xs) place j found =
    elim (same_place x.place place) as (λ b. cond b (Some x) (jump_among xs place) ≡ Some j → (same_place j.table x.table || list_any (same_place j.table) (map (λ (i : Jump). i.table) xs)) ≡ true) [
      | true ↦ λ here.
          let same : x ≡ j = cc in
          ap (λ b. b || list_any (same_place j.table) (map (λ (i : Jump). i.table) xs)) (is_same j.table x.table (ap (λ (i : Jump). i.table) same))
      | false ↦ λ behind. or_true (same_place j.table x.table) (list_any (same_place j.table) (map (λ (i : Jump). i.table) xs)) (found_any xs place j behind)
    ] found

module _ (o : Elf) (texts : List SectionText) (entries : List AltEntry) where
  kept_is : (owner : Option ℕ) (starts : List Place) (tables : List Table) (start : Place) → length tables ≡ length starts → ((k : ℕ) (d : Place) (e : Table) → k < length starts → IsTableFrom o texts entries (get_or starts k d) (get_or tables k e)) → list_any (same_place start) starts ≡ true → of_table owner (table_at starts tables start) ≡ entries_for o texts entries start owner
  kept_is owner [] tables start len each any = cc
  kept_is owner (s ∷ ss) [] start len each any = absurd (omega arith)
  kept_is owner (s ∷ ss) (t ∷ ts) start len each any =
      elim (same_place start s) as (λ b. same_place start s ≡ b → (b || list_any (same_place start) ss) ≡ true → of_table owner (cond b (Some t) (table_at ss ts start)) ≡ entries_for o texts entries start owner) [
        | true ↦ λ same among. (each 0 s t (omega arith)).kept owner ∙ ap (λ p. entries_for o texts entries p owner) (sym (same_is start s same))
        | false ↦ λ other among. kept_is owner ss ts start (omega arith) (λ k d e inside. each (suc k) d e (omega arith)) among
      ] refl any

  -- the table of a jump at a point begins among those of the jumps
  start_among : (jumps : List Jump) (point : Point) (start : Place) → option_and_then (start_at point.variant) (jump_among jumps point.place) ≡ Some start → list_any (same_place start) (map (λ (i : Jump). i.table) jumps) ≡ true
  start_among jumps point start is = go (jump_among jumps point.place) refl is
    where
      its : (b : Bool) (j : Jump) → cond b (Some j.table) None ≡ Some start → j.table ≡ start
      its true j e = cc
      its false j e = cc

      go : (found : Option Jump) → jump_among jumps point.place ≡ found → option_and_then (start_at point.variant) found ≡ Some start → list_any (same_place start) (map (λ (i : Jump). i.table) jumps) ≡ true
      go None found e = cc
      go (Some j) found e =
          let same : j.table ≡ start = its (eqb point.variant 0 || j.named) j e in
          subst (λ p. list_any (same_place p) (map (λ (i : Jump). i.table) jumps) ≡ true) same (found_any jumps point.place j found)

  by_table : (starts : List Place) (tables : List Table) (point : Point) (owner : Option ℕ) → AreStarts o texts entries starts → AreTables o texts entries starts tables → (table : Option Place) → option_and_then (start_at point.variant) (jump_among (jumps_of o texts entries) point.place) ≡ table → of_start starts tables owner table ≡ entries_by o texts entries owner table
  by_table starts tables point owner all are None is = refl
  by_table starts tables point owner all are (Some start) is =
      let among : list_any (same_place start) (tables_of o texts entries) ≡ true =
      sym (ap (list_any (same_place start)) (tables_are o texts entries)) ∙ start_among (jumps_of o texts entries) point start is in
      kept_is owner starts tables start are.len are.each (all start ∙ among)

  -- the jumps that are kept tell where the table of each point begins
  pub start_kept : (list jumps : List Jump) → AscendBySection texts → ((k : ℕ) (d : SectionText) → k < length texts → IsAscending (code_of (get_or texts k d).text)) → list ≡ jumps_of o texts entries → HaveSameJumps list jumps → (point : Point) → option_and_then (start_at point.variant) (jump_among jumps point.place) ≡ jump_table o texts entries point
  start_kept list jumps by each is same point =
      ap (option_and_then (start_at point.variant)) (same.same point.place ∙ ap (λ l. jump_among l point.place) is)
      ∙ start_is o texts entries point by each

  -- what is kept gives the table of each point and owner
  pub whole : (list jumps : List Jump) (starts : List Place) (tables : List Table) → AscendBySection texts → ((k : ℕ) (d : SectionText) → k < length texts → IsAscending (code_of (get_or texts k d).text)) → list ≡ jumps_of o texts entries → HaveSameJumps list jumps → AreStarts o texts entries starts → AreTables o texts entries starts tables → (point : Point) (owner : Option ℕ) → table_in (record { jumps = jumps; starts = starts; tables = tables }) point owner ≡ table_of o texts entries point owner
  whole list jumps starts tables by each is same all are point owner =
      ap (of_start starts tables owner) (start_kept list jumps by each is same point)
      ∙ by_table starts tables point owner all are (jump_table o texts entries point) (start_is o texts entries point by each)

  -- the places where tables begin
  pub starts_are : (list : List Jump) (starts : List Place) → list ≡ jumps_of o texts entries → ((place : Place) → list_any (same_place place) starts ≡ list_any (same_place place) (map (λ (j : Jump). j.table) list)) → AreStarts o texts entries starts
  starts_are list starts is same place =
      same place ∙ ap (λ l. list_any (same_place place) (map (λ (j : Jump). j.table) l)) is ∙ ap (list_any (same_place place)) (tables_are o texts entries)

-- what is kept of the table that begins at the first of these that is a place
pub table_found : (starts : List Place) (tables : List Table) (start d : Place) (k : ℕ) (e : Table) → length tables ≡ length starts → k < length starts → same_place start (get_or starts k d) ≡ true → ((i : ℕ) → i < k → same_place start (get_or starts i d) ≡ false) → table_at starts tables start ≡ Some (get_or tables k e)
table_found [] tables start d k e len inside here before = absurd (omega arith)
table_found (s ∷ ss) [] start d k e len inside here before = absurd (omega arith)
table_found (s ∷ ss) (t ∷ ts) start d zero e len inside here before = ap (λ b. cond b (Some t) (table_at ss ts start)) here
table_found (s ∷ ss) (t ∷ ts) start d (suc k) e len inside here before =
    ap (λ b. cond b (Some t) (table_at ss ts start)) (before 0 (omega arith))
    ∙ table_found ss ts start d k e (omega arith) (omega arith) here (λ i lower. before (suc i) (omega arith))

pub table_missing : (starts : List Place) (tables : List Table) (start d : Place) → ((k : ℕ) → k < length starts → same_place start (get_or starts k d) ≡ false) → table_at starts tables start ≡ None
table_missing [] tables start d none = refl
table_missing (s ∷ ss) [] start d none = refl
table_missing (s ∷ ss) (t ∷ ts) start d none =
    ap (λ b. cond b (Some t) (table_at ss ts start)) (none 0 (omega arith))
    ∙ table_missing ss ts start d (λ k inside. none (suc k) (omega arith))
