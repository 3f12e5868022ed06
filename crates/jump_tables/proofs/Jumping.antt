-- The jumps of all texts, and the one at a place.
use Rattle.std.proofs.Common.{◌≡◌, ◌≢◌, ℕ, suc, ◌+◌, ◌<◌, ◌⊎◌, inl, inr, Bool, true, false, cond, eqb, ◌&&◌, ◌||◌, List, [], ◌∷◌, ◌++◌, length, take, get_or, map, find, Option, Some, None, option_map, option_and_then, arith, refl, sym, ap, ◌∙◌}
use Rattle.std.specs.Prelude.{filter}
use Rattle.operation_defs.specs.declared.op.Op.{Op}
use Rattle.std.specs.List.{cons_option, filter_map, flat_map, slice_get}
use Rattle.std.specs.Option.{option_or}
use Rattle.std.proofs.lemmas.Bool.{eqb-true, eqb-false}
use Rattle.std.proofs.lemmas.Bool.Decides.{nat_tests}
use Rattle.std.proofs.Math.Bool.{and-false}
use Rattle.std.proofs.lemmas.List.{append-nil, map-append, take_more}
use Rattle.std.proofs.lemmas.List.Elements.{filter_map-append}
use Rattle.std.proofs.lemmas.List.Folds.{find-append}
use Rattle.std.proofs.lemmas.Option.{get_or_from_slice_get, slice_get_within}
use Rattle.ot_base.specs.declared.place.Place.{Place}
use Rattle.ot_base.specs.Places.{same_place}
use Rattle.operation_defs.specs.declared.insn.Insn.{Insn}
use Rattle.x86_text.specs.declared.placed.PlacedInsn.{PlacedInsn}
use Rattle.x86_text.specs.Code.{Body, code_of, insn_listed, may_use_table}
use Rattle.elf_objects.specs.Elf.{Elf}
use Rattle.special_sections.specs.declared.entries.AltEntry.{AltEntry}
use Rattle.alternatives.specs.declared.point.Point.{Point}
use Rattle.alternatives.specs.declared.texts.SectionText.{SectionText}
use Rattle.alternatives.specs.Texts.{AscendBySection}
use Rattle.jump_tables.specs.declared.jump.Jump.{Jump}
use Rattle.jump_tables.specs.Kept.{start_at}
use Rattle.flow_defs.specs.TableRegisters.{jumps_to_register, register_table, table_before_jump}
use Rattle.flow_defs.specs.Tables.{field_table, jump_table, names_table, start_by, table_by, tables_among, tables_of}
use Rattle.jump_tables.specs.Jumps.{jump_among, jump_by, jumps_among, jumps_in, jumps_of, IsAscending}
use Rattle.jump_tables.proofs.Order.{same_is}

-- the jump that an operation at a place makes with a table
abbrev pub jump : Op → Place → Place → Jump
jump op place table = record { place = place; table = table; named = names_table op }

abbrev at : Place → Jump → Bool
at place j = same_place j.place place

abbrev placed : ℕ → PlacedInsn → Place
placed sec p = record { sec = sec; off = p.off }

or_none : {X : Type 0} (x : Option X) → option_or x None ≡ x
or_none None = refl
or_none (Some x) = refl

other_sec : (a b c d : ℕ) → a ≢ c → (eqb a c && eqb b d) ≡ false
other_sec a b c d other = grind (arith, nat_tests)

other_off : (a b c d : ℕ) → b ≢ d → (eqb a c && eqb b d) ≡ false
other_off a b c d other = grind (arith, nat_tests)

both : (a b c d : ℕ) → a ≡ c → b ≡ d → (eqb a c && eqb b d) ≡ true
both a b c d e f = grind (arith, nat_tests)

-- a jump at another place is passed by
pass : (op : Op) (place here : Place) (table : Option Place) (rest : List Jump) → same_place here place ≡ false → jump_among (cons_option (option_map (jump op here) table) rest) place ≡ jump_among rest place
pass op place here None rest other = refl
pass op place here (Some t) rest other = ap (λ b. cond b (Some (jump op here t)) (jump_among rest place)) other

-- one at the place is the first there
meet : (op : Op) (place here : Place) (table : Option Place) (rest : List Jump) → same_place here place ≡ true → jump_among rest place ≡ None → jump_among (cons_option (option_map (jump op here) table) rest) place ≡ option_map (jump op here) table
meet op place here None rest same none = none
meet op place here (Some t) rest same none = ap (λ b. cond b (Some (jump op here t)) (jump_among rest place)) same

module _ (o : Elf) (texts : List SectionText) (entries : List AltEntry) (place : Place) where
  -- no jump is at a place at whose offset no instruction begins
  none_at : (body : Body) (sec : ℕ) (code : List PlacedInsn) → ((k : ℕ) (d : PlacedInsn) → k < length code → (get_or code k d).off ≢ place.off) → jump_among (jumps_among o texts entries body sec code) place ≡ None
  none_at body sec [] none = refl
  none_at body sec (p ∷ ps) none =
      pass p.insn.op place (placed sec p) (table_by o texts entries body (placed sec p) p.insn) (jumps_among o texts entries body sec ps) (other_off sec p.off place.sec place.off (none 0 p (omega arith)))
      ∙ none_at body sec ps (λ k d inside. none (suc k) d (omega arith))

  -- nor in another section
  none_in : (body : Body) (sec : ℕ) (code : List PlacedInsn) → sec ≢ place.sec → jump_among (jumps_among o texts entries body sec code) place ≡ None
  none_in body sec [] other = refl
  none_in body sec (p ∷ ps) other =
      pass p.insn.op place (placed sec p) (table_by o texts entries body (placed sec p) p.insn) (jumps_among o texts entries body sec ps) (other_sec sec p.off place.sec place.off other)
      ∙ none_in body sec ps other

  -- the jump of an instruction at the place
  abbrev by_insn : Body → Option Insn → Option Jump
  by_insn body insn = option_and_then (jump_by o texts entries body place) insn

  abbrev by_text : SectionText → Option Jump
  by_text t = by_insn t.text (insn_listed (code_of t.text) place.off)

  -- in the section of the place it is that of the instruction there
  in_section : (body : Body) (sec : ℕ) (code : List PlacedInsn) → IsAscending code → sec ≡ place.sec → jump_among (jumps_among o texts entries body sec code) place ≡ by_insn body (insn_listed code place.off)
  in_section body sec [] ascend same = refl
  in_section body sec (p ∷ ps) ascend same =
      let rest : IsAscending ps = λ i j d lower inside. ascend (suc i) (suc j) d (omega arith) (omega arith) in
      elim (eqb p.off place.off) as (λ b. eqb p.off place.off ≡ b → jump_among (jumps_among o texts entries body sec (p ∷ ps)) place ≡ by_insn body (cond b (Some p.insn) (insn_listed ps place.off))) [
        | true ↦ λ e.
            let here : same_place (placed sec p) place ≡ true = both sec p.off place.sec place.off same (eqb-true p.off place.off e) in
            meet p.insn.op place (placed sec p) (table_by o texts entries body (placed sec p) p.insn) (jumps_among o texts entries body sec ps) here
            (none_at body sec ps (λ k d inside equal.
            let off : p.off ≡ place.off = eqb-true p.off place.off e in
            let lower : p.off < (get_or ps k d).off = ascend 0 (suc k) d (omega arith) (omega arith) in omega arith))
            ∙ ap (λ q. jump_by o texts entries body q p.insn) (same_is (placed sec p) place here)
        | false ↦ λ e.
            pass p.insn.op place (placed sec p) (table_by o texts entries body (placed sec p) p.insn) (jumps_among o texts entries body sec ps) (ap (λ b. eqb sec place.sec && b) e ∙ and-false (eqb sec place.sec))
            ∙ in_section body sec ps rest same
      ] refl

  others_none : (list : List SectionText) → ((k : ℕ) (d : SectionText) → k < length list → (get_or list k d).sec ≢ place.sec) → jump_among (jumps_in o texts entries list) place ≡ None
  others_none [] other = refl
  others_none (t ∷ ts) other =
      find-append (at place) (jumps_among o texts entries t.text t.sec (code_of t.text)) (jumps_in o texts entries ts)
      ∙ ap (λ x. option_or x (jump_among (jumps_in o texts entries ts) place)) (none_in t.text t.sec (code_of t.text) (other 0 t (omega arith)))
      ∙ others_none ts (λ k d inside. other (suc k) d (omega arith))

  -- the first jump at a place is the jump there
  pub jump_in : (list : List SectionText) → AscendBySection list → ((k : ℕ) (d : SectionText) → k < length list → IsAscending (code_of (get_or list k d).text)) → jump_among (jumps_in o texts entries list) place ≡ option_and_then by_text (find (λ t. eqb t.sec place.sec) list)
  jump_in [] by each = refl
  jump_in (t ∷ ts) by each =
      let by_rest : AscendBySection ts = λ i j d lower inside. by (suc i) (suc j) d (omega arith) (omega arith) in
      find-append (at place) (jumps_among o texts entries t.text t.sec (code_of t.text)) (jumps_in o texts entries ts)
      ∙ elim (eqb t.sec place.sec) as (λ b. eqb t.sec place.sec ≡ b → option_or (jump_among (jumps_among o texts entries t.text t.sec (code_of t.text)) place) (jump_among (jumps_in o texts entries ts) place) ≡ option_and_then by_text (cond b (Some t) (find (λ u. eqb u.sec place.sec) ts))) [
        | true ↦ λ e.
            let same : t.sec ≡ place.sec = eqb-true t.sec place.sec e in
            ap (λ x. option_or x (jump_among (jumps_in o texts entries ts) place)) (in_section t.text t.sec (code_of t.text) (each 0 t (omega arith)) same)
            ∙ ap (λ x. option_or (by_text t) x)
            (others_none ts (λ k d inside equal.
            let lower : t.sec < (get_or ts k d).sec = by 0 (suc k) d (omega arith) (omega arith) in omega arith))
            ∙ or_none (by_text t)
        | false ↦ λ e.
            ap (λ x. option_or x (jump_among (jumps_in o texts entries ts) place)) (none_in t.text t.sec (code_of t.text) (eqb-false t.sec place.sec e))
            ∙ jump_in ts by_rest (λ k d inside. each (suc k) d (omega arith))
      ] refl

bool_cases : (b : Bool) → (b ≡ true) ⊎ (b ≡ false)
bool_cases true = inl refl
bool_cases false = inr refl

none_either_way : (b : Bool) (table : Option Place) → table ≡ None → cond b table None ≡ None
none_either_way true table none = none
none_either_way false table none = refl

tables_cons : (op : Op) (here : Place) (table : Option Place) (rest : List Jump) → map (λ (j : Jump). j.table) (cons_option (option_map (jump op here) table) rest) ≡ cons_option table (map (λ (j : Jump). j.table) rest)
tables_cons op here None rest = refl
tables_cons op here (Some t) rest = refl

module _ (o : Elf) (texts : List SectionText) (entries : List AltEntry) where
  -- where the table begins that a jump at a point has
  by_variant : (variant : ℕ) (op : Op) (place : Place) (table : Option Place) → option_and_then (start_at variant) (option_map (jump op place) table) ≡ cond (eqb variant 0 || names_table op) table None
  by_variant variant op place None = sym (none_either_way (eqb variant 0 || names_table op) None refl)
  by_variant variant op place (Some t) = refl

  by_insn_at : (body : Body) (point : Point) (insn : Option Insn) → option_and_then (start_at point.variant) (option_and_then (jump_by o texts entries body point.place) insn) ≡ option_and_then (start_by o texts entries body point) insn
  by_insn_at body point None = refl
  by_insn_at body point (Some i) = by_variant point.variant i.op point.place (table_by o texts entries body point.place i)

  by_text_at : (point : Point) (t : Option SectionText) → option_and_then (start_at point.variant) (option_and_then (by_text o texts entries point.place) t) ≡ option_and_then (λ u. option_and_then (start_by o texts entries u.text point) (insn_listed (code_of u.text) point.place.off)) t
  by_text_at point None = refl
  by_text_at point (Some t) = by_insn_at t.text point (insn_listed (code_of t.text) point.place.off)

  -- the table of the first jump at a point's place is that of the point
  pub start_is : (point : Point) → AscendBySection texts → ((k : ℕ) (d : SectionText) → k < length texts → IsAscending (code_of (get_or texts k d).text)) → option_and_then (start_at point.variant) (jump_among (jumps_of o texts entries) point.place) ≡ jump_table o texts entries point
  start_is point by each =
      ap (option_and_then (start_at point.variant)) (jump_in o texts entries point.place texts by each)
      ∙ by_text_at point (find (λ t. eqb t.sec point.place.sec) texts)

  one_more : (body : Body) (sec : ℕ) (code : List PlacedInsn) (i : ℕ) (p : PlacedInsn) → slice_get code i ≡ Some p → jumps_among o texts entries body sec (take (i + 1) code) ≡ jumps_among o texts entries body sec (take i code) ++ cons_option (jump_by o texts entries body (placed sec p) p.insn) []
  one_more body sec code i p here =
      ap (jumps_among o texts entries body sec) (take_more code i p (slice_get_within code i p here) ∙ ap (λ q. take i code ++ q ∷ []) (get_or_from_slice_get code i p p here))
      ∙ filter_map-append (λ q. jump_by o texts entries body (placed sec q) q.insn) (take i code) (p ∷ [])

  -- one more instruction, which is no jump by a table
  pub no_more : (body : Body) (sec : ℕ) (code : List PlacedInsn) (i : ℕ) (p : PlacedInsn) → slice_get code i ≡ Some p → jump_by o texts entries body (placed sec p) p.insn ≡ None → jumps_among o texts entries body sec (take (i + 1) code) ≡ jumps_among o texts entries body sec (take i code)
  no_more body sec code i p here none =
      one_more body sec code i p here
      ∙ ap (λ j. jumps_among o texts entries body sec (take i code) ++ cons_option j []) none
      ∙ append-nil (jumps_among o texts entries body sec (take i code))

  -- one more that is one
  pub more : (body : Body) (sec : ℕ) (code : List PlacedInsn) (i : ℕ) (p : PlacedInsn) (j : Jump) → slice_get code i ≡ Some p → jump_by o texts entries body (placed sec p) p.insn ≡ Some j → jumps_among o texts entries body sec (take (i + 1) code) ≡ jumps_among o texts entries body sec (take i code) ++ j ∷ []
  more body sec code i p j here some =
      one_more body sec code i p here
      ∙ ap (λ k. jumps_among o texts entries body sec (take i code) ++ cons_option k []) some

  -- an operation that may jump by no table has none
  no_field : (place : Place) (op : Op) → may_use_table op ≡ false → field_table o place op ≡ None
  no_field place op is = grind (arith, is)

  no_register : (place : Place) (insn : Insn) (op : Op) → may_use_table op ≡ false → jumps_to_register o place insn op ≡ false
  no_register place insn op is = grind (arith, is)

  no_table : (body : Body) (place : Place) (insn : Insn) → may_use_table insn.op ≡ false → table_by o texts entries body place insn ≡ None
  no_table body place insn is =
      ap (λ f. option_or f (register_table o texts entries body place insn)) (no_field place insn.op is)
      ∙ ap (λ b. cond b (table_before_jump o texts entries body place) None) (no_register place insn insn.op is)

  -- no other instruction is a jump by a table
  pub those_of_tables : (body : Body) (sec : ℕ) (code : List PlacedInsn) → jumps_among o texts entries body sec (filter (λ p. may_use_table p.insn.op) code) ≡ jumps_among o texts entries body sec code
  those_of_tables body sec [] = refl
  those_of_tables body sec (p ∷ code) =
      let rest : List PlacedInsn = filter (λ (q : PlacedInsn). may_use_table q.insn.op) code in
      elim (bool_cases (may_use_table p.insn.op)) [
        | inl is ↦
            ap (λ b. jumps_among o texts entries body sec (cond b (p ∷ rest) rest)) is
            ∙ ap (λ js. cons_option (jump_by o texts entries body (placed sec p) p.insn) js) (those_of_tables body sec code)
        | inr is ↦
            ap (λ b. jumps_among o texts entries body sec (cond b (p ∷ rest) rest)) is
            ∙ those_of_tables body sec code
            ∙ ap (λ t. cons_option (option_map (jump p.insn.op (placed sec p)) t) (jumps_among o texts entries body sec code)) (sym (no_table body (placed sec p) p.insn is))
      ]

  tables_of_section : (body : Body) (sec : ℕ) (code : List PlacedInsn) → map (λ (j : Jump). j.table) (jumps_among o texts entries body sec code) ≡ filter_map (λ p. table_by o texts entries body (placed sec p) p.insn) code
  tables_of_section body sec [] = refl
  tables_of_section body sec (p ∷ ps) =
      tables_cons p.insn.op (placed sec p) (table_by o texts entries body (placed sec p) p.insn) (jumps_among o texts entries body sec ps)
      ∙ ap (cons_option (table_by o texts entries body (placed sec p) p.insn)) (tables_of_section body sec ps)

  tables_in : (list : List SectionText) → map (λ (j : Jump). j.table) (jumps_in o texts entries list) ≡ flat_map (tables_among o texts entries) list
  tables_in [] = refl
  tables_in (t ∷ ts) =
      map-append (λ (j : Jump). j.table) (jumps_among o texts entries t.text t.sec (code_of t.text)) (jumps_in o texts entries ts)
      ∙ ap (λ xs. xs ++ map (λ (j : Jump). j.table) (jumps_in o texts entries ts)) (tables_of_section t.text t.sec (code_of t.text))
      ∙ ap (λ xs. tables_among o texts entries t ++ xs) (tables_in ts)

  -- the tables of the jumps are the tables of the texts
  pub tables_are : map (λ (j : Jump). j.table) (jumps_of o texts entries) ≡ tables_of o texts entries
  tables_are = tables_in texts
