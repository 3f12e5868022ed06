-- Points that are no jumps by a table have none.
use Rattle.std.proofs.Common.{◌≡◌, ℕ, ℤ, ◌<◌, Bool, true, false, not, eqb, ◌&&◌, ◌||◌, List, [], length, Option, Some, None, if◌then◌else◌, inl, inr, refl, sym, ap, ◌∙◌}
use Rattle.std.specs.Prelude.{find, is_some, option_and_then, unwrap_or}
use Rattle.std.specs.Option.{option_or}
use Rattle.std.proofs.lemmas.Bool.{cases_Bool, false≢true}
use Rattle.ot_base.specs.declared.place.Place.{Place}
use Rattle.operation_defs.specs.declared.insn.Insn.{Insn}
use Rattle.operation_defs.specs.declared.op.Op.{Op}
use Rattle.operation_defs.specs.declared.op.Op.TheVariants.{Jmp, JmpInd}
use Rattle.x86_text.specs.Code.{Body, code_of, insn_listed}
use Rattle.elf_objects.specs.Elf.{Elf}
use Rattle.special_sections.specs.declared.entries.AltEntry.{AltEntry}
use Rattle.alternatives.specs.declared.point.Point.{Point}
use Rattle.alternatives.specs.declared.texts.SectionText.{SectionText}
use Rattle.alternatives.specs.Originals.{counts}
use Rattle.alternatives.specs.Points.{entry_of, insn_of_point, is_padded, is_padding_point, padding_of, replacement_insn}
use Rattle.alternatives.specs.Texts.{insn_at}
use Rattle.ot_base.specs.Places.{is_within}
use Rattle.symbols_relocs.specs.declared.target.Target.{Target}
use Rattle.symbols_relocs.specs.declared.target.Target.TheVariants.{ThunkIndirect}
use Rattle.symbols_relocs.specs.Targets.{branch_target}
use Rattle.flow_defs.specs.TableRegisters.{is_thunk, jumps_to_register, register_table, table_before_jump}
use Rattle.flow_defs.specs.Tables.{entries_by, field_table, names_table, start_by, table_of}
use Rattle.flow_defs.specs.Coded.{Coded}
use Rattle.flow_defs.specs.Arrival.{around, decoded_insn, insn_of_object, is_padding}
use Rattle.flow_defs.specs.Decoded.{no_insn}
use Rattle.flow_defs.specs.Code.{alternatives_of, point_at, points_of_object, texts_of}
use Rattle.flow_defs.specs.Owners.{owner_of_point}
use Rattle.flow_defs.specs.Roles.{table_of_point}
use Rattle.flow_defs.specs.Targets.{destination, destination_by, destination_of, displacement_of, jump_displacement, lacks_reloc, named_destination, own_destination, relative_place}
use Rattle.object_points.proofs.Points.{numbered_point}
use Rattle.point_arrivals.specs.Remade.{is_by_thunk, may_go_by_table, may_have_table}
use Rattle.point_arrivals.proofs.Remaking.{made_by_table}

abbrev no_place : Option Place
no_place = None

no_field : (o : Elf) (place : Place) (op : Op) → may_have_table op ≡ false → field_table o place op ≡ None
no_field o place (JmpInd table) h = absurd (false≢true (sym h))
no_field o place op h = refl

no_register : (o : Elf) (place : Place) (insn : Insn) (op : Op) → may_have_table op ≡ false → jumps_to_register o place insn op ≡ false
no_register o place insn (Jmp rel wide) h = absurd (false≢true (sym h))
no_register o place insn (JmpInd table) h = absurd (false≢true (sym h))
no_register o place insn op h = refl

module _ (o : Elf) (texts : List SectionText) (entries : List AltEntry) (point : Point) where
  no_start : (body : Body) (insn : Insn) → may_have_table insn.op ≡ false → start_by o texts entries body point insn ≡ None
  no_start body insn h =
      ap (λ (t : Option Place). if eqb point.variant 0 || names_table insn.op then t else None)
      (ap (λ (t : Option Place). option_or t (register_table o texts entries body point.place insn)) (no_field o point.place insn.op h)
      ∙ ap (λ b. if b then table_before_jump o texts entries body point.place else None) (no_register o point.place insn insn.op h))
      ∙ by (eqb point.variant 0 || names_table insn.op)
    where
      by : (b : Bool) → (if b then no_place else no_place) ≡ None
      by true = refl
      by false = refl

  abbrev HasNone : Option Insn → Type 0
  HasNone found = (i : Insn) → found ≡ Some i → (body : Body) → start_by o texts entries body point i ≡ None

  at_insn : (body : Body) (found : Option Insn) → HasNone found → option_and_then (start_by o texts entries body point) found ≡ None
  at_insn body None none = refl
  at_insn body (Some i) none = none i refl body

  at_text : (t : Option SectionText) → HasNone (option_and_then (λ (t : SectionText). insn_listed (code_of t.text) point.place.off) t) → option_and_then (λ (t : SectionText). option_and_then (start_by o texts entries t.text point) (insn_listed (code_of t.text) point.place.off)) t ≡ None
  at_text None none = refl
  at_text (Some t) none = at_insn t.text (insn_listed (code_of t.text) point.place.off) none

  -- where no jump by a table begins at its place
  pub no_table : (owner : Option ℕ) → HasNone (insn_at texts point.place) → table_of o texts entries point owner ≡ []
  no_table owner none = ap (entries_by o texts entries owner) (at_text (find (λ t. eqb t.sec point.place.sec) texts) none)

  -- the instruction of a point that isn't padding stands at its place
  replaced_here : (a : AltEntry) (counted inside padded : Bool) (here : Option Insn) (insn i : Insn) → here ≡ Some i → padded ≡ false → (if not counted then None else if inside then here else if padded then Some (padding_of a) else None) ≡ Some insn → i ≡ insn
  replaced_here a true true padded here insn i is other found = let k : Some i ≡ Some insn = sym is ∙ found in cc
  replaced_here a true false true here insn i is other found = absurd (false≢true (sym other))
  replaced_here a true false false here insn i is other found = absurd (let k : ⊥ = cc in k)
  replaced_here a false inside padded here insn i is other found = absurd (let k : ⊥ = cc in k)

  stands_here : (plain : Bool) (insn i : Insn) → eqb point.variant 0 ≡ plain → is_padding_point texts entries point ≡ false → insn_at texts point.place ≡ Some i → insn_of_point texts entries point ≡ Some insn → i ≡ insn
  stands_here true insn i plain other is found =
      let k : Some i ≡ Some insn = sym is ∙ sym (ap (λ b. if b then insn_at texts point.place else replacement_insn texts (entry_of entries point.variant) point.place) plain) ∙ found in cc
  stands_here false insn i plain other is found =
      let a : AltEntry = entry_of entries point.variant in
      replaced_here a (counts a) (is_within a.replacement a.replacement_len point.place) (is_padded texts a point.place) (insn_at texts point.place) insn i is
      (sym (ap (λ b. not b && is_padded texts a point.place) plain) ∙ other)
      (sym (ap (λ b. if b then insn_at texts point.place else replacement_insn texts a point.place) plain) ∙ found)

of_insn : (o : Coded) (p : Point) (found : Option Insn) → insn_of_point (texts_of o) (alternatives_of o) p ≡ found → is_some found ≡ true → insn_of_point (texts_of o) (alternatives_of o) p ≡ Some (decoded_insn o p)
unfolding decoded_insn
of_insn o p None is some = absurd (false≢true some)
of_insn o p (Some i) is some = is ∙ ap (λ (x : Option Insn). Some (unwrap_or x no_insn)) (sym is)

-- no jump by a table begins where its instruction begins none
unbegun : (o : Coded) (n : ℕ) → n < length (points_of_object o) → ((body : Body) → start_by o.elf (texts_of o) (alternatives_of o) body (point_at o n) (decoded_insn o (point_at o n)) ≡ None) → table_of_point o (point_at o n) ≡ []
unfolding table_of_point
unbegun o n inside none =
    let p : Point = point_at o n in
    elim (cases_Bool (is_padding o p)) [
      | inl padding ↦ ap (λ b. if b then [] else table_of o.elf (texts_of o) (alternatives_of o) p (owner_of_point o p)) padding
      | inr other ↦
          ap (λ b. if b then [] else table_of o.elf (texts_of o) (alternatives_of o) p (owner_of_point o p)) other
          ∙ no_table o.elf (texts_of o) (alternatives_of o) p (owner_of_point o p)
          (λ i here body. ap (start_by o.elf (texts_of o) (alternatives_of o) body p) (stands_here o.elf (texts_of o) (alternatives_of o) p (eqb p.variant 0) (decoded_insn o p) i refl other here (of_insn o p (insn_of_point (texts_of o) (alternatives_of o) p) refl (numbered_point o n inside))) ∙ none body)
    ]

pub tableless : (o : Coded) (n : ℕ) → n < length (points_of_object o) → may_have_table (decoded_insn o (point_at o n)).op ≡ false → table_of_point o (point_at o n) ≡ []
tableless o n inside h = unbegun o n inside (λ body. no_start o.elf (texts_of o) (alternatives_of o) (point_at o n) body (decoded_insn o (point_at o n)) h)

-- a direct jump goes by a table only by the thunk for indirect ones, and not from a replacement
named_thunk : (target : Target) → is_by_thunk (named_destination target) ≡ is_thunk target
named_thunk ThunkIndirect = refl
named_thunk target = refl

abbrev begun : Elf → List SectionText → List AltEntry → Body → Point → Insn → Op → Option Place
begun o texts entries body point insn op =
    if eqb point.variant 0 || names_table op then option_or (field_table o point.place op) (if jumps_to_register o point.place insn op then table_before_jump o texts entries body point.place else None) else None

no_jump : (o : Coded) (p : Point) (body : Body) (insn : Insn) (rel : ℤ) (wide plain : Bool) → eqb p.variant 0 ≡ plain → is_by_thunk (destination_by o p insn (Some (jump_displacement rel wide))) ≡ false → begun o.elf (texts_of o) (alternatives_of o) body p insn (Jmp rel wide) ≡ None
no_jump o p body insn rel wide false replaced other = ap (λ b. if b || false then table_there else None) replaced
  where
    table_there : Option Place
    table_there = if wide && is_thunk (branch_target o.elf p.place insn) then table_before_jump o.elf (texts_of o) (alternatives_of o) body p.place else None
no_jump o p body insn rel wide true plain other =
    ap (λ b. if b || false then table_by_thunk (wide && is_thunk target) else None) plain
    ∙ ap (λ b. table_by_thunk (wide && b)) no_thunk
    ∙ narrow wide
  where
    target : Target
    target = branch_target o.elf p.place insn

    table_by_thunk : Bool → Option Place
    table_by_thunk b = if b then table_before_jump o.elf (texts_of o) (alternatives_of o) body p.place else None

    no_thunk : is_thunk target ≡ false
    no_thunk =
        sym (named_thunk target)
        ∙ ap (λ b. is_by_thunk (if not b && lacks_reloc o.elf p.place insn.len (jump_displacement rel wide) then own_destination o p (relative_place p.place insn.len (jump_displacement rel wide)) else named_destination target)) (sym plain)
        ∙ other

    narrow : (b : Bool) → table_by_thunk (b && false) ≡ None
    narrow true = refl
    narrow false = refl

none_begun : (o : Coded) (p : Point) (body : Body) (insn : Insn) (op : Op) → may_go_by_table op (destination_by o p insn (displacement_of op)) ≡ false → begun o.elf (texts_of o) (alternatives_of o) body p insn op ≡ None
none_begun o p body insn (Jmp rel wide) other = no_jump o p body insn rel wide (eqb p.variant 0) refl other
none_begun o p body insn (JmpInd table) other = absurd (false≢true (sym other))
none_begun o p body insn op other = by (eqb p.variant 0)
  where
    by : (b : Bool) → (if b || false then no_place else no_place) ≡ None
    by true = refl
    by false = refl

-- by the operation of the program, and where its direct jump goes
pub tableless_by : (o : Coded) (n : ℕ) → n < length (points_of_object o) → may_go_by_table (insn_of_object o (point_at o n)).op (destination_of o (point_at o n)) ≡ false → table_of_point o (point_at o n) ≡ []
unfolding insn_of_object destination
tableless_by o n inside other =
    let p : Point = point_at o n in
    let insn : Insn = decoded_insn o p in
    unbegun o n inside (λ body. none_begun o p body insn insn.op (made_by_table (around o p) insn.op (destination o p insn) other))
