-- The edges of a point that runs in a section in which a symbol is defined lead to points that run in such sections.
use Rattle.std.proofs.Common.{◌≡◌, ℕ, Bool, true, false, ◌&&◌, cond, List, [], ◌∷◌, ◌++◌, map, Option, Some, None, Contains, refl, sym, ap, ◌∙◌, subst, inl, inr}
use Rattle.std.specs.Prelude.{filter, is_some, length, nat_lt, option_and_then, take_while, ◌*◌}
use Rattle.std.specs.List.{range_with_len}
use Rattle.std.proofs.lemmas.Bool.{eqb-true}
use Rattle.std.proofs.lemmas.List.Elements.{Contains-append_cases}
use Rattle.std.proofs.lemmas.List.Sums.{take_while-cons}
use Rattle.ot_base.specs.NameLists.{NameLists}
use Rattle.ot_base.specs.declared.place.Place.{Place}
use Rattle.ot_base.specs.Places.{same_place}
use Rattle.operation_defs.specs.declared.op.Op.{Op}
use Rattle.operation_defs.specs.declared.op.Op.TheVariants as ops
use Rattle.elf_objects.specs.declared.TheConstants.{R_X86_64_64}
use Rattle.elf_objects.specs.declared.symbol.Reloc.{Reloc}
use Rattle.flow_defs.specs.Coded.{Coded}
use Rattle.elf_objects.specs.Contents.{relocs_at}
use Rattle.machine_defs.specs.declared.flow.Edge.{Edge}
use Rattle.machine_defs.specs.declared.flow.EdgeKind.{EdgeKind}
use Rattle.machine_defs.specs.declared.flow.EdgeKind.TheVariants.{Next, Taken, Fixup, Table}
use Rattle.machine_defs.specs.Program.{Site}
use Rattle.symbols_relocs.specs.NamedPlaces.{place_named}
use Rattle.symbols_relocs.specs.Parts.{owner_at}
use Rattle.special_sections.specs.declared.entries.BranchEntry.{BranchEntry}
use Rattle.special_sections.specs.declared.entries.FixEntry.{FixEntry}
use Rattle.special_sections.specs.Special.{special_faults, special_of}
use Rattle.alternatives.specs.declared.point.Point.{Point}
use Rattle.alternatives.specs.Texts.{behind, is_boundary}
use Rattle.flow_defs.specs.Tables.{checked_behind as table_behind, boundary_named, entries_by, entries_of, table_entry_at, is_table, jump_table, reloc_of_kind, same_owner, up_to_none}
use Rattle.unwinding_law.proofs.Lists.{cases, from_filter, from_flat_map, here, nowhere, there}
use Rattle.table_law.proofs.Lists.{some_is}
use Rattle.flow_defs.specs.declared.destination.Destination.{Destination}
use Rattle.flow_defs.specs.declared.destination.Destination.TheVariants as destinations
use Rattle.flow_defs.specs.declared.destination.Way.{Way}
use Rattle.flow_defs.specs.declared.destination.Way.TheVariants as ways
use Rattle.flow_defs.specs.Code.{alternatives_of, is_plain, numbers_of, point_at, texts_of}
use Rattle.flow_defs.specs.Owners.{is_unchecked_point, owner_of_point}
use Rattle.flow_defs.specs.Sites.{is_into_site, site_holding}
use Rattle.flow_defs.specs.Arrival.{after, after_by, arrive, behind_plain, decoded_insn, insn_of_object, is_padding, is_short_nop, next_of_replacement, place_behind, run_from, site_end}
use Rattle.flow_defs.specs.Targets.{destination_of}
use Rattle.flow_defs.specs.Ways.{hop_way, jump_way, listed_way}
use Rattle.flow_defs.specs.Roles.{returns_through, table_of_point}
use Rattle.flow_defs.specs.Edges.{branch_edges, branch_edges_by, edges_to, fixups, goes, goes_on, hop_edges, jump_edges, listed_edges, next_edges, static_targets, table_edges, way_edges}
use Rattle.object_law.proofs.Edges.{checked_edges}
use Rattle.object_law.proofs.Numbers.{edges_lead, numbers_are}
use Rattle.object_law.proofs.Overlays.{address_plain}
use Rattle.object_law.proofs.Owners.{arrives_at, from_map}
use Rattle.object_law.proofs.Replaced.{IsOfSame, next_within}
use Rattle.object_law.proofs.Starts.{address_at, address_of}
use Rattle.object_law.specs.Named.{IsNamed}
use Rattle.object_law.proofs.Homes.{place_is_named}
use Rattle.object_law.proofs.NamedEntries.{fixup_is_named, target_is_named}
use Rattle.object_law.proofs.Aims.{DestinationIsNamed, destination_named, replaced_sec, same_sec}

-- the entries of a jump table are places that relocations name
taken_listed : {X : Type 0} (p : X → Bool) (xs : List X) (x : X) → Contains (take_while p xs) x → Contains xs x
taken_listed p [] x c = nowhere x c
taken_listed p (y ∷ xs) x c = go (p y) (subst (λ zs. Contains zs x) (take_while-cons p y xs) c) (λ d. taken_listed p xs x d)
  where
    go : (b : Bool) → Contains (cond b (y ∷ take_while p xs) []) x → (Contains (take_while p xs) x → Contains xs x) → Contains (y ∷ xs) x
    go true c rest = elim (cases y (take_while p xs) x c) [
      | inl same ↦ subst (λ z. Contains (y ∷ xs) z) same (here y xs)
      | inr d ↦ there y xs x (rest d)
    ]
    go false c rest = nowhere x c

-- what stands before the first that is none is an element
up_to_listed : (xs : List (Option Place)) (place : Place) → Contains (up_to_none xs) place → Contains xs (Some place)
up_to_listed [] place c = nowhere place c
up_to_listed (None ∷ xs) place c = nowhere place c
up_to_listed (Some first ∷ xs) place c = elim (cases first (up_to_none xs) place c) [
  | inl same ↦ subst (λ (p : Place). Contains (Some first ∷ xs) (Some p)) same (here (Some first) xs)
  | inr d ↦ there (Some first) xs (Some place) (up_to_listed xs place d)
]

module _ (o : Coded) where
  boundary_is_named : (field place : Place) → boundary_named o.elf (texts_of o) field ≡ Some place → IsNamed o place.sec
  boundary_is_named field place is = by_reloc (reloc_of_kind o.elf R_X86_64_64 field) is
    where
      by_boundary : (found : Place) (b : Bool) → cond b (Some found) None ≡ Some place → found ≡ place
      by_boundary found true e = some_is e
      by_boundary found false e = absurd (let z : ⊥ = cc in z)

      by_place : (r : Reloc) (found : Option Place) → place_named o.elf r ≡ found → option_and_then (λ place. cond (is_boundary (texts_of o) place) (Some place) None) found ≡ Some place → IsNamed o place.sec
      by_place r None named e = absurd (let z : ⊥ = cc in z)
      by_place r (Some found) named e = subst (λ (p : Place). IsNamed o p.sec) (by_boundary found (is_boundary (texts_of o) found) e) (place_is_named o r found named)

      by_reloc : (r : Option Reloc) → option_and_then (λ place. cond (is_boundary (texts_of o) place) (Some place) None) (option_and_then (place_named o.elf) r) ≡ Some place → IsNamed o place.sec
      by_reloc None e = absurd (let z : ⊥ = cc in z)
      by_reloc (Some r) e = by_place r (place_named o.elf r) refl e

  entry_is_named : (table : Place) (i : ℕ) (place : Place) → table_entry_at o.elf (texts_of o) (alternatives_of o) table i ≡ Some place → IsNamed o place.sec
  entry_is_named table i place is = by_field (table_behind table (8 * i)) is
    where
      by_table : (field : Place) (b : Bool) → cond b None (boundary_named o.elf (texts_of o) field) ≡ Some place → IsNamed o place.sec
      by_table field true e = absurd (let z : ⊥ = cc in z)
      by_table field false e = boundary_is_named field place e

      by_field : (field : Option Place) → option_and_then (λ field. cond (nat_lt 0 i && is_table o.elf (texts_of o) (alternatives_of o) field) None (boundary_named o.elf (texts_of o) field)) field ≡ Some place → IsNamed o place.sec
      by_field None e = absurd (let z : ⊥ = cc in z)
      by_field (Some field) e = by_table field (nat_lt 0 i && is_table o.elf (texts_of o) (alternatives_of o) field) e

  table_is_named : (point : Point) (place : Place) → Contains (table_of_point o point) place → IsNamed o place.sec
  unfolding table_of_point
  table_is_named point place c = by_padding (is_padding o point) c
    where
      go : (table : Option Place) → Contains (entries_by o.elf (texts_of o) (alternatives_of o) (owner_of_point o point) table) place → IsNamed o place.sec
      go None c = nowhere place c
      go (Some table) c =
          let listed = taken_listed (λ p. same_owner (owner_at o.elf p) (owner_of_point o point)) (entries_of o.elf (texts_of o) (alternatives_of o) table) place c in
          let one = from_map (table_entry_at o.elf (texts_of o) (alternatives_of o) table) (range_with_len 0 (length (relocs_at o.elf table.sec))) (Some place) (up_to_listed _ place listed) in
          entry_is_named table one.0 place one.2

      by_padding : (b : Bool) → Contains (cond b [] (entries_by o.elf (texts_of o) (alternatives_of o) (owner_of_point o point) (jump_table o.elf (texts_of o) (alternatives_of o) point))) place → IsNamed o place.sec
      by_padding true c = nowhere place c
      by_padding false c = go (jump_table o.elf (texts_of o) (alternatives_of o) point) c

-- each of some edges leads to a point that runs in such a section
abbrev LeadToNamed : Coded → List Edge → Type 0
LeadToNamed o edges = (e : Edge) → Contains edges e → IsNamed o (address_at o e.to).sec

module _ (o : Coded) where
  none_lead : LeadToNamed o []
  none_lead e c = nowhere e c

  both_lead : (xs ys : List Edge) → LeadToNamed o xs → LeadToNamed o ys → LeadToNamed o (xs ++ ys)
  both_lead xs ys a b e c = elim (Contains-append_cases xs ys e c) [ inl d ↦ a e d | inr d ↦ b e d ]

  arriving_lead : (kind : EdgeKind) (place : Place) → IsNamed o place.sec → LeadToNamed o (edges_to kind (arrive o place))
  arriving_lead kind place named e c = subst (λ (p : Place). IsNamed o p.sec) (sym (arrives_at o place e.to (edges_lead kind (arrive o place) e c).0)) named

  module _ (point : Point) where
    way_leads : (place : Place) (way : Way) → IsNamed o place.sec → LeadToNamed o (way_edges o point place way)
    way_leads place ways.Bad named = none_lead
    way_leads place (ways.Outside f) named = none_lead
    way_leads place (ways.Along kind) named = go (is_into_site o point place)
      where
        go : (b : Bool) → LeadToNamed o (cond b [] (edges_to kind (arrive o place)))
        go true = none_lead
        go false = arriving_lead kind place named

    listed_lead : (kind : EdgeKind) (places : List Place) → ((place : Place) → Contains places place → IsNamed o place.sec) → LeadToNamed o (listed_edges o kind point places)
    listed_lead kind places each e c =
        let way = λ (place : Place). listed_way o kind (owner_of_point o point) place in
        let one = from_flat_map (λ place. way_edges o point place (way place)) places e c in
        way_leads one.0 (way one.0) (each one.0 one.1) e one.2

    table_leads : LeadToNamed o (table_edges o point)
    table_leads e c =
        let one = from_flat_map (λ place. way_edges o point place (ways.Along Table)) (table_of_point o point) e c in
        way_leads one.0 (ways.Along Table) (table_is_named o point one.0 one.1) e one.2

    module _ (names : NameLists) (none : special_faults o.elf names ≡ []) where
      static_named : (place : Place) → Contains (static_targets o point) place → IsNamed o place.sec
      static_named place c = go (is_padding o point) c
        where
          go : (b : Bool) → Contains (cond b [] (map (λ (x : BranchEntry). x.target) (filter (λ (x : BranchEntry). same_place x.code point.place) (special_of o.elf).branches))) place → IsNamed o place.sec
          go true c = nowhere place c
          go false c =
              let one = from_map (λ (x : BranchEntry). x.target) (filter (λ (x : BranchEntry). same_place x.code point.place) (special_of o.elf).branches) place c in
              subst (λ (p : Place). IsNamed o p.sec) one.2 (target_is_named o names none one.0 (from_filter (λ (x : BranchEntry). same_place x.code point.place) (special_of o.elf).branches one.0 one.1).0)

      fixups_named : (place : Place) → Contains (fixups o point) place → IsNamed o place.sec
      fixups_named place c = go (is_padding o point) c
        where
          go : (b : Bool) → Contains (cond b [] (map (λ (x : FixEntry). x.fixup) (filter (λ (x : FixEntry). same_place x.insn point.place) (special_of o.elf).fixes))) place → IsNamed o place.sec
          go true c = nowhere place c
          go false c =
              let one = from_map (λ (x : FixEntry). x.fixup) (filter (λ (x : FixEntry). same_place x.insn point.place) (special_of o.elf).fixes) place c in
              subst (λ (p : Place). IsNamed o p.sec) one.2 (fixup_is_named o names none one.0 (from_filter (λ (x : FixEntry). same_place x.insn point.place) (special_of o.elf).fixes one.0 one.1).0)

    module _ (named : IsNamed o (address_of o point).sec) where
      -- edges to a point of the same replacement
      same_lead : (kind : EdgeKind) (other : Point) → IsOfSame point other → LeadToNamed o (edges_to kind (numbers_of o (other ∷ [])))
      same_lead kind other are e c =
          let to : other ≡ point_at o e.to = only (point_at o e.to) (numbers_are o (other ∷ []) e.to (edges_lead kind (numbers_of o (other ∷ [])) e c).0).1 in
          subst (λ (p : Point). IsNamed o (address_of o p).sec) to (subst (λ sec. IsNamed o sec) (same_sec o point other are) named)
        where
          only : (y : Point) → Contains (other ∷ []) y → other ≡ y
          only y c = elim (cases other [] y c) [ inl e ↦ e | inr d ↦ nowhere y d ]

      jump_leads : (to : Destination) → DestinationIsNamed o point to → LeadToNamed o (jump_edges o point to)
      jump_leads (destinations.ToPlace place weak crossing) goes = way_leads place (jump_way o point crossing place) goes
      jump_leads (destinations.ToOwnPoint other) goes = go (same_owner (owner_of_point o point) (owner_of_point o other))
        where
          go : (b : Bool) → LeadToNamed o (cond b (edges_to Taken (numbers_of o (other ∷ []))) [])
          go true = same_lead Taken other goes
          go false = none_lead
      jump_leads _ goes = none_lead

      hop_leads : (to : Destination) → DestinationIsNamed o point to → LeadToNamed o (hop_edges o point to)
      hop_leads (destinations.ToPlace place weak crossing) goes = way_leads place (hop_way o point weak crossing place) goes
      hop_leads (destinations.ToOwnPoint other) goes = jump_leads (destinations.ToOwnPoint other) goes
      hop_leads _ goes = none_lead

      branch_leads : (op : Op) → LeadToNamed o (branch_edges_by o point op)
      branch_leads (ops.Jmp rel wide) = jump_leads (destination_of o point) (destination_named o point named (decoded_insn o point))
      branch_leads (ops.Jcc rel wide) = jump_leads (destination_of o point) (destination_named o point named (decoded_insn o point))
      branch_leads ops.Hop = hop_leads (destination_of o point) (destination_named o point named (decoded_insn o point))
      branch_leads _ = none_lead

      -- behind a point comes its own section, or that of its site
      behind_named : IsNamed o (place_behind o point).sec
      behind_named = go (is_plain point) refl
        where
          of_nop : (b : Bool) (run : ℕ) → (cond b (behind point.place run) (behind point.place (decoded_insn o point).len)).sec ≡ point.place.sec
          of_nop true run = refl
          of_nop false run = refl

          of_site : (held : Option Site) → (behind_plain o point.place (decoded_insn o point) held).sec ≡ point.place.sec
          of_site None = refl
          of_site (Some site) = of_nop (is_short_nop (decoded_insn o point)) (run_from o point.place site)

          go : (b : Bool) → is_plain point ≡ b → IsNamed o (cond b (behind_plain o point.place (decoded_insn o point) (site_holding o point.place)) (site_end o point)).sec
          go true e = subst (λ sec. IsNamed o sec) (ap (λ (p : Place). p.sec) (address_plain o point (eqb-true point.variant 0 e)) ∙ sym (of_site (site_holding o point.place))) named
          go false e = subst (λ sec. IsNamed o sec) (replaced_sec o point e) named

      after_leads : LeadToNamed o (edges_to Next (after o point))
      unfolding after
      after_leads = go (next_of_replacement o point) refl
        where
          go : (next : Option Point) → next_of_replacement o point ≡ next → LeadToNamed o (edges_to Next (after_by o point next))
          go (Some next) is = same_lead Next next (next_within o point next is)
          go None is = arriving_lead Next (place_behind o point) behind_named

      next_leads : LeadToNamed o (next_edges o point)
      next_leads = go (goes_on o point)
        where
          go : (b : Bool) → LeadToNamed o (cond b (edges_to Next (after o point)) [])
          go true = after_leads
          go false = none_lead

      -- a branch that returns through code that returns for its caller has no edge
      branch_edges_lead : LeadToNamed o (branch_edges o point)
      branch_edges_lead = go (is_some (returns_through o point))
        where
          go : (b : Bool) → LeadToNamed o (cond b [] (branch_edges_by o point (insn_of_object o point).op))
          go true = none_lead
          go false = branch_leads (insn_of_object o point).op

      checked_lead : (names : NameLists) → special_faults o.elf names ≡ [] → LeadToNamed o (checked_edges o point)
      checked_lead names none =
          both_lead (next_edges o point) _ next_leads
          (both_lead (branch_edges o point) _ branch_edges_lead
          (both_lead (listed_edges o Taken point (static_targets o point)) _ (listed_lead Taken (static_targets o point) (static_named names none))
          (both_lead (listed_edges o Fixup point (fixups o point)) (table_edges o point) (listed_lead Fixup (fixups o point) (fixups_named names none)) table_leads)))

      pub edges_lead_to_named : (names : NameLists) → special_faults o.elf names ≡ [] → LeadToNamed o (goes o point)
      unfolding goes
      edges_lead_to_named names none = go (is_unchecked_point o point)
        where
          go : (b : Bool) → LeadToNamed o (cond b [] (checked_edges o point))
          go true = none_lead
          go false = checked_lead names none
