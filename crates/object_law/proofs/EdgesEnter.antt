-- The edges of an object in order come into its sites at their starts, or from within.
use Rattle.std.proofs.Common.{◌≡◌, ℕ, ◌<◌, ◌⊎◌, Bool, true, false, cond, List, [], ◌∷◌, ◌++◌, flat_map, Option, Some, None, Contains, refl, sym, subst, inl, inr}
use Rattle.std.specs.Prelude.{is_some}
use Rattle.std.proofs.lemmas.List.Elements.{Contains-append_cases, Contains-append_left, Contains-append_right}
use Rattle.ot_base.specs.NameLists.{NameLists}
use Rattle.ot_base.specs.declared.place.Place.{Place}
use Rattle.operation_defs.specs.declared.op.Op.{Op}
use Rattle.operation_defs.specs.declared.op.Op.TheVariants as ops
use Rattle.flow_defs.specs.Coded.{Coded}
use Rattle.machine_defs.specs.declared.flow.Edge.{Edge}
use Rattle.machine_defs.specs.declared.flow.EdgeKind.{EdgeKind}
use Rattle.machine_defs.specs.declared.flow.EdgeKind.TheVariants.{Next, Taken, Fixup, Table}
use Rattle.machine_defs.specs.Program.{Site, edge, in_site}
use Rattle.table_defs.specs.Enters.{IsSiteStart}
use Rattle.alternatives.specs.declared.point.Point.{Point}
use Rattle.flow_defs.specs.Tables.{same_owner}
use Rattle.unwinding_law.proofs.Lists.{cases, in_map, nowhere}
use Rattle.flow_defs.specs.declared.destination.Destination.{Destination}
use Rattle.flow_defs.specs.declared.destination.Destination.TheVariants as destinations
use Rattle.flow_defs.specs.declared.destination.Way.{Way}
use Rattle.flow_defs.specs.declared.destination.Way.TheVariants as ways
use Rattle.flow_defs.specs.Code.{numbers_of, point_at}
use Rattle.flow_defs.specs.Owners.{is_unchecked_point, owner_of_point}
use Rattle.flow_defs.specs.Sites.{is_into_site, sites_of}
use Rattle.flow_defs.specs.Arrival.{after, after_by, arrive, decoded_insn, insn_of_object, next_of_replacement, place_behind}
use Rattle.flow_defs.specs.Targets.{destination_of}
use Rattle.flow_defs.specs.Ways.{hop_way, jump_way, listed_way}
use Rattle.flow_defs.specs.Roles.{returns_through, table_of_point}
use Rattle.flow_defs.specs.Edges.{branch_edges, branch_edges_by, edges_to, fixups, goes, goes_on, hop_edges, jump_edges, listed_edges, next_edges, static_targets, table_edges, way_edges}
use Rattle.flow_defs.specs.Program.{program_of}
use Rattle.object_law.specs.Flows.{ObjectIsInOrder}
use Rattle.object_law.proofs.Numbers.{edges_lead, numbers_are, point_count}
use Rattle.object_law.proofs.Owners.{arrives_at}
use Rattle.object_law.proofs.Replaced.{IsOfSame, destination_within, comes_behind, next_within, same_replacement}
use Rattle.object_law.proofs.Starts.{address_at, address_of, arrives_at_start, comes_in}

-- one of some edges comes into a site from within it, or another of its kind among them leads to the site's start
abbrev pub ComesRight : Coded → NameLists → Point → List Edge → EdgeKind → Site → Type 0
ComesRight o lists point edges kind site = (in_site site (address_of o point) ≡ true) ⊎ ((start : ℕ) × IsSiteStart (program_of o lists) site start × Contains edges (edge start kind))

-- so do all of them
abbrev pub Enters : Coded → NameLists → Point → List Edge → Type 0
Enters o lists point edges = (e : Edge) (site : Site) → Contains edges e → Contains (sites_of o) site → in_site site (address_at o e.to) ≡ true → ComesRight o lists point edges e.kind site

-- an edge of the kind of another leads to a point
leads_to : (kind : EdgeKind) (points : List ℕ) (other : EdgeKind) (q : ℕ) → other ≡ kind → Contains points q → Contains (edges_to kind points) (edge q other)
leads_to kind points other q is c = subst (λ (k : EdgeKind). Contains (edges_to kind points) (edge q k)) (sym is) (in_map (λ x. edge x kind) points q c)

module _ (o : Coded) (lists : NameLists) (point : Point) where
  none_enter : Enters o lists point []
  none_enter e site c listed inside = nowhere e c

  both_enter : (xs ys : List Edge) → Enters o lists point xs → Enters o lists point ys → Enters o lists point (xs ++ ys)
  both_enter xs ys a b e site c listed inside = elim (Contains-append_cases xs ys e c) [
    | inl d ↦ more_left (a e site d listed inside)
    | inr d ↦ more_right (b e site d listed inside)
  ]
    where
      more_left : ComesRight o lists point xs e.kind site → ComesRight o lists point (xs ++ ys) e.kind site
      more_left (inl own) = inl own
      more_left (inr s) = inr (s.0, s.1, Contains-append_left xs ys (edge s.0 e.kind) s.2)

      more_right : ComesRight o lists point ys e.kind site → ComesRight o lists point (xs ++ ys) e.kind site
      more_right (inl own) = inl own
      more_right (inr s) = inr (s.0, s.1, Contains-append_right xs ys (edge s.0 e.kind) s.2)

  all_enter : {X : Type 0} (f : X → List Edge) → ((x : X) → Enters o lists point (f x)) → (xs : List X) → Enters o lists point (flat_map f xs)
  all_enter f each [] = none_enter
  all_enter f each (x ∷ xs) = both_enter (f x) (flat_map f xs) (each x) (all_enter f each xs)

  module _ (order : ObjectIsInOrder o) where
    -- edges to where control arrives at a place, which is the start of the site where the point isn't in it
    arriving_enter : (kind : EdgeKind) (place : Place) (e : Edge) (site : Site) → e.kind ≡ kind → Contains (sites_of o) site → (in_site site (address_of o point) ≡ true) ⊎ (site.start ≡ place) → ComesRight o lists point (edges_to kind (arrive o place)) e.kind site
    arriving_enter kind place e site is listed (inl own) = inl own
    arriving_enter kind place e site is listed (inr start) =
        let s = arrives_at_start o lists order site listed in
        inr (s.start, s.is, leads_to kind (arrive o place) e.kind s.start is (subst (λ (x : Place). Contains (arrive o x) s.start) start s.arrives))

    way_enters : (place : Place) (way : Way) → Enters o lists point (way_edges o point place way)
    way_enters place ways.Bad = none_enter
    way_enters place (ways.Outside f) = none_enter
    way_enters place (ways.Along kind) = go (is_into_site o point place) refl
      where
        go : (b : Bool) → is_into_site o point place ≡ b → Enters o lists point (cond b [] (edges_to kind (arrive o place)))
        go true is e site c listed inside = nowhere e c
        go false is e site c listed inside =
            let lead = edges_lead kind (arrive o place) e c in
            arriving_enter kind place e site lead.1 listed (comes_in o lists order point place e.to site is lead.0 listed inside)

    listed_enter : (kind : EdgeKind) (places : List Place) → Enters o lists point (listed_edges o kind point places)
    listed_enter kind places = all_enter (λ place. way_edges o point place (listed_way o kind (owner_of_point o point) place)) (λ place. way_enters place (listed_way o kind (owner_of_point o point) place)) places

    table_enters : Enters o lists point (table_edges o point)
    table_enters = all_enter (λ place. way_edges o point place (ways.Along Table)) (λ place. way_enters place (ways.Along Table)) (table_of_point o point)

module _ (o : Coded) (lists : NameLists) (order : ObjectIsInOrder o) (q : ℕ) (of-q : q < point_count o) where
  -- an edge to a point of the same replacement
  same_enters : (kind : EdgeKind) (other : Point) → IsOfSame (point_at o q) other → Enters o lists (point_at o q) (edges_to kind (numbers_of o (other ∷ [])))
  same_enters kind other are e site c listed inside =
      let lead = edges_lead kind (numbers_of o (other ∷ [])) e c in
      let own = numbers_are o (other ∷ []) e.to lead.0 in
      inl (same_replacement o lists order q e.to site of-q own.0 (subst (IsOfSame (point_at o q)) (only other (point_at o e.to) own.1) are) listed inside)
    where
      only : (x y : Point) → Contains (x ∷ []) y → x ≡ y
      only x y c = elim (cases x [] y c) [ inl e ↦ e | inr d ↦ nowhere y d ]

  jump_enters : (to : Destination) → destination_of o (point_at o q) ≡ to → Enters o lists (point_at o q) (jump_edges o (point_at o q) to)
  jump_enters (destinations.ToPlace place weak crossing) is = way_enters o lists (point_at o q) order place (jump_way o (point_at o q) crossing place)
  jump_enters (destinations.ToOwnPoint other) is = go (same_owner (owner_of_point o (point_at o q)) (owner_of_point o other))
    where
      go : (b : Bool) → Enters o lists (point_at o q) (cond b (edges_to Taken (numbers_of o (other ∷ []))) [])
      go true = same_enters Taken other (destination_within o (point_at o q) (decoded_insn o (point_at o q)) other is)
      go false = none_enter o lists (point_at o q)
  jump_enters _ is = none_enter o lists (point_at o q)

  hop_enters : (to : Destination) → destination_of o (point_at o q) ≡ to → Enters o lists (point_at o q) (hop_edges o (point_at o q) to)
  hop_enters (destinations.ToPlace place weak crossing) is = way_enters o lists (point_at o q) order place (hop_way o (point_at o q) weak crossing place)
  hop_enters (destinations.ToOwnPoint other) is = jump_enters (destinations.ToOwnPoint other) is
  hop_enters _ is = none_enter o lists (point_at o q)

  branch_enters : (op : Op) → Enters o lists (point_at o q) (branch_edges_by o (point_at o q) op)
  branch_enters (ops.Jmp rel wide) = jump_enters (destination_of o (point_at o q)) refl
  branch_enters (ops.Jcc rel wide) = jump_enters (destination_of o (point_at o q)) refl
  branch_enters ops.Hop = hop_enters (destination_of o (point_at o q)) refl
  branch_enters _ = none_enter o lists (point_at o q)

  -- a branch that returns through code that returns for its caller has none
  branch_edges_enter : Enters o lists (point_at o q) (branch_edges o (point_at o q))
  branch_edges_enter = go (is_some (returns_through o (point_at o q)))
    where
      go : (b : Bool) → Enters o lists (point_at o q) (cond b [] (branch_edges_by o (point_at o q) (insn_of_object o (point_at o q)).op))
      go true = none_enter o lists (point_at o q)
      go false = branch_enters (insn_of_object o (point_at o q)).op

  after_enters : Enters o lists (point_at o q) (edges_to Next (after o (point_at o q)))
  unfolding after
  after_enters = go (next_of_replacement o (point_at o q)) refl
    where
      go : (next : Option Point) → next_of_replacement o (point_at o q) ≡ next → Enters o lists (point_at o q) (edges_to Next (after_by o (point_at o q) next))
      go (Some next) is e site c listed inside = same_enters Next next (next_within o (point_at o q) next is) e site c listed inside
      go None is e site c listed inside =
          let place = place_behind o (point_at o q) in
          let lead = edges_lead Next (arrive o place) e c in
          let at : in_site site place ≡ true = subst (λ (x : Place). in_site site x ≡ true) (arrives_at o place e.to lead.0) inside in
          arriving_enter o lists (point_at o q) order Next place e site lead.1 listed (comes_behind o lists order q site of-q listed at)

  next_enters : Enters o lists (point_at o q) (next_edges o (point_at o q))
  next_enters = go (goes_on o (point_at o q))
    where
      go : (b : Bool) → Enters o lists (point_at o q) (cond b (edges_to Next (after o (point_at o q))) [])
      go true = after_enters
      go false = none_enter o lists (point_at o q)

  -- the edges of a checked point
  abbrev checked_edges : Point → List Edge
  checked_edges point = next_edges o point ++ (branch_edges o point ++ (listed_edges o Taken point (static_targets o point) ++ (listed_edges o Fixup point (fixups o point) ++ table_edges o point)))

  checked_enter : Enters o lists (point_at o q) (checked_edges (point_at o q))
  checked_enter =
      let point = point_at o q in
      both_enter o lists point (next_edges o point) _ next_enters
      (both_enter o lists point (branch_edges o point) _ branch_edges_enter
      (both_enter o lists point (listed_edges o Taken point (static_targets o point)) _ (listed_enter o lists point order Taken (static_targets o point))
      (both_enter o lists point (listed_edges o Fixup point (fixups o point)) (table_edges o point) (listed_enter o lists point order Fixup (fixups o point)) (table_enters o lists point order))))

  pub edges_enter : Enters o lists (point_at o q) (goes o (point_at o q))
  unfolding goes
  edges_enter = go (is_unchecked_point o (point_at o q))
    where
      go : (b : Bool) → Enters o lists (point_at o q) (cond b [] (checked_edges (point_at o q)))
      go true = none_enter o lists (point_at o q)
      go false = checked_enter
