-- The edges of a point are pushed part by part.
use Rattle.std.proofs.Common.{◌≡◌, ℕ, Bool, true, false, List, [], ◌++◌, Option, if◌then◌else◌, sym, ap, ◌∙◌, append_assoc}
use Rattle.std.specs.Prelude.{is_some}
use Rattle.std.proofs.lemmas.List.{append-nil}
use Rattle.ot_base.specs.declared.place.Place.{Place}
use Rattle.operation_defs.specs.declared.insn.Insn.{Insn}
use Rattle.flow_defs.specs.Coded.{Coded}
use Rattle.machine_defs.specs.declared.flow.Edge.{Edge}
use Rattle.machine_defs.specs.declared.flow.EdgeKind.TheVariants.{Taken, Fixup}
use Rattle.alternatives.specs.declared.point.Point.{Point}
use Rattle.flow_defs.specs.Arrival.{insn_of_object}
use Rattle.flow_defs.specs.Edges.{branch_edges, branch_edges_by, fixups, goes, listed_edges, next_edges, static_targets, table_edges}
use Rattle.flow_defs.specs.Owners.{is_unchecked_point}
use Rattle.flow_defs.specs.Roles.{returns_through}

-- the edges of a checked point
abbrev checked_edges : Coded → Point → List Edge
checked_edges o point = next_edges o point ++ (branch_edges o point ++ (listed_edges o Taken point (static_targets o point) ++ (listed_edges o Fixup point (fixups o point) ++ table_edges o point)))

pub no_edges : (o : Coded) (point : Point) → is_unchecked_point o point ≡ true → goes o point ≡ []
unfolding goes
no_edges o point unchecked = ap (λ b. if b then [] else checked_edges o point) unchecked

-- behind some edges, the parts for these lists of places
abbrev parts : Coded → Point → List Edge → List Place → List Place → List Edge
parts o point old targets fixes =
    ((((old ++ next_edges o point) ++ branch_edges o point) ++ listed_edges o Taken point targets) ++ listed_edges o Fixup point fixes) ++ table_edges o point

joined : (a b c d e f : List Edge) → ((((a ++ b) ++ c) ++ d) ++ e) ++ f ≡ a ++ (b ++ (c ++ (d ++ (e ++ f))))
joined a b c d e f = simp append_assoc

-- the parts with what the object has are all edges
pub all_parts : (o : Coded) (point : Point) (old : List Edge) (targets fixes : List Place) → is_unchecked_point o point ≡ false → targets ≡ static_targets o point → fixes ≡ fixups o point → parts o point old targets fixes ≡ old ++ goes o point
unfolding goes
all_parts o point old targets fixes checked leads repairs =
    ap (λ places. parts o point old places fixes) leads
    ∙ ap (λ places. parts o point old (static_targets o point) places) repairs
    ∙ joined old (next_edges o point) (branch_edges o point) (listed_edges o Taken point (static_targets o point)) (listed_edges o Fixup point (fixups o point)) (table_edges o point)
    ∙ ap (λ b. old ++ (if b then [] else checked_edges o point)) (sym checked)

-- ---- the edges of a branch, which has none where it returns through code that returns for its caller
pub through_edges : (o : Coded) (point : Point) (old : List Edge) (through : Option ℕ) → through ≡ returns_through o point → is_some through ≡ true → old ≡ old ++ branch_edges o point
through_edges o point old through is some =
    sym (append-nil old)
    ∙ ap (λ (b : Bool). old ++ (if b then [] else branch_edges_by o point (insn_of_object o point).op)) (sym (sym (ap is_some is) ∙ some))

pub other_edges : (o : Coded) (point : Point) (old : List Edge) (insn : Insn) (through : Option ℕ) → through ≡ returns_through o point → is_some through ≡ false → insn ≡ insn_of_object o point → old ++ branch_edges_by o point insn.op ≡ old ++ branch_edges o point
other_edges o point old insn through is none own =
    ap (λ (i : Insn). old ++ branch_edges_by o point i.op) own
    ∙ ap (λ (b : Bool). old ++ (if b then [] else branch_edges_by o point (insn_of_object o point).op)) (sym (sym (ap is_some is) ∙ none))
