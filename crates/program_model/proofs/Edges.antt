-- The edges that a point has.
use Rattle.std.proofs.Common.{◌≡◌, ℕ, zero, suc, ◌+◌, ◌<◌, arith, Contains, length, get_or, take, Bool, true, false, ◌&&◌, ◌||◌, cond, List, [], ◌∷◌, refl, sym, ap, ◌∙◌, subst}
use Rattle.std.specs.Prelude.{Some, None, filter, slice_get}
use Rattle.std.specs.List.{list_any, list_all}
use Rattle.std.proofs.lemmas.List.Folds.{list_all_more}
use Rattle.machine_defs.specs.declared.flow.Edge.{Edge}
use Rattle.machine_defs.specs.declared.flow.EdgeKind.{EdgeKind}
use Rattle.machine_defs.specs.declared.flow.EdgeKind.TheVariants.{Next, Taken, Fixup, Table, Sibling}
use Rattle.machine_defs.specs.Program.{Program as DefinedProgram}
use Rattle.machine_defs.specs.Kept.{can_go, edges_of}
use Rattle.machine_defs.specs.Ways.{is_next, is_sibling, may_leave}
use Rattle.program_model.specs.declared.program.Program.{Program}
use Rattle.program_model.specs.declared.program.ModelPoint.{ModelPoint}
use Rattle.program_model.specs.Program.{program_of}
use Rattle.program_model.specs.Ways.{leaves}
use Rattle.program_model.proofs.Points.{of_point_is}

-- a way to another function stays, whatever calls come back
one_more : (e : Edge) (goes : Bool) (fs es : List Edge) → (is_sibling e.kind ≡ true → goes ≡ true) → list_any (λ x. is_sibling x.kind) fs ≡ list_any (λ x. is_sibling x.kind) es
    → list_any (λ x. is_sibling x.kind) (cond goes (e ∷ fs) fs) ≡ list_any (λ x. is_sibling x.kind) (e ∷ es)
one_more e true fs es stays same = ap (λ (b : Bool). is_sibling e.kind || b) same
one_more e false fs es stays same = same ∙ go (is_sibling e.kind) stays
  where
    go : (b : Bool) → (b ≡ true → false ≡ true) → list_any (λ x. is_sibling x.kind) es ≡ (b || list_any (λ x. is_sibling x.kind) es)
    go false h = refl
    go true h = absurd (let k : false ≡ true = h refl in cc)

goes_there : (p : DefinedProgram) (q : ℕ) (kind : EdgeKind) → is_sibling kind ≡ true → can_go p q kind ≡ true
goes_there p q Next e = absurd (let k : ⊥ = cc in k)
goes_there p q Taken e = refl
goes_there p q Fixup e = refl
goes_there p q Table e = refl
goes_there p q Sibling e = refl

siblings_stay : (p : DefinedProgram) (q : ℕ) (es : List Edge) → list_any (λ x. is_sibling x.kind) (filter (λ e. can_go p q e.kind) es) ≡ list_any (λ x. is_sibling x.kind) es
siblings_stay p q [] = refl
siblings_stay p q (e ∷ es) = one_more e (can_go p q e.kind) (filter (λ x. can_go p q x.kind) es) es (goes_there p q e.kind) (siblings_stay p q es)

-- and whether each other way leads on
abbrev next_or_sibling : Edge → Bool
next_or_sibling e = is_sibling e.kind || is_next e.kind

dropped_passes : (p : DefinedProgram) (q : ℕ) (kind : EdgeKind) → can_go p q kind ≡ false → (is_sibling kind || is_next kind) ≡ true
dropped_passes p q Next e = refl
dropped_passes p q Taken e = absurd (let k : ⊥ = cc in k)
dropped_passes p q Fixup e = absurd (let k : ⊥ = cc in k)
dropped_passes p q Table e = absurd (let k : ⊥ = cc in k)
dropped_passes p q Sibling e = refl

all_more : (e : Edge) (goes : Bool) (fs es : List Edge) → (goes ≡ false → next_or_sibling e ≡ true) → list_all next_or_sibling fs ≡ list_all next_or_sibling es
    → list_all next_or_sibling (cond goes (e ∷ fs) fs) ≡ list_all next_or_sibling (e ∷ es)
all_more e true fs es passes same = ap (λ (b : Bool). next_or_sibling e && b) same
all_more e false fs es passes same = same ∙ sym (ap (λ (b : Bool). b && list_all next_or_sibling es) (passes refl))

each_stays : (p : DefinedProgram) (q : ℕ) (es : List Edge) → list_all next_or_sibling (filter (λ e. can_go p q e.kind) es) ≡ list_all next_or_sibling es
each_stays p q [] = refl
each_stays p q (e ∷ es) = all_more e (can_go p q e.kind) (filter (λ x. can_go p q x.kind) es) es (dropped_passes p q e.kind) (each_stays p q es)

-- whether a point may leave
pub may_leave_at : (p : Program) (set : List Bool) (q : ℕ) (x : ModelPoint) → slice_get p.points.items q ≡ Some x
    → leaves x ≡ may_leave (program_of p set) q
may_leave_at p set q x e =
    let P = program_of p set in
    let owner : P.owner q ≡ x.owner = of_point_is p None (λ y. y.owner) q x e in
    let loose : P.loose q ≡ x.is_loose = of_point_is p false (λ y. y.is_loose) q x e in
    let names : P.names q ≡ x.names = of_point_is p None (λ y. y.names) q x e in
    let role : P.role q ≡ x.role = of_point_is p _ (λ y. y.role) q x e in
    let insn : P.insn q ≡ x.insn = of_point_is p _ (λ y. y.insn) q x e in
    let goes : P.goes q ≡ x.goes.items = of_point_is p [] (λ y. y.goes.items) q x e in
    let some : list_any (λ y. is_sibling y.kind) (edges_of P q) ≡ list_any (λ y. is_sibling y.kind) x.goes.items = siblings_stay P q (P.goes q) ∙ ap (λ (es : List Edge). list_any (λ y. is_sibling y.kind) es) goes in
    let all : list_all (λ y. is_sibling y.kind || is_next y.kind) (edges_of P q) ≡ list_all (λ y. is_sibling y.kind || is_next y.kind) x.goes.items = each_stays P q (P.goes q) ∙ ap (λ (es : List Edge). list_all (λ y. is_sibling y.kind || is_next y.kind) es) goes in
    rw (owner, loose, names, role, insn, some, all) refl

-- one more edge passes
pub each_more : (test : Edge → Bool) (es : List Edge) (i : ℕ) (d : Edge) → i < length es → list_all test (take i es) ≡ true → true ≡ test (get_or es i d)
    → list_all test (take (i + 1) es) ≡ true
each_more test es i d lt all one = list_all_more test es i d lt ∙ rw (all, sym one) refl

-- one that passes is enough
pub one_of : (test : ℕ → Bool) (xs : List ℕ) (x : ℕ) → Contains xs x → test x ≡ true → list_any test xs ≡ true
one_of test [] x (k, l, e) h = absurd (omega (arith, l))
one_of test (y ∷ xs) x (zero, l, e) h = first (test y) (list_any test xs) (subst (λ (z : ℕ). test z ≡ true) (sym e) h)
  where
    first : (a b : Bool) → a ≡ true → (a || b) ≡ true
    first true b e = refl
    first false b e = absurd (let k : ⊥ = cc in k)
one_of test (y ∷ xs) x (suc k, l, e) h = second (test y) (list_any test xs) (one_of test xs x (k, omega (arith, l), e) h)
  where
    second : (a b : Bool) → b ≡ true → (a || b) ≡ true
    second true b e = refl
    second false b e = e
