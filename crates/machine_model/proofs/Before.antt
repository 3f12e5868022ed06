-- A hint follows right behind a point that isn't a call, whose edges are all ways on.
use Rattle.std.proofs.Common.{◌≡◌, ℕ, Bool, true, false, ◌&&◌, ◌||◌, not, Option, List, [], ◌∷◌, refl, sym, ap, ◌∙◌}
use Rattle.std.specs.Prelude.{Some, filter, slice_get}
use Rattle.std.specs.List.{list_any, list_all}
use Rattle.machine_defs.specs.declared.flow.Edge.{Edge}
use Rattle.machine_defs.specs.declared.flow.EdgeKind.{EdgeKind}
use Rattle.machine_defs.specs.declared.flow.EdgeKind.TheVariants.{Next, Taken, Fixup, Table, Sibling}
use Rattle.machine_defs.specs.declared.flow.Role.{Role}
use Rattle.machine_defs.specs.declared.flow.Role.TheVariants.{Plain, CallIn, CallEither, CallOut, CallAny, Return, JumpOut, JumpAny, Switch}
use Rattle.machine_defs.specs.Program.{Program, is_call}
use Rattle.machine_defs.specs.MayReturn.{code_may_return, is_listed_by, target_may_return}
use Rattle.machine_defs.specs.Kept.{can_go, edges_of, is_free}
use Rattle.machine_defs.specs.Ways.{is_fixup, is_before_hint}
use Rattle.program_model.specs.declared.program.Program.{Program as OwnProgram}
use Rattle.program_model.specs.declared.program.ModelPoint.{ModelPoint}
use Rattle.program_model.specs.Program.{of_point, program_of}
use Rattle.program_model.specs.Ways.{lead_to_hints}
use Rattle.program_model.proofs.Points.{of_point_is}

-- what isn't a call isn't listed, and passes
unlisted : (p : Program) (named : Option ℕ) (role : Role) → is_call role ≡ false → is_listed_by p named role ≡ false
unlisted p named Plain e = refl
unlisted p named (CallIn entry) e = absurd (let k : ⊥ = cc in k)
unlisted p named (CallEither entry sym) e = absurd (let k : ⊥ = cc in k)
unlisted p named (CallOut sym) e = absurd (let k : ⊥ = cc in k)
unlisted p named CallAny e = absurd (let k : ⊥ = cc in k)
unlisted p named Return e = refl
unlisted p named (JumpOut sym) e = refl
unlisted p named JumpAny e = refl
unlisted p named Switch e = refl

returns_anyway : (p : Program) (role : Role) → is_call role ≡ false → code_may_return p role ≡ true
returns_anyway p Plain e = refl
returns_anyway p (CallIn entry) e = absurd (let k : ⊥ = cc in k)
returns_anyway p (CallEither entry sym) e = absurd (let k : ⊥ = cc in k)
returns_anyway p (CallOut sym) e = absurd (let k : ⊥ = cc in k)
returns_anyway p CallAny e = absurd (let k : ⊥ = cc in k)
returns_anyway p Return e = refl
returns_anyway p (JumpOut sym) e = refl
returns_anyway p JumpAny e = refl
returns_anyway p Switch e = refl

both_ways : (marked listed may : Bool) → listed ≡ false → may ≡ true → (not (not marked && listed) && (marked || may)) ≡ true
both_ways true listed may e f = refl
both_ways false listed may e f = rw (e, f) refl

passes : (p : Program) (q : ℕ) → is_call (p.role q) ≡ false → target_may_return p q ≡ true
passes p q e = both_ways (p.marked_call q) (is_listed_by p (p.names q) (p.role q)) (code_may_return p (p.role q)) (unlisted p (p.names q) (p.role q) e) (returns_anyway p (p.role q) e)

goes_by : (p : Program) (q : ℕ) (kind : EdgeKind) → is_call (p.role q) ≡ false → can_go p q kind ≡ true
goes_by p q Next e = passes p q e
goes_by p q Taken e = refl
goes_by p q Fixup e = refl
goes_by p q Table e = refl
goes_by p q Sibling e = refl

all_stay : (test : Edge → Bool) (es : List Edge) → ((e : Edge) → test e ≡ true) → filter test es ≡ es
all_stay test [] h = refl
all_stay test (e ∷ es) h = rw (h e) (ap (λ (xs : List Edge). e ∷ xs) (all_stay test es h))

pub before_hint_at : (p : OwnProgram) (set : List Bool) (q : ℕ) (x : ModelPoint) → slice_get p.points.items q ≡ Some x
    → is_call (of_point p Plain (λ y. y.role) q) ≡ false → lead_to_hints p x.goes.items ≡ is_before_hint (program_of p set) q
before_hint_at p set q x e call =
    let P = program_of p set in
    let goes : edges_of P q ≡ x.goes.items = all_stay (λ y. can_go P q y.kind) (P.goes q) (λ y. goes_by P q y.kind call) ∙ of_point_is p [] (λ y. y.goes.items) q x e in
    sym (ap (λ (es : List Edge). list_any (λ y. not (is_fixup y.kind)) es && list_all (λ y. is_fixup y.kind || not (is_free (P.hint y.to))) es) goes)
