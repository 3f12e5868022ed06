use Rattle.std.proofs.Common.{◌≡◌, ℕ, List, refl, sym, subst, ◌∙◌, arith}
use Rattle.std.specs.Prelude.{IfSome, IsSome}
use Rattle.elf_objects.specs.Contents.{elf_of}
use Rattle.elf_objects.specs.Object.{IsWellFormed}
use Rattle.demo_objects.specs.CanMake.{CanLayOut}
use Rattle.demo_objects.specs.Made.{made}
use Rattle.demo_objects.specs.Object.{IsMadeFrom}
use Rattle.demo_objects.specs.Spec.{spec_of}
use Rattle.demo_objects.proofs.Said.{is-made}
use Rattle.demo_objects.proofs.WellFormed.{can-make, well-formed}
use Rattle.demo_objects.proofs.object.build.Goals as goal

pub returns-else-branch-clause-exact : goal.returns-else-branch-clause-exact
returns-else-branch-clause-exact c = (
  λ h. absurd cc,
  λ can. (
      let s = spec_of c.args.spec.now in
      let is : c.in-Some.file.items ≡ made s = subst (λ o. IfSome o (λ file. file.items ≡ made s)) c.in-Some.is c.in_ok-file.ensures.layout in
      let yes = c.in_ok-is_well_formed.ensures.1 (subst IsWellFormed (sym (c.deref.ensures.value ∙ is)) (well-formed s can)) in
      let no = c.if-branch.false in
      grind arith),
)

pub returns-then-branch-clause-object : goal.returns-then-branch-clause-object
returns-then-branch-clause-object c =
    let s = spec_of c.args.spec.now in
    let is : c.in-Some.file.items ≡ made s = subst (λ o. IfSome o (λ file. file.items ≡ made s)) c.in-Some.is c.in_ok-file.ensures.layout in
    let laid_out : CanLayOut s = c.in_ok-file.ensures.exact.0 (subst IsSome (sym c.in-Some.is) refl) in
    let yes : IsWellFormed c.deref.result.now = c.in_ok-is_well_formed.ensures.0 (let t = c.if-branch.true in grind arith) in
    let formed : IsWellFormed (made s) = subst IsWellFormed (c.deref.ensures.value ∙ is) yes in
    subst (λ (b : List ℕ). IsMadeFrom s (elf_of b)) (sym is) (is-made s ((can-make s).0 (laid_out, formed)))
