use Rattle.std.proofs.Common.{◌≡◌, ℕ, ◌+◌, List, [], ◌∷◌, Some, length, sym, ap, ◌∙◌, subst, arith}
use Rattle.std.proofs.lemmas.List.{length-append}
use Rattle.std.specs.Prelude.{slice_get}
use Rattle.ot_base.specs.declared.place.Place.{Place}
use Rattle.elf_objects.specs.Elf.{Elf}
use Rattle.alternatives.specs.Points.{address_of_point}
use Rattle.flow_defs.specs.Coded.{Coded}
use Rattle.flow_defs.specs.Code.{alternatives_of, point_at}
use Rattle.object_points.specs.declared.code_owners.CodeOwner.{CodeOwner}
use Rattle.object_points.specs.CodeOwners.{TellsOwner}
use Rattle.object_points.proofs.Items.{one_more}
use Rattle.object_points.proofs.code_owners.list_numbers.Goals as goal

pub loop-n-preserved : goal.loop-n-preserved
loop-n-preserved c =
    let o : Coded = c.args.linked.now in
    let items : List CodeOwner = c.args.items.now in
    let numbers : List ℕ = c.loop-n.numbers.items in
    let number : ℕ = c.span_with-span.result.number in
    let P : ℕ → ℕ → Type 0 = λ i k. TellsOwner o.elf items (address_of_point (alternatives_of o) (point_at o i)) k in
    let at : P c.loop-n.n number = subst (λ (p : Place). TellsOwner o.elf items p number) c.address_of.ensures (subst (λ (e : Elf). TellsOwner e items c.address_of.result number) c.requires.object (c.span_with-span.ensures.tells c.address_of.result c.span_with-span.ensures.has)) in
    let here : P (length numbers) number = subst (λ (i : ℕ). P i number) (sym c.loop-n.invariant.long) at in
    record {
      long = ap length c.push_reserved.ensures.items ∙ length-append numbers (number ∷ []) ∙ ap (λ (k : ℕ). k + 1) c.loop-n.invariant.long;
      kept = omega (arith, c.push_reserved.ensures.len, c.loop-n.invariant.kept);
      room = c.push_reserved.ensures.capacity ∙ c.loop-n.invariant.room;
      each = subst (λ (xs : List ℕ). (i k : ℕ) → slice_get xs i ≡ Some k → P i k) (sym c.push_reserved.ensures.items)
          (one_more P numbers number c.loop-n.invariant.each here);
      tells = c.span_with-span.ensures.tells;
    }

pub returns : goal.returns
returns c = record {
  long = omega (arith, c.loop-n.invariant.long, c.loop-n-test.false, c.loop-n.auto.n-end, c.point_count-count.ensures.count, ap length c.sites.ensures.points);
  each = c.loop-n.invariant.each;
}
