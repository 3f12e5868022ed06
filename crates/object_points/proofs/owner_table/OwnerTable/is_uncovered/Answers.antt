use Rattle.std.proofs.Common.{◌≡◌, ◌-◌, ◌&&◌, not, cond, eqb, Bool, true, false, sym, ap, ◌∙◌, subst}
use Rattle.std.specs.Prelude.{is_some}
use Rattle.std.proofs.lemmas.Bool.{false≢true}
use Rattle.elf_objects.specs.Elf.{Elf}
use Rattle.alternatives.specs.declared.point.Point.{Point}
use Rattle.special_sections.specs.declared.entries.AltEntry.{AltEntry}
use Rattle.alternatives.specs.Points.{address_of_point, entry_of}
use Rattle.alternatives.specs.Texts.{behind}
use Rattle.symbols_relocs.specs.Functions.{function_at}
use Rattle.flow_defs.specs.Coded.{Coded}
use Rattle.flow_defs.specs.Code.{alternatives_of, point_at}
use Rattle.flow_defs.specs.Owners.{function_of_point}
use Rattle.symbols_relocs.specs.Extents.{have_byte, have_start}
use Rattle.object_points.specs.Owners.{AreCovered, OwnerList}
use Rattle.object_points.proofs.OwnersOf.{left_out, none_uncovered, point_text}
use Rattle.object_points.proofs.owner_table.OwnerTable.is_uncovered.Goals as goal

parts : (a b : Bool) → true ≡ (a && b) → (a ≡ true) × (b ≡ true)
parts true true h = (sym h, sym h)
parts true false h = absurd (false≢true (sym h))
parts false b h = absurd (false≢true (sym h))

-- an instruction of the object's own code runs where it stands
plain_address : (o : Coded) (p : Point) → eqb p.variant 0 ≡ true → address_of_point (alternatives_of o) p ≡ p.place
plain_address o p plain = let a : AltEntry = entry_of (alternatives_of o) p.variant in ap (λ (b : Bool). cond b p.place (behind a.original (p.place.off - a.replacement.off))) plain

pub returns-then-is_plain_of_function : goal.returns-then-is_plain_of_function
returns-then-is_plain_of_function c =
    let object : c.self.inside.places.now ≡ c.args.self.now.object = ap (λ (t : OwnerList). t.object) c.self.view_is in
    let o : Coded = c.args.self.now.object in
    let p : Point = point_at o c.args.n in
    let own : c.point-point.result ≡ p = c.point-point.ensures ∙ ap (λ (e : Coded). point_at e c.args.n) object in
    let both = parts (eqb c.point-point.result.variant 0) (is_some c.function.result) c.if-is_plain_of_function.ensures in
    let plain : eqb p.variant 0 ≡ true = ap (λ (q : Point). eqb q.variant 0) (sym own) ∙ both.0 in
    let function : function_at o.elf p.place ≡ c.function.result = ap (function_at o.elf) (sym (plain_address o p plain)) ∙ sym (c.function.ensures ∙ ap (λ (e : Coded). function_of_point e (point_at e c.args.n)) object) in
    none_uncovered o.elf p.place c.function.result function both.1

pub returns : goal.returns
returns c =
    let object : c.self.inside.places.now ≡ c.args.self.now.object = ap (λ (t : OwnerList). t.object) c.self.view_is in
    let o : Coded = c.args.self.now.object in
    let p : Point = point_at o c.args.n in
    let own : c.point-point.result ≡ p = c.point-point.ensures ∙ ap (λ (e : Coded). point_at e c.args.n) object in
    let have = subst (λ (e : Elf). AreCovered e c.self.inside.covered) (ap (λ (e : Coded). e.elf) object) c.self.invariant.0.covered_code in
    c.leaves_out.ensures
    ∙ ap (λ (q : Point). have_start c.self.inside.covered q.place && not (have_byte c.self.inside.covered q.place)) own
    ∙ left_out o.elf c.self.inside.covered p.place have (point_text o c.args.n c.requires)
