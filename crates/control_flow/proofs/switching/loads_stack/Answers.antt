use Rattle.std.proofs.Common.{◌≡◌, ◌&&◌, sym, ap, ◌∙◌}
use Rattle.elf_objects.specs.Elf.{Elf}
use Rattle.symbols_relocs.specs.NamedCode.{is_in_named_code}
use Rattle.alternatives.specs.declared.point.Point.{Point}
use Rattle.alternatives.specs.Points.{address_of_point}
use Rattle.flow_defs.specs.Coded.{Coded}
use Rattle.flow_defs.specs.Code.{alternatives_of, point_at}
use Rattle.flow_defs.specs.Switching.{loads_rsp}
use Rattle.flow_defs.specs.TableRegisters.{bytes_from}
use Rattle.control_flow.proofs.switching.loads_stack.Goals as goal

pub returns-then-not-contains : goal.returns-then-not-contains
returns-then-not-contains c =
    let o : Coded = c.args.places.now in
    let p : Point = point_at o c.args.n in
    let inside : c.contains.result ≡ is_in_named_code o.elf c.args.switching.lists.now.switching (address_of_point (alternatives_of o) p) =
    c.contains.ensures ∙ c.requires.switching c.address.result ∙ ap (is_in_named_code o.elf c.args.switching.lists.now.switching) c.address.ensures in
    ap (λ b. b && loads_rsp (bytes_from o.elf p.place)) (sym c.if-not-contains.true ∙ inside)

pub returns : goal.returns
returns c =
    let o : Coded = c.args.places.now in
    let p : Point = point_at o c.args.n in
    let inside : c.contains.result ≡ is_in_named_code o.elf c.args.switching.lists.now.switching (address_of_point (alternatives_of o) p) =
    c.contains.ensures ∙ c.requires.switching c.address.result ∙ ap (is_in_named_code o.elf c.args.switching.lists.now.switching) c.address.ensures in
    let own : c.object.result.now ≡ o.elf = c.object.ensures ∙ ap (λ (e : Coded). e.elf) c.linked.ensures in
    c.loads_rsp.ensures
    ∙ ap loads_rsp (c.bytes_from.ensures ∙ ap (λ (e : Elf). bytes_from e c.point.result.place) own ∙ ap (λ (q : Point). bytes_from o.elf q.place) c.point.ensures)
    ∙ ap (λ b. b && loads_rsp (bytes_from o.elf p.place)) (sym c.if-not-contains.false ∙ inside)
