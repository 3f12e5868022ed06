use Rattle.std.proofs.Common.{◌≡◌, ◌<◌, ℕ, List, All, ap, ◌∙◌, subst}
use Rattle.elf_objects.specs.Elf.{Elf}
use Rattle.flow_defs.specs.Coded.{Coded}
use Rattle.elf_objects.specs.Object.{IsObject}
use Rattle.point_edges.proofs.Bytes.{has_bytes}
use Rattle.point_edges.proofs.order.object_is_in_order.Goals as goal

pub returns : goal.returns
returns c =
    let o : Coded = c.args.linked.now in
    let bytes : c.bytes.result.now ≡ o.elf.bytes = c.bytes.ensures.value ∙ ap (λ (e : Elf). e.bytes) c.object.ensures in
    let own : IsObject c.object.result.now.bytes c.object.result.now = subst (λ (b : List ℕ). IsObject b c.object.result.now) c.bytes.ensures.value c.bytes.ensures.object in
    let is : IsObject o.elf.bytes o.elf = subst (λ (e : Elf). IsObject e.bytes e) c.object.ensures own in
    let low : All (λ byte. byte < 256) o.elf.bytes = subst (All (λ (byte : ℕ). byte < 256)) bytes c.bytes_are_low.ensures in
    let linked = c.texts.ensures.linked in
    record { object = is; bytes = has_bytes o is low; under = linked.0; special = linked.1.before.before.special; sites = linked.1.sites }
