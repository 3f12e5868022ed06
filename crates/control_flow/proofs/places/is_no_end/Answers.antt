use Rattle.std.proofs.Common.{not, sym, ap, ◌∙◌, arith}
use Rattle.elf_objects.specs.Elf.{Elf}
use Rattle.flow_defs.specs.Coded.{Coded}
use Rattle.control_flow.specs.Judged.{ends_text}
use Rattle.control_flow.proofs.Ends.{at_beginning, at_boundary, off_boundary}
use Rattle.control_flow.proofs.places.is_no_end.Goals as goal

pub returns-then-place-eq0 : goal.returns-then-place-eq0
returns-then-place-eq0 c = at_beginning c.args.places.now c.args.place (omega (arith, c.if-place-eq0.true))

pub returns-then-is_boundary : goal.returns-then-is_boundary
returns-then-is_boundary c = at_boundary c.args.places.now c.args.place (λ none. omega (arith, none, c.if-place-eq0.false)) (sym c.is_boundary.ensures ∙ c.if-is_boundary.true)

pub returns : goal.returns
returns c =
    ap not (c.ends_text.ensures ∙ ap (λ (o : Elf). ends_text o c.args.place) (c.object.ensures ∙ ap (λ (e : Coded). e.elf) c.linked.ensures))
    ∙ off_boundary c.args.places.now c.args.place (λ none. omega (arith, none, c.if-place-eq0.false)) (sym c.is_boundary.ensures ∙ c.if-is_boundary.false)
