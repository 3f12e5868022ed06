use Rattle.std.proofs.Common.{length, subst, ◌∙◌, ap}
use Rattle.elf_objects.specs.Elf.{Elf}
use Rattle.flow_defs.specs.Coded.{Coded}
use Rattle.object_check.specs.Allowances.{is_safe_name}
use Rattle.object_check.specs.Flags.{AreFlags}
use Rattle.object_check.proofs.Allowed.{allows}
use Rattle.object_check.proofs.table.table_of_places.Goals as goal

pub returns : goal.returns
returns c =
    allows c.args.places.now c.args.lists.now c.args.options _
    c.in_ok-list_safe_branches.ensures
    c.in_ok-list_before_user_space.ensures
    c.in_ok-list_lacking_smap.ensures
    (subst (λ (e : Elf). AreFlags (is_safe_name e c.args.lists.now) (length e.symbols) c.in_ok-list_safe_names.field-0.items) (c.object.ensures ∙ ap (λ (o : Coded). o.elf) c.linked.ensures) c.in_ok-list_safe_names.ensures)
    c.access_safe.ensures
