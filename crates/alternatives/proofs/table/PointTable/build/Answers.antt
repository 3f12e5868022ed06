use Rattle.std.proofs.Common.{◌≡◌, List, All, length, Some, map, Option, sym, ap, ◌∙◌, subst, arith, rules}
use Rattle.std.specs.List.Sorted.{IsStrictlySortedBy}
use Rattle.std.proofs.lemmas.List.{length-map}
use Rattle.std.proofs.lemmas.List.Elements.{All-from_recursion}
use Rattle.operation_defs.specs.declared.insn.Insn.{Insn}
use Rattle.special_sections.specs.declared.entries.AltEntry.{AltEntry}
use Rattle.alternatives.specs.declared.texts.SectionText.{SectionText}
use Rattle.alternatives.specs.declared.point.Point.{Point}
use Rattle.alternatives.specs.Numbers.{IsKept}
use Rattle.alternatives.specs.Points.{insn_of_point, point_cmp, points_of, IsPoint}
use Rattle.alternatives.proofs.Listing.{points_sorted, points_sound}
use Rattle.alternatives.proofs.Numbering.{replacement_low, points_kept}
use Rattle.alternatives.proofs.Placed.{rise_by_section}
use Rattle.alternatives.proofs.table.PointTable.build.Goals as goal

all_points : (texts : List SectionText) (entries : List AltEntry) (points : List Point) → points ≡ points_of texts entries → All (IsPoint texts entries) points
all_points texts entries points is = subst (All (IsPoint texts entries)) (sym is) (All-from_recursion (IsPoint texts entries) (points_of texts entries) (points_sound texts entries))

pub list_points-requires-clause-near : goal.list_points-requires-clause-near
list_points-requires-clause-near c = replacement_low c.args.texts.now c.args.entries.now c.requires.short c.requires.right

pub invariant_of-result : goal.invariant_of-result
invariant_of-result c =
    let texts : List SectionText = c.args.texts.now in
    let entries : List AltEntry = c.args.entries.now in
    let points : List Point = c.in_ok-listed.listed.points.items in
    let insns : List Insn = c.in_ok-listed.listed.insns in
    let same : c.in_ok-entries.entries.items ≡ entries = search rules in
    let as_many : length c.in_ok-entries.entries.items ≡ length entries = ap (λ (es : List AltEntry). length es) same in
    let mapped : length (map (λ (insn : Insn). Some insn) insns) ≡ length (map (insn_of_point texts entries) points) = ap (λ (os : List (Option Insn)). length os) c.in_ok-listed.ensures.insns in
    record {
      few = omega (arith, c.in_ok-listed.ensures.few, c.requires.bytes, c.requires.few);
      few_entries = omega (arith, c.requires.few);
      ascend = subst (IsStrictlySortedBy point_cmp) (sym c.in_ok-listed.ensures.all) (points_sorted texts entries (rise_by_section texts c.requires.ascending));
      each = sym (length-map insns (λ (insn : Insn). Some insn)) ∙ mapped ∙ length-map points (insn_of_point texts entries);
      kept = subst (λ es. All (IsKept es) points) (sym same) (points_kept texts entries c.requires.short c.requires.right points (all_points texts entries points c.in_ok-listed.ensures.all));
    }
