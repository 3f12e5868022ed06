use Rattle.std.proofs.Common.{◌≡◌, ◌≤◌, ℕ, length, sym, subst, ◌∙◌}
use Rattle.std.specs.Prelude.{All}
use Rattle.std.proofs.lemmas.List.{length-map}
use Rattle.elf_write.specs.New.{entries, entry_of}
use Rattle.demo_objects.specs.Made.{has_relocs}
use Rattle.demo_objects.proofs.Targets.{targets-known}
use Rattle.demo_objects.proofs.sections.all_sections.Goals as goal

pub push_relas-requires-clause-targets : goal.push_relas-requires-clause-targets
push_relas-requires-clause-targets c =
    let n : ℕ = length c.args.spec.now.sections.items in
    let known = targets-known (has_relocs c.args.spec.now.relocs.items) (length (entries c.args.spec.now.sections.items)) in
    let same : length (entries c.args.spec.now.sections.items) ≡ n = length-map c.args.spec.now.sections.items entry_of in
    let at : All (λ (sec : ℕ). (1 ≤ sec) × (sec ≤ length (entries c.args.spec.now.sections.items))) c.deref-5.result.now =
    subst (All (λ (sec : ℕ). (1 ≤ sec) × (sec ≤ length (entries c.args.spec.now.sections.items)))) (sym (c.deref-5.ensures.value ∙ c.in_ok-targets.ensures)) known in
    subst (λ (m : ℕ). All (λ (sec : ℕ). (1 ≤ sec) × (sec ≤ m)) c.deref-5.result.now) same at
