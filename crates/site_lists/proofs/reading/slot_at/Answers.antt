use Rattle.std.proofs.Common.{◌≡◌, ℕ, ◌+◌, ◌≤◌, ◌⊎◌, inl, inr, ◌∙◌, arith}
use Rattle.std.proofs.lemmas.Option.{slice_get_past}
use Rattle.elf_objects.specs.Contents.{relocs_at}
use Rattle.site_lists.specs.Faults.{no_reloc, more, kind, offset}
use Rattle.site_lists.proofs.reading.slot_at.Goals as goal
use Rattle.site_lists.proofs.reading.slot_at.Goals.{then-i-relocs-via-then-i-relocs, then-i-relocs-via-else-i-relocs+then-relocs-count}

pub returns-then-i-relocs-clause-err : goal.returns-then-i-relocs-clause-err
returns-then-i-relocs-clause-err c =
    elim c.then-i-relocs.branch [
      | then-i-relocs-via-then-i-relocs w ↦ no_reloc (slice_get_past (relocs_at c.args.object.now c.args.slots.now.section) c.args.i (omega arith))
      | then-i-relocs-via-else-i-relocs+then-relocs-count w ↦
          let last = w.if-relocs-count.true.0 in
          let left = w.if-relocs-count.true.1 in
          more (last ∙ c.requires.count) (omega arith)
    ]

-- behind the last row there are no more relocations
no_more : (rows count relocs i : ℕ) → rows ≡ count → ((i + 1 ≡ rows) × (relocs ≤ rows)) ⊎ (i + 1 ≡ rows → ⊥) → i + 1 ≡ count → relocs ≤ count
no_more rows count relocs i e (inl h) last = let few = h.1 in omega arith
no_more rows count relocs i e (inr h) last = absurd (h (omega arith))

pub returns-then-reloc-ne-R_X86_64_PC32-clause-err : goal.returns-then-reloc-ne-R_X86_64_PC32-clause-err
returns-then-reloc-ne-R_X86_64_PC32-clause-err c =
    kind c.reloc-reloc.result
    (record { there = c.reloc-reloc.ensures; no_more = λ last. let few = no_more _ _ _ _ c.requires.count c.if-relocs-count.either last in omega arith })
    c.if-reloc-ne-R_X86_64_PC32.true

pub returns-then-reloc-from-clause-err : goal.returns-then-reloc-from-clause-err
returns-then-reloc-from-clause-err c =
    offset c.reloc-reloc.result
    (record { there = c.reloc-reloc.ensures; no_more = λ last. let few = no_more _ _ _ _ c.requires.count c.if-relocs-count.either last in omega arith })
    c.if-reloc-ne-R_X86_64_PC32.false
    (λ e. c.if-reloc-from.true (let same = c.from.ensures in omega arith))
