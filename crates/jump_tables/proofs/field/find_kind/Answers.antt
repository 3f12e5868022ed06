use Rattle.std.proofs.Common.{eqb, pos, sym, eq-eqb}
use Rattle.std.proofs.lemmas.Bool.{ne_eqb}
use Rattle.elf_objects.specs.declared.symbol.Reloc.{Reloc}
use Rattle.jump_tables.proofs.Finding.{found, found_none}
use Rattle.jump_tables.proofs.field.find_kind.Goals as goal

none : Reloc
none = record { offset = 0; kind = 0; sym = 0; addend = pos 0 }

pub returns-then-reloc-kind : goal.returns-then-reloc-kind
unfolding none
returns-then-reloc-kind c =
    found (λ (r : Reloc). eqb r.kind c.args.kind) c.args.relocs.now c.loop-reloc.reloc-index none c.loop-reloc-test.true c.loop-reloc.invariant (sym (eq-eqb _ _ c.if-reloc-kind.true))

pub loop-reloc-preserved : goal.loop-reloc-preserved
unfolding none
loop-reloc-preserved c =
    found_none (λ (r : Reloc). eqb r.kind c.args.kind) c.args.relocs.now c.loop-reloc.reloc-index none c.loop-reloc-test.true c.loop-reloc.invariant (sym (ne_eqb _ _ c.if-reloc-kind.false))
