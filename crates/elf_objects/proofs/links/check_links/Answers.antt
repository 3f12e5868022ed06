use Rattle.std.proofs.Common.{◌≡◌, true, false, refl, below_more, arith, inr}
use Rattle.elf_objects.proofs.Found.{AreLeast-none}
use Rattle.elf_objects.specs.File.{section_count}
use Rattle.elf_objects.specs.Table.{is_rela_of}
use Rattle.elf_objects.proofs.links.check_links.Goals as goal

pub loop-i-init : goal.loop-i-init
loop-i-init c = record {
  links = λ k h. absurd (omega arith);
  relas = AreLeast-none (is_rela_of c.args.symbols.now.headers.bytes.now) (section_count c.args.symbols.now.headers.bytes.now) _ _ (c.args.symbols.now.headers.count_is) c.in_ok-relas.ensures.ok;
}

pub loop-i-preserved : goal.loop-i-preserved
loop-i-preserved c = record {
  links = below_more _ _ c.loop-i.invariant.links (c.if-not-has_links.ensures.0 refl);
  relas = c.note_rela.ensures;
}

pub returns-then-not-has_links-clause-err : goal.returns-then-not-has_links-clause-err
returns-then-not-has_links-clause-err c = inr (record {
  index = c.loop-i.i;
  inside = omega (arith, c.args.symbols.now.headers.count_is);
  lower = c.loop-i.invariant.links;
  fault = record { fails = λ has. (let e : false ≡ true = c.if-not-has_links.ensures.1 has in cc); is = refl };
})
