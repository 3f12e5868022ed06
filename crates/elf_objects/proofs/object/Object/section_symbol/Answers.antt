use Rattle.std.proofs.Common.{◌<◌, ◌∙◌, None, arith, length}
use Rattle.std.proofs.lemmas.List.{get_or_default}
use Rattle.elf_objects.specs.File.{section_count}
use Rattle.elf_objects.proofs.Read.{length-sections, section_symbol-found}
use Rattle.elf_objects.proofs.object.Object.section_symbol.Goals as goal

pub index-requires : goal.index-requires
index-requires c = omega (arith, length-sections _ _ c.self.view_is, c.self.invariant.symbols_are.size_is)

pub returns : goal.returns
returns c =
    let known : c.args.sec < section_count c.self.inside.symbols.headers.bytes.now = omega (arith, length-sections _ _ c.self.view_is) in
    let inside : c.args.sec < length c.self.inside.section_symbols.items = omega (arith, c.self.invariant.symbols_are.size_is) in
    c.index.ensures ∙ get_or_default c.self.inside.section_symbols.items c.args.sec _ None inside
    ∙ c.self.invariant.symbols_are.each c.args.sec known ∙ section_symbol-found _ _ c.args.sec c.self.view_is
