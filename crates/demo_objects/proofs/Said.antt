-- What the object that is made says.
use Rattle.std.proofs.Common.{ℕ, List, [], ◌∙◌, arith}
use Rattle.std.proofs.lemmas.List.FromFn.{get_or-map-range_with_len, length-map-range_with_len}
use Rattle.elf_objects.specs.Contents.{elf_of, relocs_of, section_entry}
use Rattle.elf_objects.specs.File.{section_count}
use Rattle.demo_objects.specs.CanMake.{CanMake}
use Rattle.demo_objects.specs.Made.{all_sections, made}
use Rattle.demo_objects.specs.Object.{IsMadeFrom}
use Rattle.demo_objects.specs.Spec.{Spec}
use Rattle.demo_objects.proofs.ReadBack.{Reads, reads}
use Rattle.demo_objects.proofs.SaysRelocs.{says-relocs}
use Rattle.demo_objects.proofs.SaysSections.{says-sections}
use Rattle.demo_objects.proofs.SaysSymbols.{says-symbols}
use Rattle.demo_objects.proofs.WellFormed.{space}

pub is-made : (s : Spec) → CanMake s → IsMadeFrom s (elf_of (made s))
is-made s can =
    let b : List ℕ = made s in
    let o : Reads (all_sections s) b = reads (all_sections s) (space s can.laid_out) in
    let symbols = says-symbols s can in
    let n = length-map-range_with_len (section_entry b) 0 (section_count b) in
    record {
      headers_at = o.headers;
      name_table = o.table;
      symbol_table = symbols.0;
      sections = says-sections s can.laid_out;
      symbols = symbols.1;
      relocs = λ sec h. get_or-map-range_with_len (relocs_of b) 0 (section_count b) sec sec [] (omega arith) (omega arith) ∙ says-relocs s can sec;
    }
