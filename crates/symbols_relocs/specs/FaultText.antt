-- The printed text of a fault.
use Rattle.std.specs.Prelude.{ℕ, List, ◌++◌, codes}
use Rattle.std.specs.Fmt.{decimal}
use Rattle.symbols_relocs.specs.declared.fault.IndexFault.{IndexFault}
use Rattle.symbols_relocs.specs.declared.fault.IndexFault.TheVariants.{Func, NoMemory}

abbrev pub fault_text : IndexFault → List ℕ
fault_text (Func sym) = codes "symbol " ++ decimal sym ++ codes ": bad function"
fault_text NoMemory = codes "no memory"
