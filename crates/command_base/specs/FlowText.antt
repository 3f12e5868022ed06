-- How it is told what keeps an object's program from being checked.
use Rattle.std.specs.Prelude.{ℕ, List, [], ◌++◌, codes}
use Rattle.std.specs.Fmt.{decimal}
use Rattle.flow_defs.specs.declared.fault.FlowFault.{FlowFault}
use Rattle.flow_defs.specs.declared.fault.FlowFault.TheVariants.{FuncStart, NotBoundary, StaticSite, NotCall, NotFunction, NoMemory}

abbrev pub fault_text : FlowFault → List ℕ
fault_text (FuncStart sym) = codes "symbol " ++ decimal sym ++ codes ": bad function"
fault_text (NotBoundary list entry) = codes "list " ++ decimal list ++ codes ": entry " ++ decimal entry ++ codes ": not a boundary"
fault_text (StaticSite entry) = codes "static branch " ++ decimal entry ++ codes ": not a site"
fault_text (NotCall entry) = codes "intra call " ++ decimal entry ++ codes ": not a call"
fault_text (NotFunction entry) = codes "unchecked " ++ decimal entry ++ codes ": not a function"
fault_text NoMemory = []
