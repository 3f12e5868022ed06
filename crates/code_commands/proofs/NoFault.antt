-- An object in order has no fault: where there is none, none is told.
use Rattle.std.proofs.Common.{◌≡◌, ℕ, List, [], drop, refl, sym, ap, ◌∙◌}
use Rattle.std.specs.Prelude.{◌≢◌, Some, None, Option, Result, Ok, Err, slice_get}
use Rattle.ot_base.specs.NameLists.{NameLists}
use Rattle.operation_defs.specs.declared.insn.Insn.{Insn}
use Rattle.x86_map.specs.declared.map.Map.{Map}
use Rattle.flow_defs.specs.Coded.{Coded}
use Rattle.flow_defs.specs.Code.{body_of}
use Rattle.x86_decode.specs.declared.DecodeFault.{DecodeFault}
use Rattle.x86_decode.specs.Decoding.{OneOutcome, Outcome, StandsInFront}
use Rattle.x86_text.specs.declared.fault.TextFault.{TextFault}
use Rattle.x86_text.specs.declared.fault.TextFault.TheVariants as text
use Rattle.special_sections.specs.Special.{special_faults}
use Rattle.special_sections.specs.declared.fault.SpecialFault.TheVariants as special
use Rattle.symbols_relocs.specs.declared.fault.IndexFault.TheVariants as index
use Rattle.alternatives.specs.declared.fault.SiteFault.TheVariants as site
use Rattle.alternatives.specs.declared.fault.SiteWhy.{SiteWhy}
use Rattle.flow_defs.specs.Faults.{flow_faults, IsFirstFlowFault}
use Rattle.flow_defs.specs.declared.fault.FlowFault.{FlowFault}
use Rattle.flow_defs.specs.declared.fault.FlowFault.TheVariants as flow
use Rattle.object_points.specs.Linked.{AllCode, IsLinked, IsLinkFault, TellsText}
use Rattle.object_points.specs.declared.fault.LinkFault.{LinkFault}
use Rattle.object_points.specs.declared.fault.LinkFault.TheVariants as link

pub none_and_some : {A : Type 0} (found : Option A) (x : A) → found ≡ None → found ≡ Some x → ⊥
none_and_some found x none some = let same : ◌≡◌ {A = Option _} None (Some x) = sym none ∙ some in cc

first_of_none : {A : Type 0} (all : List A) (x : A) → all ≡ [] → slice_get all 0 ≡ Some x → ⊥
first_of_none all x none some = none_and_some (slice_get all 0) x (ap (λ xs. slice_get xs 0) none) some

-- an instruction and a refusal can't both be the answer to some bytes
no_instruction : OneOutcome → (map : Map) (bytes : List ℕ) (insn : Insn) (why : DecodeFault) → StandsInFront map bytes insn → Outcome map bytes (Err why) → ⊥
no_instruction one map bytes insn why stands answer =
    let same : ◌≡◌ {A = Result Insn DecodeFault} (Ok insn) (Err why) = one map bytes (Ok insn) (Err why) stands answer in
    cc

-- code that is all read has no fault of its text
not_undecoded : OneOutcome → (o : Coded) (sec : ℕ) (why : TextFault) → AllCode o → TellsText o sec why → ⊥
not_undecoded one o sec (text.At off why) code h =
    let stands = code sec h.inside h.text off h.here.0 in
    no_instruction one o.map (drop off (body_of o sec).bytes) stands.0 why stands.1 h.here.1
not_undecoded one o sec text.NoMemory code h = h

-- an object that is linked has no fault of linking
pub not_unlinked : OneOutcome → (o : Coded) (lists : NameLists) (why : LinkFault) → why ≢ link.NoMemory → IsLinked o lists → IsLinkFault o lists why → ⊥
not_unlinked one o lists (link.Text sec why) some linked h = not_undecoded one o sec why linked.before.before.code h
not_unlinked one o lists (link.Special (special.At sec entry why)) some linked h = first_of_none (special_faults o.elf lists) _ linked.before.before.special h.1
not_unlinked one o lists (link.Special special.NoMemory) some linked h = h.1
not_unlinked one o lists (link.Index (index.Func sym)) some linked h = none_and_some _ sym linked.before.functions h.1
not_unlinked one o lists (link.Index index.NoMemory) some linked h = h.1
not_unlinked one o lists (link.Site (site.At entry why)) some linked h = none_and_some {A = SiteWhy} _ why (linked.sites entry h.1.inside) h.1.here
not_unlinked one o lists (link.Site site.NoMemory) some linked h = h.1
not_unlinked one o lists link.NoMemory some linked h = some refl

-- one whose flow is in order has no fault of its flow
pub not_unflowed : (o : Coded) (why : FlowFault) → why ≢ flow.NoMemory → flow_faults o ≡ [] → IsFirstFlowFault o why → ⊥
not_unflowed o (flow.FuncStart sym) some none h = first_of_none (flow_faults o) _ none h
not_unflowed o (flow.NotBoundary list entry) some none h = first_of_none (flow_faults o) _ none h
not_unflowed o (flow.StaticSite entry) some none h = first_of_none (flow_faults o) _ none h
not_unflowed o (flow.NotCall entry) some none h = first_of_none (flow_faults o) _ none h
not_unflowed o (flow.NotFunction entry) some none h = first_of_none (flow_faults o) _ none h
not_unflowed o flow.NoMemory some none h = some refl
