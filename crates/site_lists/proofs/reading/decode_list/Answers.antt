use Rattle.std.proofs.Common.{inl, inr, sym, ap, ◌∙◌, ℕ, List, Result, Ok, Err}
use Rattle.std.specs.Prelude.{IfErr, IsOkUnless}
use Rattle.std.proofs.lemmas.Result.{IfOk-weaker}
use Rattle.ot_base.specs.declared.place.Place.{Place}
use Rattle.elf_objects.specs.Elf.{Elf}
use Rattle.orc_bytes.specs.Sections.{section_named}
use Rattle.site_lists.specs.declared.fault.SitesFault.{SitesFault}
use Rattle.site_lists.specs.declared.fault.SitesFault.TheVariants.{NoMemory}
use Rattle.site_lists.specs.Faults.{RefusesList}
use Rattle.site_lists.specs.Sections.{IsListOf, held, list_name, missing}
use Rattle.site_lists.proofs.Excluded.{no_fault_of}
use Rattle.site_lists.proofs.reading.decode_list.Goals as goal

-- a section that holds places is refused for want of memory alone
only_memory : {T : Type 0} (object : Elf) (which : ℕ) (places : List Place) (r : Result T SitesFault) → IfErr r (RefusesList object which) → IsListOf object (list_name which) places → IsOkUnless r NoMemory
only_memory object which places (Ok x) refuses holds = tt
only_memory object which places (Err e) (inl memory) holds = memory
only_memory object which places (Err e) (inr first) holds = absurd (no_fault_of object which places e first holds)

pub returns-in-Some-clause-ok : goal.returns-in-Some-clause-ok
returns-in-Some-clause-ok c = IfOk-weaker c.decode_section.result _ _ (λ places holds. held holds) c.decode_section.ensures.ok

pub returns-in-Some-clause-only : goal.returns-in-Some-clause-only
returns-in-Some-clause-only c = λ places list. only_memory c.args.object.now c.args.which places c.decode_section.result c.decode_section.ensures.err list

pub returns-in-None-clause-ok : goal.returns-in-None-clause-ok
returns-in-None-clause-ok c = missing (ap (section_named c.args.object.now) (sym (c.as_bytes.ensures.value ∙ c.list_name.ensures)) ∙ sym c.section_named.ensures.value ∙ c.in-None.is) c.new.ensures.items
