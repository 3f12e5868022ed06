-- When the code of an object is read, and why it isn't.
use Rattle.std.specs.Prelude.{◌≡◌, ◌<◌, ℕ, true, [], length, slice_get, None, Some}
use Rattle.ot_base.specs.NameLists.{NameLists}
use Rattle.flow_defs.specs.Coded.{Coded}
use Rattle.elf_objects.specs.Contents.{is_text, section_at}
use Rattle.x86_text.specs.Code.{IsCode}
use Rattle.x86_text.specs.Refused.{IsTextFault}
use Rattle.x86_text.specs.declared.fault.TextFault.{TextFault}
use Rattle.x86_text.specs.declared.fault.TextFault.TheVariants as texts
use Rattle.special_sections.specs.declared.fault.SpecialFault.{SpecialFault}
use Rattle.special_sections.specs.declared.fault.SpecialFault.TheVariants as specials
use Rattle.special_sections.specs.Special.{special_faults}
use Rattle.symbols_relocs.specs.declared.fault.IndexFault.{IndexFault}
use Rattle.symbols_relocs.specs.declared.fault.IndexFault.TheVariants as indices
use Rattle.symbols_relocs.specs.Functions.{first_bad}
use Rattle.alternatives.specs.declared.fault.SiteFault.{SiteFault}
use Rattle.alternatives.specs.declared.fault.SiteFault.TheVariants as sites
use Rattle.alternatives.specs.Faults.{AreRight, IsFirstAt}
use Rattle.flow_defs.specs.Code.{alternatives_of, body_of, texts_of}
use Rattle.object_points.specs.declared.fault.LinkFault.{LinkFault}
use Rattle.object_points.specs.declared.fault.LinkFault.TheVariants.{Text, Special, Index, Site, NoMemory}

-- each text section below this number is code, from its first byte to its last
abbrev pub AreCode : Coded → ℕ → Type 0
AreCode o n = (i : ℕ) → i < n → is_text (section_at o.elf i) ≡ true → IsCode (body_of o i)

-- The texts of an object are code; then its special sections are in order, under lists of names; then its functions; then its
-- alternatives.
abbrev pub AllCode : Coded → Type 0
AllCode o = AreCode o (length o.elf.sections)

pub record HasSpecial (o : Coded) (lists : NameLists) : Type 0 where
  pub code : AllCode o
  pub special : special_faults o.elf lists ≡ []

pub record HasSoundFunctions (o : Coded) (lists : NameLists) : Type 0 where
  pub before : HasSpecial o lists
  pub functions : first_bad o.elf ≡ None

-- all of them are
pub record IsLinked (o : Coded) (lists : NameLists) : Type 0 where
  pub before : HasSoundFunctions o lists
  pub sites : AreRight (texts_of o) (alternatives_of o) (length (alternatives_of o))

-- the first text section that isn't code, and where and why
pub record IsFirstText (o : Coded) (sec : ℕ) (fault : TextFault) : Type 0 where
  pub inside : sec < length o.elf.sections
  pub text : is_text (section_at o.elf sec) ≡ true
  pub before : AreCode o sec
  pub here : IsTextFault (body_of o sec) fault

abbrev pub TellsText : Coded → ℕ → TextFault → Type 0
TellsText o sec (texts.At off why) = IsFirstText o sec (texts.At off why)
TellsText o sec texts.NoMemory = ⊥

abbrev pub TellsSpecial : Coded → NameLists → SpecialFault → Type 0
TellsSpecial o lists (specials.At sec entry why) = slice_get (special_faults o.elf lists) 0 ≡ Some (specials.At sec entry why)
TellsSpecial o lists specials.NoMemory = ⊥

abbrev pub TellsIndex : Coded → IndexFault → Type 0
TellsIndex o (indices.Func sym) = first_bad o.elf ≡ Some sym
TellsIndex o indices.NoMemory = ⊥

abbrev pub TellsSite : Coded → SiteFault → Type 0
TellsSite o (sites.At entry why) = IsFirstAt (texts_of o) (alternatives_of o) entry why
TellsSite o sites.NoMemory = ⊥

-- the fault is the first of the texts; want of memory says nothing of the object
abbrev pub IsTextsFault : Coded → LinkFault → Type 0
IsTextsFault o (Text sec fault) = TellsText o sec fault
IsTextsFault o (Special fault) = ⊥
IsTextsFault o (Index fault) = ⊥
IsTextsFault o (Site fault) = ⊥
IsTextsFault o NoMemory = Unit {0}

-- The fault is the first: what comes before it in this order is in order. Want of memory says nothing of the object.
abbrev pub IsLinkFault : Coded → NameLists → LinkFault → Type 0
IsLinkFault o lists (Text sec fault) = TellsText o sec fault
IsLinkFault o lists (Special fault) = AllCode o × TellsSpecial o lists fault
IsLinkFault o lists (Index fault) = HasSpecial o lists × TellsIndex o fault
IsLinkFault o lists (Site fault) = HasSoundFunctions o lists × TellsSite o fault
IsLinkFault o lists NoMemory = Unit {0}

-- what a lower fault is told as
abbrev pub special_fault : SpecialFault → LinkFault
special_fault specials.NoMemory = NoMemory
special_fault fault = Special fault

abbrev pub index_fault : IndexFault → LinkFault
index_fault indices.NoMemory = NoMemory
index_fault fault = Index fault

abbrev pub site_fault : SiteFault → LinkFault
site_fault sites.NoMemory = NoMemory
site_fault fault = Site fault
