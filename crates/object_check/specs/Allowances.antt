-- What an object, the lists of names and the options allow at the points of its program and at its symbols.
use Rattle.std.specs.Prelude.{ℕ, ◌+◌, ◌*◌, ◌==◌, ◌&&◌, not, Bool, bytes_eq, codes}
use Rattle.std.specs.List.{list_any}
use Rattle.std.specs.FinSet as set
use Rattle.ot_base.specs.NameLists.{NameLists}
use Rattle.ot_base.specs.declared.options.Options.{Options}
use Rattle.ot_base.specs.declared.place.Place.{Place}
use Rattle.ot_base.specs.Places.{same_place}
use Rattle.elf_objects.specs.Elf.{Elf}
use Rattle.flow_defs.specs.Coded.{Coded}
use Rattle.elf_objects.specs.Contents.{section_at, symbol_at}
use Rattle.special_sections.specs.declared.entries.AltEntry.{AltEntry}
use Rattle.special_sections.specs.Special.{special_of}
use Rattle.alternatives.specs.declared.point.Point.{Point}
use Rattle.alternatives.specs.Originals.{counts}
use Rattle.alternatives.specs.Points.{address_of_point, entry_of}
use Rattle.machine_defs.specs.Program.{in_site}
use Rattle.flow_defs.specs.Code.{alternatives_of, is_plain, point_at}
use Rattle.flow_defs.specs.Sites.{site_of_entry}
use Rattle.machine_defs.specs.Allowances.{Allowances}

-- its place is listed in `.discard.retpoline_safe`
unfoldable pub is_safe_branch : Coded → Point → Bool
is_safe_branch o point = list_any (same_place point.place) (special_of o.elf).safe_branches

-- code of a section with this name runs once, before user space does; that of a module runs when it is loaded
abbrev pub is_init_text : Elf → ℕ → Bool
is_init_text o sec = bytes_eq (section_at o sec).name (codes ".init.text")

-- its section is named so, and the object is no part of a module
unfoldable pub is_before_user_space : Coded → Options → Point → Bool
is_before_user_space o options point = not options.module && is_init_text o.elf point.place.sec

-- the name of a symbol is listed as that of a function that may be called with user access on
unfoldable pub is_safe_name : Elf → NameLists → ℕ → Bool
is_safe_name o lists sym = set.contains lists.access_safe (symbol_at o sym).name

-- the processor feature SMAP: bit 20 of word 9 (Linux 6.6, asm/cpufeatures.h, X86_FEATURE_SMAP)
abbrev pub smap_feature : ℕ
smap_feature = 9 * 32 + 20

-- the replacement of an entry is for processors that have it, without flags
abbrev pub is_for_smap : AltEntry → Bool
is_for_smap a = a.feature == smap_feature && a.flags == 0

-- an entry makes a site that has such a replacement
abbrev pub makes_smap_site : AltEntry → Bool
makes_smap_site a = counts a && is_for_smap a

-- a place lies in such a site
abbrev pub is_in_smap_site : Coded → Place → Bool
is_in_smap_site o place = list_any (λ a. makes_smap_site a && in_site (site_of_entry a) place) (alternatives_of o)

-- a point is one of such a replacement
abbrev pub is_smap_point : Coded → Point → Bool
is_smap_point o point = not (is_plain point) && is_for_smap (entry_of (alternatives_of o) point.variant)

-- a point runs in such a site, and is of none of these replacements
unfoldable pub lacks_smap : Coded → Point → Bool
lacks_smap o point = is_in_smap_site o (address_of_point (alternatives_of o) point) && not (is_smap_point o point)

unfoldable pub allowances_of : Coded → NameLists → Options → Allowances
allowances_of o lists options = record {
  safe_branch = λ q. is_safe_branch o (point_at o q);
  before_user_space = λ q. is_before_user_space o options (point_at o q);
  safe_name = is_safe_name o.elf lists;
  lacks_smap = λ q. lacks_smap o (point_at o q);
}
