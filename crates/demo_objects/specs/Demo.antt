-- The object of functions f0, f1, .. one after the other.
use Rattle.std.specs.Prelude.{ℕ, ◌%◌, ◌==◌, List, [], ◌∷◌, ◌++◌, codes, length, map, if◌then◌else◌}
use Rattle.std.specs.Fmt.{decimal}
use Rattle.std.specs.List.{flat_map, range_with_len}
use Rattle.elf_objects.specs.declared.TheConstants.{SHT_PROGBITS, STB_LOCAL, STB_GLOBAL, STT_FUNC, STT_SECTION}
use Rattle.elf_objects.specs.declared.symbol.Home.TheVariants as home
use Rattle.elf_write.specs.Layout.{NewEntry}
use Rattle.demo_objects.specs.Spec.{NewSymbol, Spec}

-- push %rbp; mov %rsp,%rbp; pop %rbp; ret
abbrev pub frame_code : List ℕ
frame_code = 0x55 ∷ 0x48 ∷ 0x89 ∷ 0xE5 ∷ 0x5D ∷ 0xC3 ∷ []

-- push %rbx; sub $16,%rsp; call of the function before it, which is of the kind above; add $16,%rsp; pop %rbx; ret
abbrev pub call_code : List ℕ
call_code = 0x53 ∷ 0x48 ∷ 0x83 ∷ 0xEC ∷ 0x10 ∷ 0xE8 ∷ 0xF0 ∷ 0xFF ∷ 0xFF ∷ 0xFF ∷ 0x48 ∷ 0x83 ∷ 0xC4 ∷ 0x10 ∷ 0x5B ∷ 0xC3 ∷ []

-- test %edi,%edi; je to the ret; push %rbp; pop %rbp; ret
abbrev pub branch_code : List ℕ
branch_code = 0x85 ∷ 0xFF ∷ 0x74 ∷ 0x02 ∷ 0x55 ∷ 0x5D ∷ 0xC3 ∷ []

-- the code of the function with a number
abbrev pub demo_code : ℕ → List ℕ
demo_code i = if i % 3 == 0 then frame_code else if i % 3 == 1 then call_code else branch_code

-- that of the first n functions
abbrev pub demo_text : ℕ → List ℕ
demo_text n = flat_map demo_code (range_with_len 0 n)

abbrev pub text_section : ℕ → NewEntry
text_section n = record {
  name = codes ".text";
  kind = SHT_PROGBITS;
  flags = 6;
  link = 0;
  info = 0;
  align = 1;
  entsize = 0;
  body = demo_text n;
}

-- the symbol that stands for it
abbrev pub text_symbol : NewSymbol
text_symbol = record { name = []; bind = STB_LOCAL; kind = STT_SECTION; home = home.Section 1; value = 0; size = 0 }

-- the symbol of a function, which begins where those before it end
abbrev pub demo_symbol : ℕ → NewSymbol
demo_symbol i = record {
  name = codes "f" ++ decimal i;
  bind = STB_GLOBAL;
  kind = STT_FUNC;
  home = home.Section 1;
  value = length (demo_text i);
  size = length (demo_code i);
}

abbrev pub demo_symbols : ℕ → List NewSymbol
demo_symbols n = text_symbol ∷ map demo_symbol (range_with_len 0 n)

abbrev pub demo_spec : ℕ → Spec
demo_spec n = record { sections = text_section n ∷ []; symbols = demo_symbols n; relocs = [] }
