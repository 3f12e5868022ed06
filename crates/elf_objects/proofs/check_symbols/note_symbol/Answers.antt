use Rattle.std.proofs.Common.{◌≡◌, ◌<◌, ◌∙◌, ◌==◌, ◌&&◌, ◌%◌, List, Option, Some, None, ℕ, length, sym, ap, arith, refl}
use Rattle.std.proofs.lemmas.List.{get_or_default}
use Rattle.elf_objects.specs.Below.{first_of}
use Rattle.elf_objects.specs.Contents.{is_home, symbol_entry}
use Rattle.elf_objects.specs.declared.symbol.Home.{Home}
use Rattle.elf_objects.specs.declared.symbol.RawSymbol.{RawSymbol}
use Rattle.elf_objects.specs.File.{section_count}
use Rattle.elf_objects.specs.Found.{stands_for_section}
use Rattle.elf_objects.specs.declared.TheConstants.{STT_SECTION}
use Rattle.elf_objects.specs.Table.{raw_symbol, symbol_home}
use Rattle.elf_objects.proofs.Found.{AreLeast-other, AreLeast-set}
use Rattle.elf_objects.proofs.Homes.{home-exists}
use Rattle.elf_objects.proofs.check_symbols.note_symbol.Goals as goal

-- what a symbol stands for, by its fields and its home
stands : (b : List ℕ) (k s : ℕ) (raw : RawSymbol) (home : Home) → raw ≡ raw_symbol b k → home ≡ symbol_home b k → ((raw.info % 16 == STT_SECTION) && (raw.value == 0) && is_home s home) ≡ stands_for_section b s k
unfolding symbol_entry
stands b k s raw home e h = rw (e, h) refl

pub index-requires : goal.index-requires
index-requires c =
    let b = c.args.symbols.now.headers.bytes.now in
    let at = home-exists b c.args.k c.in-Some-stood_for.i c.in-Some.ensures.some.0 (sym c.in-Some.ensures.some.1 ∙ c.in-Some-stood_for.ensures.some) in
    omega (arith, at, c.requires.seen.size_is)

pub index_mut-requires : goal.index_mut-requires
index_mut-requires c =
    let b = c.args.symbols.now.headers.bytes.now in
    let at = home-exists b c.args.k c.in-Some-stood_for.i c.in-Some.ensures.some.0 (sym c.in-Some.ensures.some.1 ∙ c.in-Some-stood_for.ensures.some) in
    omega (arith, at, c.requires.seen.size_is)

pub returns-in-Some-stood_for : goal.returns-in-Some-stood_for
returns-in-Some-stood_for c =
    let b = c.args.symbols.now.headers.bytes.now in
    let k = c.args.k in
    let i = c.in-Some-stood_for.i in
    let at = home-exists b k i c.in-Some.ensures.some.0 (sym c.in-Some.ensures.some.1 ∙ c.in-Some-stood_for.ensures.some) in
    let inside : i < length c.args.found.now.items = omega (arith, at, c.requires.seen.size_is) in
    let read = c.index.ensures ∙ get_or_default c.args.found.now.items i _ None inside in
    AreLeast-set (stands_for_section b) (section_count b) k i c.args.found.now.items c.earliest.result
    (λ s. c.in-Some-stood_for.ensures.only s ∙ stands b k s c.raw-symbol.result c.in-Some.home c.raw-symbol.ensures c.in-Some.ensures.some.1)
    at
    c.requires.seen
    (c.earliest.ensures ∙ ap (λ (o : Option ℕ). first_of o (Some k)) read)

pub returns-in_default-stood_for : goal.returns-in_default-stood_for
returns-in_default-stood_for c =
    let b = c.args.symbols.now.headers.bytes.now in
    let k = c.args.k in
    AreLeast-other (stands_for_section b) (section_count b) k c.args.found.now.items
    (λ s. c.in_default-stood_for.ensures.none s ∙ stands b k s c.raw-symbol.result c.in-Some.home c.raw-symbol.ensures c.in-Some.ensures.some.1)
    c.requires.seen
