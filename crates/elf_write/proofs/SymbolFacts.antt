-- What the writer takes of an object.
use Rattle.std.proofs.Common.{◌≡◌, ℕ, ◌+◌, ◌*◌, ◌/◌, ◌<◌, ◌≤◌, List, [], ◌∷◌, length, Option, Some, None, refl, sym, ap, subst, ◌∙◌, arith}
use Rattle.elf_objects.specs.Contents.{elf_of, section_at}
use Rattle.elf_objects.specs.Elf.{Elf, SectionEntry}
use Rattle.elf_objects.specs.File.{section_count, section_header}
use Rattle.elf_objects.specs.declared.TheConstants.{SHT_SYMTAB, SHT_RELA}
use Rattle.elf_objects.specs.declared.symbol.Reloc.{Reloc}
use Rattle.elf_objects.specs.Object.{IsObject, IsWellFormed}
use Rattle.elf_objects.specs.Table.{body_of, index_table as numbers_table, reloc_at, reloc_of, symbol_count, symbol_table}
use Rattle.elf_write.proofs.Links.{length-sections}
use Rattle.elf_write.specs.SymbolLayout.{extended, headers_place, symbols_inserted}
use Rattle.elf_write.specs.SymbolObject.{CanInsert, extended_object, object_with_symbols}
use Rattle.elf_write.specs.Room.{AreBytes, HasNumbers, HasRoom, HasRoomFor, HasRoomIn, Parts}
use Rattle.elf_write.proofs.Joined.{Base, start, length-joined, length-numbers_with, length-symbols_with}
use Rattle.elf_write.proofs.Known.{Lies, lies, locals_are, numbers_at, same_numbers, section_is, symbols_found}
use Rattle.elf_write.proofs.SymbolOutput.{numbers_of_kind, sizes}
use Rattle.elf_write.proofs.Regions.{plan}
use Rattle.elf_write.proofs.SymbolRelocations.{in_body, reloc_is}
use Rattle.elf_write.proofs.SymbolSays.{is_object}
use Rattle.elf_write.proofs.SymbolWellFormed.{length-symbols}

pub base : (b secs : List ℕ) → IsWellFormed b → AreBytes b → 0 < length secs → CanInsert (elf_of b) secs → (t : ℕ) × Base b secs t
base b secs w bytes some can =
    let l = length-symbols b in
    let n = can.symbols some in
    let s = symbols_found b w (omega arith) (symbol_table b) refl in
    (s.0, record { well = w; can = can; some = some; symbols = s.1; bytes = bytes })

relocs_room : (b secs : List ℕ) (t : ℕ) → Base b secs t → (i : ℕ) → i < section_count b → (section_header b i).kind ≡ SHT_RELA
    → HasRoom (plan b secs) (body_of b (section_header b i))
relocs_room b secs t x i h kind k lt =
    let d = section_header b i in
    let l : Lies b d = lies b x.well i h (λ z. omega arith) (λ z. omega arith) in
    let size = l.size in
    let inside : k < d.size / 24 = omega arith in
    let was : reloc_of b d k ≡ reloc_at (body_of b d) (24 * k) = reloc_is b d k ∙ in_body b d.offset d.size k (body_of b d) (sym l.body) inside in
    let old : (reloc_at (body_of b d) (24 * k)).sym < symbol_count b = subst (λ (r : Reloc). r.sym < symbol_count b) was (x.well.relocs i h kind k inside).symbol in
    let s = sizes b secs t x in
    omega (arith, s.few)

room : (b secs : List ℕ) (t : ℕ) → Base b secs t → (i : ℕ) → i < section_count b
    → HasRoomIn (elf_of b) (plan b secs) (headers_place (elf_of b) secs + 64 * section_count b) i
room b secs t x i h =
    let s = sizes b secs t x in
    let d = section_header b i in
    let is = section_is b i h in
    let symbols : d.kind ≡ SHT_SYMTAB → d.size ≡ 24 * symbol_count b = λ e. ap (λ (k : ℕ). (section_header b k).size) (x.symbols.one.only i h e) ∙ x.symbols.size in
    let info : d.kind ≡ SHT_SYMTAB → d.info ≤ symbol_count b = λ e. (let same : d.info ≡ (section_header b t).info = ap (λ (k : ℕ). (section_header b k).info) (x.symbols.one.only i h e) in omega (arith, x.symbols.high)) in
    subst (HasRoomFor (plan b secs) (headers_place (elf_of b) secs + 64 * section_count b) i) (sym is) (record {
      header = omega arith;
      short = s.total;
      body = λ e. (let l : Lies b d = lies b x.well i h (λ z. omega arith) (λ z. omega arith) in omega (arith, l.size, l.inside, s.places.behind, s.places.symbols));
      relocs = λ e. relocs_room b secs t x i h e;
      symbols = λ e. (let n = info e in omega (arith, s.few));
      size = λ e. (let n = symbols e in omega (arith, s.places.symbols, s.total));
      numbers = λ e. (let n = numbers_of_kind b x.well i h e in let place = s.places.numbers i n in omega (arith, n.size, s.total));
      group = λ e. (let g = ((x.well.links i h).group e).signature in omega (arith, s.few));
    })

numbers_facts : (b secs : List ℕ) (t : ℕ) → Base b secs t → (f : Option ℕ) → numbers_table b ≡ f → HasNumbers (elf_of b) secs f
numbers_facts b secs t x None e = omega arith
numbers_facts b secs t x (Some i) e =
    let n = numbers_at b x.well i e in
    let l = length-sections b in
    let first = locals_are b t x.symbols in
    let body : length (section_at (elf_of b) i).body ≡ (section_header b i).size = ap (λ (s : SectionEntry). length s.body) (section_is b i n.one.below) ∙ n.body.size in
    let long = length-numbers_with b secs t i (start b secs t x) n in
    record {
      below = omega (arith, n.one.below);
      entries = omega (arith, n.size, x.symbols.high);
      longer = omega (arith, n.size);
    }

pub facts : (b secs : List ℕ) (t : ℕ) → Base b secs t → Parts (elf_of b) secs t
facts b secs t x =
    let l = length-sections b in
    let s = sizes b secs t x in
    let first = locals_are b t x.symbols in
    let below = x.symbols.one.below in
    let body : length (section_at (elf_of b) t).body ≡ (section_header b t).size = ap (λ (y : SectionEntry). length y.body) (section_is b t below) ∙ x.symbols.body.size in
    let long = length-symbols_with b secs t (start b secs t x) in
    let j = length-joined b secs x.well in
    let high = x.symbols.high in
    let size = x.symbols.size in
    let total = s.total in
    let few = x.well.table.headers in
    record {
      table = x.symbols.found;
      below = omega arith;
      entries = omega arith;
      longer = omega arith;
      numbers = subst (HasNumbers (elf_of b) secs) (sym (same_numbers b)) (numbers_facts b secs t x (numbers_table b) refl);
      file = s.file;
      headers = omega arith;
      end = omega arith;
      short = omega arith;
      within = omega arith;
      room = λ i h. subst (λ (n : ℕ). HasRoomIn (elf_of b) (plan b secs) (headers_place (elf_of b) secs + 64 * n) i) (sym l) (room b secs t x i (omega arith));
    }

-- the same of an object
pub parts : (b : List ℕ) (o : Elf) (secs : List ℕ) → IsObject b o → AreBytes b → 0 < length secs → CanInsert o secs → (t : ℕ) × Parts o secs t
parts b o secs ok bytes some can =
    subst (λ (y : Elf). CanInsert y secs → (t : ℕ) × Parts y secs t) (sym ok.says)
    (λ c. (let x = base b secs ok.well_formed bytes some c in (x.0, facts b secs x.0 x.1))) can

pub parts_at : (b : List ℕ) (o : Elf) (secs : List ℕ) (t : ℕ) → IsObject b o → AreBytes b → 0 < length secs → CanInsert o secs → o.symbol_table ≡ Some t → Parts o secs t
parts_at b o secs t ok bytes some can e =
    let p = parts b o secs ok bytes some can in
    let same : Some p.0 ≡ Some t = sym p.1.table ∙ e in
    let is : p.0 ≡ t = cc in
    subst (Parts o secs) is p.1

pub inserted-is_object : (b : List ℕ) (o : Elf) (secs : List ℕ) → IsObject b o → AreBytes b → 0 < length secs → CanInsert o secs
    → IsObject (extended o secs) (extended_object o secs)
inserted-is_object b o secs ok bytes some can =
    subst (λ (y : Elf). CanInsert y secs → IsObject (extended y secs) (extended_object y secs)) (sym ok.says)
    (λ c. (let x = base b secs ok.well_formed bytes some c in is_object b secs x.0 x.1)) can

pub same_bytes : (b : List ℕ) (o : Elf) → IsObject b o → b ≡ o.bytes
same_bytes b o ok = sym (ap (λ (y : Elf). y.bytes) ok.says)

pub inserted-some : (o : Elf) (secs : List ℕ) → 0 < length secs → symbols_inserted o secs ≡ extended o secs
inserted-some o [] h = absurd (omega arith)
inserted-some o (s ∷ secs) h = refl

pub object-some : (o : Elf) (secs : List ℕ) → 0 < length secs → object_with_symbols o secs ≡ extended_object o secs
object-some o [] h = absurd (omega arith)
object-some o (s ∷ secs) h = refl
